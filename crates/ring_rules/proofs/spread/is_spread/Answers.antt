use Rattle.ring_rules.proofs.spread.is_spread.Goals as goal

pub returns-clause-spread : goal.returns-clause-spread
returns-clause-spread c =
    let decides = c.are_wide.ensures.spread _ c.bounds_of_judged.ensures in (
      λ t. let s = decides.0 t in record { one = s.one; other = s.other; has_one = s.has_one; has_other = s.has_other; apart = s.apart },
      λ s. decides.1 (record { one = s.one; other = s.other; has_one = s.has_one; has_other = s.has_other; apart = s.apart }),
    )

pub returns-clause-close : goal.returns-clause-close
returns-clause-close c = c.are_wide.ensures.close _ c.bounds_of_judged.ensures
