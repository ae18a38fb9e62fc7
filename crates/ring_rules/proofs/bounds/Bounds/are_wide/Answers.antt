use Rattle.std.proofs.Common.{sym, ◌∙◌, arith, true≢false}
use Rattle.std.proofs.lemmas.Int.{ints}
use Rattle.ring_rules.specs.Bounds.{IsWide}
use Rattle.ring_rules.proofs.BoundsLemmas.{true_unless, AreInRange, spread_by_x, spread_by_y, all_close, not_spread}
use Rattle.ring_rules.proofs.bounds.Bounds.are_wide.Goals as goal

pub returns-then-is_wide-clause-spread : goal.returns-then-is_wide-clause-spread
returns-then-is_wide-clause-spread c = λ xs h.
    let range : AreInRange c.args.self.x = record { most = omega (arith, ints); fewest = omega (arith, ints) } in
    (λ t. spread_by_x xs c.args.self range h (c.is_wide.ensures.0 t), λ _. c.if-is_wide.true)

pub returns-then-is_wide-clause-close : goal.returns-then-is_wide-clause-close
returns-then-is_wide-clause-close c = λ xs h e. absurd (true≢false (sym c.if-is_wide.true ∙ e))

pub returns-else-is_wide-clause-spread : goal.returns-else-is_wide-clause-spread
returns-else-is_wide-clause-spread c = λ xs h.
    let range : AreInRange c.args.self.y = record { most = omega (arith, ints); fewest = omega (arith, ints) } in
    let narrow : ¬ IsWide c.args.self.x = λ w. true≢false (sym (c.if-is_wide.ensures.1 w)) in (
      λ t. spread_by_y xs c.args.self range h (c.is_wide-else-is_wide.ensures.0 t),
      λ s. true_unless c.is_wide-else-is_wide.result (λ e.
          not_spread xs (all_close xs c.args.self h narrow (λ w. true≢false (sym (c.is_wide-else-is_wide.ensures.1 w) ∙ e))) s),
    )

pub returns-else-is_wide-clause-close : goal.returns-else-is_wide-clause-close
returns-else-is_wide-clause-close c = λ xs h e.
    let narrow : ¬ IsWide c.args.self.x = λ w. true≢false (sym (c.if-is_wide.ensures.1 w)) in
    all_close xs c.args.self h narrow (λ w. true≢false (sym (c.is_wide-else-is_wide.ensures.1 w) ∙ e))
