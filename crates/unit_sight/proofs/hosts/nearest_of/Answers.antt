use Rattle.std.proofs.Common.{◌+◌, ◌<◌, ℕ, true, not, length, filter, get_or, Bool, Some, ap, sym, ◌∙◌, refl, arith}
use Rattle.unit_sight.specs.declared.hosts.Distant.{Distant}
use Rattle.unit_sight.specs.Tables.{places}
use Rattle.unit_sight.specs.Nearest.{nearer_one}
use Rattle.unit_sight.proofs.HostLemmas.{nearest_more, nearest_same, nearest_at, some_below, same_below}
use Rattle.unit_sight.proofs.hosts.nearest_of.Goals as goal
use Rattle.unit_sight.proofs.hosts.nearest_of.Goals.{then-sees_some, else-sees_some}

pub loop-b-preserved : goal.loop-b-preserved
loop-b-preserved c =
    let n = length c.args.lengths.now.spots.now in
    let low : c.loop-b.b < n = omega arith in
    record {
      place = elim c.if-sees_some.branch [
        | then-sees_some w ↦ (let next : Distant = record { place = c.loop-b.b; length = w.length_between.result } in some_below n c.loop-b.best c.if-sees_some.best next (w.best-is ∙ ap (λ (one : Distant). Some one) w.nearer_of.ensures) c.loop-b.invariant.place low)
        | else-sees_some w ↦ same_below n c.loop-b.best c.if-sees_some.best w.best-is c.loop-b.invariant.place
      ];
      told =
          λ far lengths.
          let sees : ℕ → Bool = λ b. not (get_or c.args.blind.now b true) in
          elim c.if-sees_some.branch [
            | then-sees_some w ↦
                (let next : Distant = record { place = c.loop-b.b; length = w.length_between.result } in
                nearest_at (far c.args.a) (filter sees (places (c.loop-b.b + 1))) (Some (nearer_one c.loop-b.best next)) c.if-sees_some.best
                (w.best-is ∙ ap (λ (one : Distant). Some one) w.nearer_of.ensures)
                (nearest_more (far c.args.a) sees c.loop-b.b c.loop-b.best next (sym c.sees_some.ensures ∙ w.if-sees_some.true) refl (w.length_between.ensures far lengths) (c.loop-b.invariant.told far lengths)))
            | else-sees_some w ↦
                nearest_at (far c.args.a) (filter sees (places (c.loop-b.b + 1))) c.loop-b.best c.if-sees_some.best w.best-is
                (nearest_same (far c.args.a) sees c.loop-b.b c.loop-b.best (sym c.sees_some.ensures ∙ w.if-sees_some.false) (c.loop-b.invariant.told far lengths))
          ];
    }
