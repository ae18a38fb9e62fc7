-- What was taken and what the rest closes is what is closed.
use Rattle.std.proofs.Common.{◌∙◌, ◌<◌, length, sym, arith}
use Rattle.route_search.specs.Graphs.{network}
use Rattle.venue_state.proofs.Carrying.{listed_one, listed_not}
use Rattle.venue_state.proofs.closures.marked_list.Goals as goal
use Rattle.venue_state.proofs.closures.marked_list.Goals.{then-not-is_empty+in_ok-push, else-not-is_empty}

pub loop-k-preserved : goal.loop-k-preserved
loop-k-preserved c =
    let within : c.loop-k.k < length (network c.args.graph.now).closables = omega arith in
    let marked : c.loop-k.k < length c.args.marks.now = omega (arith, c.requires) in
    elim c.if-not-is_empty.branch [
      | then-not-is_empty+in_ok-push w ↦
          rw (w.closed-is, w.in_ok-push.ensures.ok)
          (listed_one c.args.marks.now _ _ w.closable_id-feature.result c.profiles-profiles.result _ _ marked within w.closable_id-feature.ensures c.profiles-profiles.ensures
          (sym c.is_empty.ensures ∙ w.if-not-is_empty.true) c.loop-k.invariant)
      | else-not-is_empty w ↦
          rw w.closed-is
          (listed_not c.args.marks.now _ _ (record { 0 = 0 }) c.profiles-profiles.result _ _ marked within c.profiles-profiles.ensures (sym c.is_empty.ensures ∙ w.if-not-is_empty.false) c.loop-k.invariant)
    ]
