-- Each closed feature is marked for whom it is closed where it can be, and dropped where it can't.
use Rattle.std.proofs.Common.{◌∙◌, List, ◌++◌, map, length, sym, ap}
use Rattle.venue_types.specs.declared.feature_id.FeatureId.{FeatureId}
use Rattle.venue_history.specs.Closed.{feature_of}
use Rattle.venue_history.proofs.Closings.{closings_none}
use Rattle.route_search.specs.Graphs.{network}
use Rattle.venue_state.specs.Tallies.{gone_from}
use Rattle.venue_state.proofs.Carrying.{carried_mark, gone_one, gone_not}
use Rattle.venue_state.proofs.Marking.{none_closed}
use Rattle.venue_state.proofs.closures.carry_over.Goals as goal
use Rattle.venue_state.proofs.closures.carry_over.Goals.{then-not-mark+in_ok-push, else-not-mark}

pub loop-it-init : goal.loop-it-init
loop-it-init c =
    let ids = (network c.args.graph.now).closables in
    let none = none_closed c.in_ok-none.field-0 ids c.in_ok-none.ensures.nobody in
    record {
      tallied = record { whole = c.in_ok-none.ensures.marks; counted = sym (ap length none) };
      marked = none ∙ sym (closings_none ids);
      dropped = ap (λ (ys : List FeatureId). ys ++ gone_from ids (map feature_of c.args.closed.now)) c.new-dropped.ensures;
    }

pub loop-it-preserved : goal.loop-it-preserved
loop-it-preserved c =
    elim c.if-not-mark.branch [
      | then-not-mark+in_ok-push w ↦ record {
        tallied = c.mark.ensures.tallied;
        marked = carried_mark _ c.args.closed.now _ _ _ _ c.requires c.loop-it-test.true c.loop-it.invariant.marked c.mark.ensures.marked;
        dropped =
            rw (w.dropped-is, w.in_ok-push.ensures.ok)
            (gone_one _ c.args.closed.now _ _ _ _ c.loop-it-test.true (sym c.mark.ensures.can ∙ w.if-not-mark.true) c.loop-it.invariant.dropped);
      }
      | else-not-mark w ↦ record {
        tallied = c.mark.ensures.tallied;
        marked = carried_mark _ c.args.closed.now _ _ _ _ c.requires c.loop-it-test.true c.loop-it.invariant.marked c.mark.ensures.marked;
        dropped =
            rw w.dropped-is
            (gone_not _ c.args.closed.now _ _ _ _ c.loop-it-test.true (sym c.mark.ensures.can ∙ w.if-not-mark.false) c.loop-it.invariant.dropped);
      }
    ]
