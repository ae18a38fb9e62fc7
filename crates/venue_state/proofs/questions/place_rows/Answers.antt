-- One row more.
use Rattle.std.proofs.Common.{◌∙◌, ◌<◌, length, arith}
use Rattle.venue_history.specs.Places.{places}
use Rattle.venue_state.proofs.NameLemmas.{copied_more}
use Rattle.venue_state.proofs.questions.place_rows.Goals as goal

pub loop-n-preserved : goal.loop-n-preserved
loop-n-preserved c =
    let within : c.loop-n.n < length (places c.args.venue.now.features) = omega arith in
    c.in_ok-push.ensures.items ∙ copied_more (places c.args.venue.now.features) c.loop-n.n c.in_ok-row.row c.loop-n.rows.items within c.loop-n.invariant c.in_ok-row.ensures
