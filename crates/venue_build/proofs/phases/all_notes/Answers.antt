use Rattle.std.proofs.Common.{List, subst}
use Rattle.venue_types.specs.declared.finding.Note.{Note}
use Rattle.rule_reports.specs.Passes.{Adds}
use Rattle.link_graph.specs.Unplaced.{IsUnplaced}
use Rattle.venue_build.proofs.Noting.{added_notes}
use Rattle.venue_build.proofs.phases.all_notes.Goals as goal

pub returns : goal.returns
returns c =
    let features = c.args.features.now in
    let tolerance = c.args.settings.now.border_tol in
    let gathered = c.place_notes.new.notes.items in
    added_notes (IsUnplaced features tolerance) c.args.noted gathered c.notes_in_order.result
    (subst (λ (xs : List Note). Adds (IsUnplaced features tolerance) xs gathered) c.into_vec-notes.ensures
    (c.in_ok-place_notes.ensures.adds tolerance c.requires.ground.touches))
    c.notes_in_order.ensures
