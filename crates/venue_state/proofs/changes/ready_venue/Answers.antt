use Rattle.std.specs.Arc.{arc_value}
use Rattle.venue_history.specs.Built.{IsVenueOf}
use Rattle.venue_history.specs.declared.entry.Act.TheVariants.{Published}
use Rattle.venue_state.specs.Preparing.{IsUnready}
use Rattle.venue_state.specs.declared.unready.Unready.TheVariants as unready
use Rattle.venue_state.proofs.Readying.{full_publication}
use Rattle.venue_state.proofs.changes.ready_venue.Goals as goal

pub returns-in-Err-Full-clause-outcome : goal.returns-in-Err-Full-clause-outcome
returns-in-Err-Full-clause-outcome c shelf folder read =
    let full : IsUnready c.args.board.now (Published c.args.venue) unready.Full = rw c.in-Err-Full.field-0-is at c.in-Err-Full.ensures.unready in
    let of : IsVenueOf c.args.files c.args.board.now.settings (arc_value c.args.venue) = rw c.requires.settings at c.requires.venue in
    full_publication shelf c.args.board.now folder c.args.files (arc_value c.args.venue) c.number.result read of c.number.ensures full.2
