use Rattle.venue_state.specs.Preparing.{IsUnready}
use Rattle.venue_state.specs.Making.{closure_act}
use Rattle.venue_state.specs.declared.unready.Unready.TheVariants as unready
use Rattle.venue_state.proofs.Readying.{made_closure, due_closure}
use Rattle.venue_state.proofs.changes.closed_for.Goals as goal

pub returns-in-Ok-clause-outcome : goal.returns-in-Ok-clause-outcome
returns-in-Ok-clause-outcome c shelf =
    made_closure shelf c.args.board.now c.args.worker c.args.asked.now c.args.profiles c.in-Ok.ready c.next_number-number.result c.args.names
    c.requires.closable c.requires.set c.requires.names c.in-Ok.ensures.ready c.next_number-number.ensures

pub returns-in-Err-Full-clause-outcome : goal.returns-in-Err-Full-clause-outcome
returns-in-Err-Full-clause-outcome c shelf =
    let full : IsUnready c.args.board.now (closure_act c.args.asked.now c.args.profiles) unready.Full = rw c.in-Err-Full.field-0-is at c.in-Err-Full.ensures.unready in
    (due_closure c.args.board.now c.args.asked.now c.args.profiles c.requires.set full, (c.number-in-Err-Full.ensures, full.2))
