use Rattle.std.proofs.Common.{subst, sym}
use Rattle.venue_types.specs.declared.query.Change.{Change}
use Rattle.venue_state.specs.Making.{shelf_of, IsOutcome}
use Rattle.venue_state.proofs.changes.ready_change.Goals as goal

pub returns-in-Closure-clause-outcome : goal.returns-in-Closure-clause-outcome
returns-in-Closure-clause-outcome g c =
    let shelf = shelf_of (g.F.Folders.files c.args.reader.now.folders) c.args.reader.now.base in
    subst (λ (asked : Change). IsOutcome shelf c.args.board.now c.args.worker asked c.ready_closure.result) (sym c.in-Closure.is) (c.ready_closure.ensures.outcome shelf)

pub returns-in-Closure-clause-counts : goal.returns-in-Closure-clause-counts
returns-in-Closure-clause-counts g c = c.ready_closure.ensures.counts (g.F.Folders.faults c.args.reader.now.folders)
