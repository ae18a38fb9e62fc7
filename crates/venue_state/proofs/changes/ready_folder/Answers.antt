use Rattle.std.proofs.Common.{ℕ, subst, sym}
use Rattle.venue_state.specs.Making.{CountsOutcome}
use Rattle.venue_state.proofs.changes.ready_folder.Goals as goal

pub returns-in-Ok-clause-counts : goal.returns-in-Ok-clause-counts
returns-in-Ok-clause-counts g c =
    let before = g.F.Folders.faults c.args.reader.now.folders in
    subst (λ (n : ℕ). CountsOutcome before n c.ready_files.result) (sym c.in-Ok.ensures.kept) (c.ready_files.ensures.counts before)
