use Rattle.std.proofs.Common.{rules, ◌≡◌, ◌<◌, ℕ, sym, length, slice_index_or}
use Rattle.shared_hall.specs.Facts.{Facts}
use Rattle.shared_hall.proofs.Passes.{same_parts}
use Rattle.test_journal.proofs.workers.work_all.Goals as goal

pub returns-clause-parts : goal.returns-clause-parts
returns-clause-parts g c =
    let same : length c.for_each_mut.new.s ≡ length c.args.seats.now = search rules in
    let each : (i : ℕ) (d : Facts) → i < length c.args.seats.now → (slice_index_or c.for_each_mut.new.s i d).parts ≡ (slice_index_or c.args.seats.now i d).parts = search rules in
    same_parts c.args.seats.now c.for_each_mut.new.s (sym same) each
