use Rattle.opening_match.proofs.Ordering.{entries_sorted, rising}
use Rattle.opening_match.proofs.entries.sorted_entries.Goals as goal

pub returns-clause-entries : goal.returns-clause-entries
returns-clause-entries c = entries_sorted c.args.openings.now c.in_ok-entries.entries.items _ c.in_ok-entries.ensures c.sort_unstable.ensures.permutation

pub returns-clause-rising : goal.returns-clause-rising
returns-clause-rising c = rising _ c.sort_unstable.ensures.sorted
