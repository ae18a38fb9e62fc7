use Rattle.std.proofs.Common.{◌≤◌, length, map, arith}
use Rattle.std.proofs.lemmas.List.{length-map}
use Rattle.feature_rows.proofs.Entries.{rising}
use Rattle.feature_rows.proofs.Indexing.{of_entries}
use Rattle.feature_rows.proofs.index.Index.of.Goals as goal

pub invariant_of-result : goal.invariant_of-result
invariant_of-result g c = record { rising = rising c.sort_unstable.new.self.items c.sort_unstable.ensures.sorted }

pub returns : goal.returns
returns g c =
    let rows = c.args.rows.now in
    let few : length (map g.R.HasId.id_of rows) ≤ length rows = omega (arith, length-map rows g.R.HasId.id_of) in
    of_entries (map g.R.HasId.id_of rows) (length rows) c.in_ok-entries.entries.items _ few c.in_ok-entries.ensures c.sort_unstable.ensures.permutation c.sort_unstable.ensures.sorted
