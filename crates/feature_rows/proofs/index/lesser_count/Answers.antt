use Rattle.std.proofs.Common.{◌≡◌, true, false, ltb, ltb-true, ltb-false, arith, rules}
use Rattle.std.specs.List.Sorted.{IsPartitionPoint}
use Rattle.std.proofs.lemmas.List.Sorted.{IsPartitionPoint-from_clause, IsPartitionedBy-ltb}
use Rattle.feature_rows.specs.declared.index.Entry.{Entry}
use Rattle.feature_rows.proofs.index.lesser_count.Goals as goal

pub returns : goal.returns
returns c =
    let parted = IsPartitionedBy-ltb (λ (e : Entry). e.id.0) c.args.entries.now c.args.id.0 c.requires in
    let point : IsPartitionPoint (λ (e : Entry). ltb e.id.0 c.args.id.0 ≡ true) (λ (e : Entry). ltb e.id.0 c.args.id.0 ≡ false) c.args.entries.now c.partition_point.result =
    IsPartitionPoint-from_clause (λ (e : Entry). ltb e.id.0 c.args.id.0) _ _ c.partition_point.ensures.partitioned parted (λ a r q k. search rules) in
    record {
      less = λ k d under. ltb-true _ _ (point.0 k d (omega arith) under);
      rest = λ k d from within. ltb-false _ _ (point.1 k d from within);
    }
