use Rattle.std.proofs.Common.{◌≡◌, true, false, ltb, ltb-true, ltb-false, arith, rules}
use Rattle.std.specs.List.Sorted.{IsPartitionPoint}
use Rattle.std.proofs.lemmas.List.Sorted.{IsPartitionPoint-from_clause, IsPartitionedBy-ltb}
use Rattle.route_answers.specs.declared.starts.AreaStart.{AreaStart}
use Rattle.route_answers.proofs.starts.lesser_count.Goals as goal

pub returns : goal.returns
returns c =
    let parted = IsPartitionedBy-ltb (λ (start : AreaStart). start.via) c.args.starts.now c.args.via c.requires in
    let point : IsPartitionPoint (λ (start : AreaStart). ltb start.via c.args.via ≡ true) (λ (start : AreaStart). ltb start.via c.args.via ≡ false) c.args.starts.now c.partition_point.result =
    IsPartitionPoint-from_clause (λ (start : AreaStart). ltb start.via c.args.via) _ _ c.partition_point.ensures.partitioned parted (λ a r q k. search rules) in
    record {
      less = λ k d under. ltb-true _ _ (point.0 k d (omega arith) under);
      rest = λ k d from within. ltb-false _ _ (point.1 k d from within);
    }
