use Rattle.std.proofs.Common.{◌≡◌, true, false, arith, rules}
use Rattle.std.specs.List.Sorted.{IsPartitionPoint}
use Rattle.std.proofs.lemmas.List.Sorted.{IsPartitionPoint-from_clause}
use Rattle.opening_match.specs.declared.entries.Entry.{Entry}
use Rattle.opening_match.specs.Stretches.{is_before}
use Rattle.opening_match.proofs.Stretching.{parted}
use Rattle.opening_match.proofs.stretches.front_count.Goals as goal

pub returns : goal.returns
returns c =
    let level = c.args.level in
    let bound = c.args.bound in
    let point : IsPartitionPoint (λ (e : Entry). is_before level bound e ≡ true) (λ (e : Entry). is_before level bound e ≡ false) c.args.entries.now c.partition_point.result =
    IsPartitionPoint-from_clause (is_before level bound) _ _ c.partition_point.ensures.partitioned (parted level bound c.args.entries.now c.requires) (λ a r q k. search rules) in
    record {
      few = c.partition_point.ensures.bound;
      before = λ k d under. point.0 k d (omega arith) under;
      rest = λ k d from within. point.1 k d from within;
    }
