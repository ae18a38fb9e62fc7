use Rattle.std.proofs.Common.{◌≡◌, ℕ, true, false, ltb, ltb-true, ltb-false, arith, rules}
use Rattle.std.specs.List.Sorted.{IsPartitionPoint}
use Rattle.std.proofs.lemmas.List.Sorted.{IsPartitionPoint-from_clause, IsPartitionedBy-ltb}
use Rattle.route_answers.proofs.MemberPlaces.{never_fall, stands_behind}
use Rattle.route_answers.proofs.inside.place_of.Goals as goal

pub returns : goal.returns
returns c =
    let members = c.args.members.now in
    let n = c.args.n in
    let parted = IsPartitionedBy-ltb (λ (m : ℕ). m) members n (never_fall members c.requires.rise) in
    let point : IsPartitionPoint (λ (m : ℕ). ltb m n ≡ true) (λ (m : ℕ). ltb m n ≡ false) members c.partition_point.result =
    IsPartitionPoint-from_clause (λ (m : ℕ). ltb m n) _ _ c.partition_point.ensures.partitioned parted (λ a r q k. search rules) in
    stands_behind members n c.partition_point.result c.requires.rise c.requires.there (λ k d under. ltb-true _ _ (point.0 k d (omega arith) under)) (λ k d from within. ltb-false _ _ (point.1 k d from within))
