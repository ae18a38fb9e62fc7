use Rattle.std.proofs.Common.{◌≡◌, ℕ, ◌-◌, ◌<◌, ◌≤◌, true, false, leb, List, Some, length, get_or, subst, arith, rules}
use Rattle.std.specs.Prelude.{slice_get}
use Rattle.std.specs.List.{AllWithin}
use Rattle.std.proofs.lemmas.Bool.{leb-true, leb-false}
use Rattle.std.proofs.lemmas.List.Sorted.{IsPartitionPoint-from_clause, IsPartitionedBy-leb}
use Rattle.std.proofs.lemmas.Option.{slice_get_within, slice_get-get_or, get_or_from_slice_get}
use Rattle.link_graph.specs.declared.parts.Seat.{Seat}
use Rattle.link_graph.specs.Leads.{HasNoSeat, IsLastSeat}
use Rattle.link_graph.proofs.leads.last_seat.Goals as goal

behind : (seats : List Seat) (place count j : ℕ) (other : Seat) → AllWithin (λ (s : Seat). leb s.first place ≡ false) seats count (length seats) → count ≤ j → slice_get seats j ≡ Some other → place < other.first
behind seats place count j other h from at =
    let late = h j other from (slice_get_within seats j other at) in
    subst (λ (s : Seat). place < s.first) (get_or_from_slice_get seats j other other at) (leb-false (get_or seats j other).first place late)

none_before : (seats : List Seat) (place count : ℕ) → AllWithin (λ (s : Seat). leb s.first place ≡ false) seats count (length seats) → count ≡ 0 → HasNoSeat seats place
none_before seats place count h e = record { all = λ j other at. behind seats place count j other h (omega (arith, e)) at }

last_before : (seats : List Seat) (place count : ℕ) (d : Seat) → AllWithin (λ (s : Seat). leb s.first place ≡ true) seats 0 count → AllWithin (λ (s : Seat). leb s.first place ≡ false) seats count (length seats)
    → (count ≡ 0 → ⊥) → count ≤ length seats → IsLastSeat seats place (get_or seats (count - 1) d)
last_before seats place count d before after some within =
    let at : count - 1 < length seats = omega (arith, some, within) in
    record {
      k = count - 1;
      there = slice_get-get_or seats (count - 1) d at;
      before = leb-true (get_or seats (count - 1) d).first place (before (count - 1) d (omega arith) (omega (arith, some)));
      last = λ j other later here. behind seats place count j other after (omega (arith, later)) here;
    }

pub returns-then-count-eq0 : goal.returns-then-count-eq0
returns-then-count-eq0 c =
    let point = IsPartitionPoint-from_clause (λ (s : Seat). leb s.first c.args.place) _ _ c.partition_point-count.ensures.partitioned (IsPartitionedBy-leb (λ (s : Seat). s.first) c.args.seats.now c.args.place c.requires) (λ a r q k. search rules) in
    none_before c.args.seats.now c.args.place c.partition_point-count.result point.1 c.if-count-eq0.true

pub returns-else-count-eq0 : goal.returns-else-count-eq0
returns-else-count-eq0 c =
    let point = IsPartitionPoint-from_clause (λ (s : Seat). leb s.first c.args.place) _ _ c.partition_point-count.ensures.partitioned (IsPartitionedBy-leb (λ (s : Seat). s.first) c.args.seats.now c.args.place c.requires) (λ a r q k. search rules) in
    last_before c.args.seats.now c.args.place c.partition_point-count.result _ point.0 point.1 (λ e. omega (arith, e)) c.partition_point-count.ensures.bound
