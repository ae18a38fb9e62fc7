use Rattle.std.proofs.Common.{◌≡◌, ◌||◌, List, Bool, length, sym, ap, ◌∙◌, arith}
use Rattle.unit_sight.specs.Tables.{joins}
use Rattle.unit_sight.specs.Rooms.{sees_in}
use Rattle.unit_sight.proofs.RoomLemmas.{sees_turns}
use Rattle.unit_sight.proofs.PairLemmas.{is_pair, pair_joined, pair_left, row_done, size_of}
use Rattle.unit_sight.proofs.pairs.join_row.Goals as goal
use Rattle.unit_sight.proofs.pairs.join_row.Goals.{then-sees_other, else-sees_other}

pub loop-j-preserved : goal.loop-j-preserved
loop-j-preserved c = record {
  wall = c.sees_other.ensures.wall;
  size = elim c.if-sees_other.branch [
    | then-sees_other w ↦ size_of (length c.args.room.now.spots.now) (λ a b. joins c.loop-j.bits a b || is_pair c.args.i c.loop-j.j a b) c.loop-j.bits c.if-sees_other.bits c.loop-j.invariant.size (w.bits-is ∙ w.join.ensures)
    | else-sees_other w ↦ ap (λ (t : List (List Bool)). length t) w.bits-is ∙ c.loop-j.invariant.size
  ];
  told =
      λ shape is start.
      let spots = c.args.room.now.spots.now in
      let t = c.args.room.now.tolerance in
      elim c.if-sees_other.branch [
        | then-sees_other w ↦ pair_joined (sees_in shape spots t) (length spots) c.args.i c.loop-j.j c.loop-j.bits c.if-sees_other.bits (λ a b. sees_turns shape spots t a b) c.loop-j-test.true c.requires.place (sym (c.sees_other.ensures.told shape is) ∙ w.if-sees_other.true) (c.loop-j.invariant.told shape is start) (w.bits-is ∙ w.join.ensures)
        | else-sees_other w ↦ w.bits-is ∙ pair_left (sees_in shape spots t) (length spots) c.args.i c.loop-j.j c.loop-j.bits (λ a b. sees_turns shape spots t a b) c.loop-j-test.true (sym (c.sees_other.ensures.told shape is) ∙ w.if-sees_other.false) (c.loop-j.invariant.told shape is start)
      ];
}

pub returns-clause-told : goal.returns-clause-told
returns-clause-told c =
    λ shape is start.
    let spots = c.args.room.now.spots.now in
    let last : c.loop-j.j ≡ c.args.i = omega arith in
    row_done (sees_in shape spots c.args.room.now.tolerance) (length spots) c.args.i c.loop-j.j c.loop-j.bits last (c.loop-j.invariant.told shape is start)
