use Rattle.std.proofs.Common.{◌≡◌, ℕ, false, List, Bool, length, ap, ◌∙◌, arith}
use Rattle.unit_sight.specs.Rooms.{sees_in}
use Rattle.unit_sight.proofs.TableLemmas.{length_table}
use Rattle.unit_sight.proofs.PairLemmas.{none_asked, all_done}
use Rattle.unit_sight.proofs.pairs.join_seeing.Goals as goal

-- the table has a row for each place
rows : (bits table : List (List Bool)) (n size : ℕ) → bits ≡ table → length table ≡ n → size ≡ length bits → size ≡ n
rows bits table n size e f g = g ∙ ap (λ (t : List (List Bool)). length t) e ∙ f

pub loop-i-init : goal.loop-i-init
loop-i-init c =
    let spots = c.args.room.now.spots.now in
    record {
      wall = tt;
      size = ap (λ (t : List (List Bool)). length t) c.requires.blank ∙ length_table (length spots) (λ a b. false);
      told = λ shape is. none_asked (sees_in shape spots c.args.room.now.tolerance) (length spots) c.args.bits.now c.requires.blank;
    }

pub join_row-requires-clause-place : goal.join_row-requires-clause-place
join_row-requires-clause-place c =
    let size = rows c.args.bits.now _ (length c.args.room.now.spots.now) c.size-i-end.result c.requires.blank (length_table (length c.args.room.now.spots.now) (λ a b. false)) c.size-i-end.ensures.size in
    omega arith

pub returns : goal.returns
returns c =
    λ shape is.
    let spots = c.args.room.now.spots.now in
    let size = rows c.args.bits.now _ (length spots) c.size-i-end.result c.requires.blank (length_table (length spots) (λ a b. false)) c.size-i-end.ensures.size in
    let last : c.loop-i.i ≡ length spots = omega arith in
    all_done (sees_in shape spots c.args.room.now.tolerance) (length spots) c.loop-i.i c.loop-i.bits last (c.loop-i.invariant.told shape is)
