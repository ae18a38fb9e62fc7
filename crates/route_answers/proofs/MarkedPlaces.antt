-- The set of the places of the members that pass, and how many neighbours are in it.
use Rattle.std.proofs.Common.{◌≡◌, ℕ, zero, suc, ◌+◌, ◌<◌, ◌≤◌, Bool, true, false, ◌&&◌, ◌||◌, ◌==◌, cond, List, [], ◌∷◌, length, get_or, Some, take, map, filter, refl, sym, ap, ◌∙◌, subst, arith, ⊎_elim, eq-eqb, inl, inr}
use Rattle.std.specs.Prelude.{slice_get}
use Rattle.std.specs.List.Sorted.{IsStrictlyIncreasing}
use Rattle.std.proofs.Math.Bool.{and-false, or-false, or-true}
use Rattle.std.proofs.lemmas.Bool.{cases_lt, ne_eqb}
use Rattle.std.proofs.lemmas.List.{get_or_past, length-map, take_all}
use Rattle.std.proofs.lemmas.List.Filters.{length-filter_more}
use Rattle.unit_sight.specs.Tables.{joins, neighbours, places}
use Rattle.unit_sight.proofs.Counts.{count_same_next, count_next, filter_twice}
use Rattle.unit_sight.proofs.TableLemmas.{get_or_row, length_places}
use Rattle.link_graph.specs.declared.areas.Area.{Area}
use Rattle.link_graph.specs.Areas.{IsArea, joined_across}
use Rattle.link_graph.specs.Graphs.{network}
use Rattle.route_answers.specs.declared.room.Room.{Room}
use Rattle.route_answers.specs.Adding.{IsRoom}
use Rattle.route_answers.specs.Passing.{AreMarked, passes_node}
use Rattle.route_answers.proofs.MemberPlaces.{joined_at}

-- ---- a set that is made place by place

-- a place of a list that a test makes; behind the last there is none
made_at : (f : ℕ → Bool) (size j : ℕ) → j < size → get_or (map f (places size)) j false ≡ f j
made_at f size j low = get_or_row f size j false low

made_past : (f : ℕ → Bool) (size j : ℕ) → size ≤ j → get_or (map f (places size)) j false ≡ false
made_past f size j past =
    let mapped = length-map (places size) f in
    let count = length_places size in
    get_or_past (map f (places size)) j false (omega (arith, mapped, count, past))

made_none : (size j : ℕ) → get_or (map (λ (k : ℕ). false) (places size)) j false ≡ false
made_none size j = elim (cases_lt j size) [
  | inl low ↦ made_at (λ (k : ℕ). false) size j low
  | inr past ↦ made_past (λ (k : ℕ). false) size j past
]

pub none_marked : (ok : ℕ → Bool) (members : List ℕ) (size : ℕ) (mask : List Bool) → mask ≡ map (λ (k : ℕ). false) (places size) → AreMarked ok members 0 size mask
none_marked ok members size mask is = record {
  count = ap (λ (bits : List Bool). length bits) is ∙ length-map (places size) (λ (k : ℕ). false) ∙ length_places size;
  marked = λ j none. absurd (omega (arith, none));
  rest = λ j past. ap (λ (bits : List Bool). get_or bits j false) is ∙ made_none size j;
}

-- one that passes
pub put_marked : (ok : ℕ → Bool) (members : List ℕ) (i size : ℕ) (old new : List Bool) → AreMarked ok members i size old → i < size → ok (get_or members i 0) ≡ true → new ≡ map (λ j. get_or old j false || (j == i)) (places (length old)) → AreMarked ok members (i + 1) size new
put_marked ok members i size old new before within pass is =
    let f : ℕ → Bool = λ j. get_or old j false || (j == i) in
    let size_is = before.count in
    let made : (j : ℕ) → j < size → get_or new j false ≡ f j =
    λ j low. ap (λ (bits : List Bool). get_or bits j false) is ∙ made_at f (length old) j (omega (arith, low, size_is)) in
    let other : (j : ℕ) → (j ≡ i → ⊥) → f j ≡ get_or old j false =
    λ j apart. ap (λ (b : Bool). get_or old j false || b) (ne_eqb j i apart) ∙ or-false (get_or old j false) in
    record {
      count = ap (λ (bits : List Bool). length bits) is ∙ length-map (places (length old)) f ∙ length_places (length old) ∙ size_is;
      marked = λ j low.
          ⊎_elim
          (λ (front : j < i). made j (omega (arith, front, within)) ∙ other j (λ e. omega (arith, e, front)) ∙ before.marked j front)
          (λ (last : i ≤ j).
          let same : j ≡ i = omega (arith, low, last) in
          made j (omega (arith, low, within)) ∙ ap (λ (b : Bool). get_or old j false || b) (eq-eqb j i same) ∙ or-true (get_or old j false)
          ∙ sym (ap (λ (n : ℕ). ok (get_or members n 0)) same ∙ pass))
          (cases_lt j i);
      rest = λ j past.
          ⊎_elim
          (λ (low : j < size). made j low ∙ other j (λ e. omega (arith, e, past)) ∙ before.rest j (omega (arith, past)))
          (λ (far : size ≤ j). ap (λ (bits : List Bool). get_or bits j false) is ∙ made_past f (length old) j (omega (arith, far, size_is)))
          (cases_lt j size);
    }

-- one that doesn't
pub left_marked : (ok : ℕ → Bool) (members : List ℕ) (i size : ℕ) (old new : List Bool) → AreMarked ok members i size old → ok (get_or members i 0) ≡ false → new ≡ old → AreMarked ok members (i + 1) size new
left_marked ok members i size old new before fail same =
    let here : (j : ℕ) → get_or new j false ≡ get_or old j false = λ j. ap (λ (bits : List Bool). get_or bits j false) same in
    record {
      count = ap (λ (bits : List Bool). length bits) same ∙ before.count;
      marked = λ j low.
          ⊎_elim
          (λ (front : j < i). here j ∙ before.marked j front)
          (λ (last : i ≤ j).
          let equal : j ≡ i = omega (arith, low, last) in
          here j ∙ before.rest j last ∙ sym (ap (λ (n : ℕ). ok (get_or members n 0)) equal ∙ fail))
          (cases_lt j i);
      rest = λ j past. here j ∙ before.rest j (omega (arith, past));
    }

-- ---- how many places pass a test, where the members at these pass another

places_passed : (t s : ℕ → Bool) (xs : List ℕ) (n : ℕ) → ((j : ℕ) → j < length xs → t j ≡ s (get_or xs j 0)) → ((j : ℕ) → length xs ≤ j → t j ≡ false) → length (filter t (places n)) ≡ length (filter s (take n xs))
places_passed t s xs zero agree rest = refl
places_passed t s xs (suc n) agree rest =
    let before = places_passed t s xs n agree rest in
    ⊎_elim
    (λ (within : n < length xs).
    let one = count_next t n in
    let other = length-filter_more s xs n 0 within in
    let same = ap {B = ℕ} (λ (b : Bool). cond b 1 0) (agree n within) in
    let next : suc n ≡ n + 1 = omega arith in
    let taken = ap (λ (m : ℕ). length (filter s (take m xs))) next in
    omega (arith, before, one, other, same, taken))
    (λ (past : length xs ≤ n).
    count_same_next t n (rest n past) ∙ before
    ∙ ap (λ (some : List ℕ). length (filter s some)) (take_all n xs past ∙ sym (take_all (suc n) xs (omega (arith, past)))))
    (cases_lt n (length xs))

-- the neighbours of a member that are in the set are the members that pass and with which it is joined
pub both_passed : (ok : ℕ → Bool) (members : List ℕ) (table : List (List Bool)) (mask : List Bool) (i a : ℕ) → IsStrictlyIncreasing members → length members ≤ length table → AreMarked ok members (length members) (length table) mask → slice_get members i ≡ Some a
    → length (filter (λ j. get_or mask j false) (neighbours table i)) ≡ length (filter (λ b. joined_across table members a b && ok b) members)
both_passed ok members table mask i a rise fits are at =
    let test : ℕ → Bool = λ b. joined_across table members a b && ok b in
    ap (λ (some : List ℕ). length some) (filter_twice (λ j. get_or mask j false) (joins table i) (places (length table)))
    ∙ places_passed (λ j. joins table i j && get_or mask j false) test members (length table)
    (λ j low.
    ap (λ (b : Bool). b && get_or mask j false) (sym (joined_at table members i j a rise at low))
    ∙ ap (λ (b : Bool). joined_across table members a (get_or members j 0) && b) (are.marked j low))
    (λ j past. ap (λ (b : Bool). joins table i j && b) (are.rest j past) ∙ and-false (joins table i j))
    ∙ ap (λ (some : List ℕ). length (filter test some)) (take_all (length table) members fits)

few_step : (b : Bool) (x : ℕ) (xs : List ℕ) (n : ℕ) → length xs ≤ n → length (cond b (x ∷ xs) xs) ≤ n + 1
few_step true x xs n few = omega (arith, few)
few_step false x xs n few = omega (arith, few)

pub few_passed : (t : ℕ → Bool) (xs : List ℕ) → length (filter t xs) ≤ length xs
few_passed t [] = omega arith
few_passed t (x ∷ xs) = let few = few_step (t x) x (filter t xs) (length xs) (few_passed t xs) in omega (arith, few)

-- ---- a room

pub is_room : (room : Room) (area : Area) (size : ℕ) → IsArea (network room.graph.now) area room.members.now room.sights.now → size ≡ length room.sights.now
    → AreMarked (passes_node (network room.graph.now) room.profile.now) room.members.now (length room.members.now) size room.mask.now → IsRoom room
is_room room area size is same are = record {
  within = is.within;
  rise = is.rise;
  fits = is.long;
  short = is.short;
  marked = subst (λ (n : ℕ). AreMarked (passes_node (network room.graph.now) room.profile.now) room.members.now (length room.members.now) n room.mask.now) same are;
}
