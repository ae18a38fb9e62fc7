-- Which feature the place of a number is.
use Rattle.std.proofs.Common.{◌≡◌, ℕ, zero, suc, ◌+◌, ◌-◌, ◌<◌, ◌≤◌, List, [], ◌∷◌, ◌++◌, Some, None, length, map, filter, take, get_or, sym, ap, ◌∙◌, inl, inr, arith, append_assoc, zero-add, length-append}
use Rattle.std.specs.Prelude.{slice_get}
use Rattle.std.proofs.lemmas.List.{take_more, map-append, length-map}
use Rattle.std.proofs.lemmas.Option.{same_Some, slice_get_within, slice_get_cases, slice_get-get_or, get_or_from_slice_get}
use Rattle.venue_types.proofs.Items.{at_map}
use Rattle.venue_types.specs.declared.features.Features.{Features}
use Rattle.venue_types.specs.declared.features.AmenityRow.{AmenityRow}
use Rattle.venue_types.specs.declared.features.AnchorRow.{AnchorRow}
use Rattle.venue_types.specs.declared.features.OccupantRow.{OccupantRow}
use Rattle.venue_types.specs.declared.features.OpeningRow.{OpeningRow}
use Rattle.venue_types.specs.declared.features.UnitRow.{UnitRow}
use Rattle.link_graph.specs.Nodes.{walkable_units}
use Rattle.link_graph.proofs.Places.{places_count, kept_at}
use Rattle.venue_build.specs.Places.{places, amenity_place, anchor_place, occupant_place, opening_place, unit_place}
use Rattle.venue_build.specs.Placing.{can_walk, walkable_indexes}

-- ---- items of lists

at_left : {X : Type 0} (xs ys : List X) (n : ℕ) (x : X) → slice_get xs n ≡ Some x → slice_get (xs ++ ys) n ≡ Some x
at_left [] ys n x e = cc
at_left (y ∷ xs) ys zero x e = e
at_left (y ∷ xs) ys (suc n) x e = at_left xs ys n x e

at_right : {X : Type 0} (xs ys : List X) (n : ℕ) → slice_get (xs ++ ys) (length xs + n) ≡ slice_get ys n
at_right [] ys n = ap (λ (i : ℕ). slice_get ys i) (zero-add n)
at_right (x ∷ xs) ys n =
    let next : length (x ∷ xs) + n ≡ suc (length xs + n) = omega arith in
    ap (λ (i : ℕ). slice_get (x ∷ (xs ++ ys)) i) next ∙ at_right xs ys n

at_behind : {X : Type 0} (xs ys : List X) (n m : ℕ) → n ≡ length xs + m → slice_get (xs ++ ys) n ≡ slice_get ys m
at_behind xs ys n m e = ap (λ (i : ℕ). slice_get (xs ++ ys) i) e ∙ at_right xs ys m

pub none_behind : {X : Type 0} (xs : List X) (n : ℕ) → None ≡ slice_get xs n → length xs ≤ n
none_behind xs n e = elim (slice_get_cases xs n).1 [
  | inl there ↦ absurd (let no : None ≡ Some there.0 = e ∙ there.2 in cc)
  | inr past ↦ past.0
]

-- and how far behind it
pub rest_of : {X : Type 0} (xs : List X) (n len : ℕ) → None ≡ slice_get xs n → len ≡ length xs → n ≡ length xs + (n - len)
rest_of xs n len e is = let past = none_behind xs n e in omega arith

-- a pass over the items, one item further
pub mapped_more : {X Y : Type 0} (f : X → Y) (xs : List X) (n : ℕ) (x : X) (y : Y) (old new : List Y) → slice_get xs n ≡ Some x → old ≡ map f (take n xs) → y ≡ f x → new ≡ old ++ y ∷ []
    → new ≡ map f (take (n + 1) xs)
mapped_more {X} {Y} f xs n x y old new there before is grown =
    let more : map f (take (n + 1) xs) ≡ map f (take n xs) ++ f x ∷ [] =
    ap (map f) (take_more xs n x (slice_get_within xs n x there))
    ∙ map-append f (take n xs) (get_or xs n x ∷ [])
    ∙ ap (λ (z : X). map f (take n xs) ++ f z ∷ []) (get_or_from_slice_get xs n x x there) in
    grown ∙ ap (λ (ys : List Y). ys ++ y ∷ []) before ∙ ap (λ (z : Y). map f (take n xs) ++ z ∷ []) is ∙ sym more

-- ---- five lists, one behind another

module _ {X : Type 0} (a b c d e : List X) where
  regroup : a ++ b ++ c ++ d ++ e ≡ a ++ (b ++ (c ++ (d ++ e)))
  regroup = simp append_assoc

  in_first : (n : ℕ) (x : X) → slice_get a n ≡ Some x → slice_get (a ++ b ++ c ++ d ++ e) n ≡ Some x
  in_first n x there = ap (λ (l : List X). slice_get l n) regroup ∙ at_left a (b ++ (c ++ (d ++ e))) n x there

  past_first : (n m : ℕ) → n ≡ length a + m → slice_get (a ++ b ++ c ++ d ++ e) n ≡ slice_get (b ++ (c ++ (d ++ e))) m
  past_first n m on = ap (λ (l : List X). slice_get l n) regroup ∙ at_behind a (b ++ (c ++ (d ++ e))) n m on

  in_second : (n m : ℕ) (x : X) → n ≡ length a + m → slice_get b m ≡ Some x → slice_get (a ++ b ++ c ++ d ++ e) n ≡ Some x
  in_second n m x on there = past_first n m on ∙ at_left b (c ++ (d ++ e)) m x there

  past_second : (n m k : ℕ) → n ≡ length a + m → m ≡ length b + k → slice_get (a ++ b ++ c ++ d ++ e) n ≡ slice_get (c ++ (d ++ e)) k
  past_second n m k on next = past_first n m on ∙ at_behind b (c ++ (d ++ e)) m k next

  in_third : (n m k : ℕ) (x : X) → n ≡ length a + m → m ≡ length b + k → slice_get c k ≡ Some x → slice_get (a ++ b ++ c ++ d ++ e) n ≡ Some x
  in_third n m k x on next there = past_second n m k on next ∙ at_left c (d ++ e) k x there

  past_third : (n m k j : ℕ) → n ≡ length a + m → m ≡ length b + k → k ≡ length c + j → slice_get (a ++ b ++ c ++ d ++ e) n ≡ slice_get (d ++ e) j
  past_third n m k j on next then = past_second n m k on next ∙ at_behind c (d ++ e) k j then

  in_fourth : (n m k j : ℕ) (x : X) → n ≡ length a + m → m ≡ length b + k → k ≡ length c + j → slice_get d j ≡ Some x → slice_get (a ++ b ++ c ++ d ++ e) n ≡ Some x
  in_fourth n m k j x on next then there = past_third n m k j on next then ∙ at_left d e j x there

  in_fifth : (n m k j i : ℕ) (x : X) → n ≡ length a + m → m ≡ length b + k → k ≡ length c + j → j ≡ length d + i → slice_get e i ≡ Some x → slice_get (a ++ b ++ c ++ d ++ e) n ≡ Some x
  in_fifth n m k j i x on next then last there = past_third n m k j on next then ∙ at_behind d e j i last ∙ there

  all_long : length (a ++ b ++ c ++ d ++ e) ≡ length a + length b + length c + length d + length e
  all_long = omega (arith, length-append (a ++ b ++ c ++ d) e, length-append (a ++ b ++ c) d, length-append (a ++ b) c, length-append a b)

-- where a list ends that is told of its items
moved : {X Y : Type 0} (f : X → Y) (xs : List X) (n m : ℕ) → n ≡ length xs + m → n ≡ length (map f xs) + m
moved f xs n m e = let same = length-map xs f in omega arith

-- ---- the places

module _ (features : Features) where
  pub at_amenity : (n : ℕ) (row : AmenityRow) → Some row ≡ slice_get features.amenities n → slice_get (places features) n ≡ Some (amenity_place features row)
  unfolding places
  at_amenity n row there =
      in_first (map (amenity_place features) features.amenities) (map (anchor_place features) features.anchors) (map (occupant_place features) features.occupants)
      (map (opening_place features) features.openings) (map (unit_place features) (walkable_units features))
      n (amenity_place features row) (at_map (amenity_place features) features.amenities n row (sym there))

  pub at_anchor : (n m : ℕ) (row : AnchorRow) → n ≡ length features.amenities + m → Some row ≡ slice_get features.anchors m → slice_get (places features) n ≡ Some (anchor_place features row)
  unfolding places
  at_anchor n m row on there =
      in_second (map (amenity_place features) features.amenities) (map (anchor_place features) features.anchors) (map (occupant_place features) features.occupants)
      (map (opening_place features) features.openings) (map (unit_place features) (walkable_units features))
      n m (anchor_place features row) (moved (amenity_place features) features.amenities n m on) (at_map (anchor_place features) features.anchors m row (sym there))

  pub at_occupant : (n m k : ℕ) (row : OccupantRow) → n ≡ length features.amenities + m → m ≡ length features.anchors + k → Some row ≡ slice_get features.occupants k
      → slice_get (places features) n ≡ Some (occupant_place features row)
  unfolding places
  at_occupant n m k row on next there =
      in_third (map (amenity_place features) features.amenities) (map (anchor_place features) features.anchors) (map (occupant_place features) features.occupants)
      (map (opening_place features) features.openings) (map (unit_place features) (walkable_units features))
      n m k (occupant_place features row) (moved (amenity_place features) features.amenities n m on) (moved (anchor_place features) features.anchors m k next)
      (at_map (occupant_place features) features.occupants k row (sym there))

  pub at_opening : (n m k j : ℕ) (row : OpeningRow) → n ≡ length features.amenities + m → m ≡ length features.anchors + k → k ≡ length features.occupants + j → Some row ≡ slice_get features.openings j
      → slice_get (places features) n ≡ Some (opening_place features row)
  unfolding places
  at_opening n m k j row on next then there =
      in_fourth (map (amenity_place features) features.amenities) (map (anchor_place features) features.anchors) (map (occupant_place features) features.occupants)
      (map (opening_place features) features.openings) (map (unit_place features) (walkable_units features))
      n m k j (opening_place features row) (moved (amenity_place features) features.amenities n m on) (moved (anchor_place features) features.anchors m k next)
      (moved (occupant_place features) features.occupants k j then) (at_map (opening_place features) features.openings j row (sym there))

  pub at_unit : (n m k j i : ℕ) (row : UnitRow) → n ≡ length features.amenities + m → m ≡ length features.anchors + k → k ≡ length features.occupants + j → j ≡ length features.openings + i
      → slice_get (walkable_units features) i ≡ Some row → slice_get (places features) n ≡ Some (unit_place features row)
  unfolding places
  at_unit n m k j i row on next then last there =
      in_fifth (map (amenity_place features) features.amenities) (map (anchor_place features) features.anchors) (map (occupant_place features) features.occupants)
      (map (opening_place features) features.openings) (map (unit_place features) (walkable_units features))
      n m k j i (unit_place features row) (moved (amenity_place features) features.amenities n m on) (moved (anchor_place features) features.anchors m k next)
      (moved (occupant_place features) features.occupants k j then) (moved (opening_place features) features.openings j i last)
      (at_map (unit_place features) (walkable_units features) i row there)

  -- how many they are
  pub places_long : length (places features) ≡ length features.amenities + length features.anchors + length features.occupants + length features.openings + length (walkable_units features)
  unfolding places
  places_long =
      let a = length-map features.amenities (amenity_place features) in
      let b = length-map features.anchors (anchor_place features) in
      let c = length-map features.occupants (occupant_place features) in
      let d = length-map features.openings (opening_place features) in
      let e = length-map (walkable_units features) (unit_place features) in
      let all = all_long (map (amenity_place features) features.amenities) (map (anchor_place features) features.anchors) (map (occupant_place features) features.occupants)
      (map (opening_place features) features.openings) (map (unit_place features) (walkable_units features)) in
      omega arith

-- ---- units that can be walked through

pub as_many : (units : List UnitRow) → length (walkable_indexes units) ≡ length (filter can_walk units)
as_many units = places_count can_walk 0 units

-- the index that is read is that of a unit
pub index_there : (units : List UnitRow) (indexes : List ℕ) (n : ℕ) → indexes ≡ walkable_indexes units → n < length (filter can_walk units) → slice_get (walkable_indexes units) n ≡ Some (get_or indexes n 0)
index_there units indexes n are under =
    let within : n < length indexes = omega (arith, ap length are, as_many units, under) in
    ap (λ (xs : List ℕ). slice_get xs n) (sym are) ∙ slice_get-get_or indexes n 0 within

-- the index of a unit among all, and its number among those
pub unit_there : (units : List UnitRow) (n index : ℕ) → n < length (filter can_walk units) → slice_get (walkable_indexes units) n ≡ Some index → slice_get (filter can_walk units) n ≡ slice_get units index
unit_there units n index under at = elim (slice_get_cases (filter can_walk units) n).1 [
  | inl there ↦
      let kept = kept_at can_walk 0 units n there.0 there.2 in
      let placed : index ≡ 0 + kept.k = same_Some index (0 + kept.k) (sym at ∙ kept.placed) in
      let same : kept.k ≡ index = omega arith in
      there.2 ∙ sym kept.there ∙ ap (λ (i : ℕ). slice_get units i) same
  | inr past ↦ absurd (let over = past.0 in omega arith)
]
