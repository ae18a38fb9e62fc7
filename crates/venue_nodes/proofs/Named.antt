-- Which units are named, and their numbers.
use Rattle.std.proofs.Common.{◌≡◌, ◌↔◌, ℕ, ◌+◌, ◌≤◌, ◌<◌, zero, suc, List, [], ◌∷◌, ◌++◌, Option, Some, None, Bool, true, false, ◌||◌, length, map, eqb, refl, sym, ap, subst, ◌∙◌, arith, inl, inr}
use Rattle.std.specs.Prelude.{Contains, slice_get, filter, replicate, IsPermutation}
use Rattle.std.specs.List.{filter_map, dedup}
use Rattle.std.specs.List.Sorted.{IsSorted}
use Rattle.std.specs.List.Retain.{IsFiltered, DiffersFromLast}
use Rattle.std.specs.Ordering.{nat_cmp}
use Rattle.std.proofs.lemmas.Bool.{cases_Bool}
use Rattle.std.proofs.lemmas.Cmp.{nat_cmp_total}
use Rattle.std.proofs.lemmas.List.{length-map}
use Rattle.std.proofs.lemmas.List.Filters.{dedup_is}
use Rattle.std.proofs.lemmas.List.Kept.{Contains-dedup_nat, Contains-from_dedup}
use Rattle.std.proofs.lemmas.List.Sorted.{Contains-permutation, IsPermutation-sym}
use Rattle.std.proofs.lemmas.Map.Keys.{IsStrictlyIncreasing-dedup, sorted_from_strictly_increasing}
use Rattle.std.proofs.lemmas.Option.{same_Some, slice_get_within}
use Rattle.venue_types.proofs.Items.{at_member, member_at, at_map}
use Rattle.venue_types.specs.declared.feature_id.FeatureId.{FeatureId}
use Rattle.venue_types.specs.declared.features.UnitRow.{UnitRow}
use Rattle.venue_types.specs.declared.settings.Inside.{Inside}
use Rattle.feature_rows.specs.Indexes.{AreOnce, place_of}
use Rattle.rule_reports.proofs.Unique.{same_members}
use Rattle.venue_nodes.specs.Identity.{is_same}
use Rattle.venue_nodes.specs.Members.{places_where}
use Rattle.venue_nodes.specs.Nodes.{corner_points}
use Rattle.venue_nodes.specs.declared.walkables.Walkables.{Walkables}
use Rattle.venue_nodes.specs.Naming.{names, numbers, corner_names, AreKnown}
use Rattle.venue_nodes.proofs.Identifiers.{same_id, id_same}
use Rattle.venue_nodes.proofs.Items.{from_map, given_from, given_to}
use Rattle.venue_nodes.proofs.Places.{places_rise, place_at, number_of, kept_at, one_number, places_count, places_few}

-- ---- names

pub names_one : (ids : List FeatureId) (own : FeatureId) → names ids own ≡ true → (k : ℕ) × (slice_get ids k ≡ Some own)
names_one [] own h = absurd (cc)
names_one (id ∷ ids) own h = elim (cases_Bool (is_same id own)) [
  | inl same ↦ (0, ap (λ (x : FeatureId). Some x) (same_id id own same))
  | inr other ↦
      let later : names ids own ≡ true = subst (λ (b : Bool). ◌≡◌ {A = Bool} (◌||◌ b (names ids own)) true) other h in
      let r = names_one ids own later in (suc r.0, r.1)
]

or_true : (b : Bool) → ◌≡◌ {A = Bool} (◌||◌ b true) true
or_true true = refl
or_true false = refl

pub one_names : (ids : List FeatureId) (own : FeatureId) (k : ℕ) → slice_get ids k ≡ Some own → names ids own ≡ true
one_names [] own k at = absurd (let no : None ≡ Some own = at in cc)
one_names (id ∷ ids) own zero at = ap (λ (b : Bool). ◌||◌ b (names ids own)) (id_same id own (same_Some id own at))
one_names (id ∷ ids) own (suc k) at = ap (λ (b : Bool). ◌||◌ (is_same id own) b) (one_names ids own k at) ∙ or_true (is_same id own)

-- ---- numbers by an index

into : (find : FeatureId → Option ℕ) (owns ids : List FeatureId) → ((id : FeatureId) (k : ℕ) → (find id ≡ Some k) ↔ (slice_get owns k ≡ Some id))
    → (p : ℕ) → Contains (filter_map find ids) p → Contains (numbers owns ids) p
into find owns ids law p h =
    let at = at_member (filter_map find ids) p h in
    let given = given_from find ids at.0 p at.1 in
    let own : slice_get owns p ≡ Some given.x = (law given.x p).0 given.gives in
    let number = number_of (names ids) 0 owns p given.x own (one_names ids given.x given.k given.there) in
    let is : 0 + p ≡ p = omega arith in
    member_at (numbers owns ids) number.w p (number.placed ∙ ap (λ (m : ℕ). Some m) is)

back : (find : FeatureId → Option ℕ) (owns ids : List FeatureId) → ((id : FeatureId) (k : ℕ) → (find id ≡ Some k) ↔ (slice_get owns k ≡ Some id))
    → (p : ℕ) → Contains (numbers owns ids) p → Contains (filter_map find ids) p
back find owns ids law p h =
    let at = at_member (numbers owns ids) p h in
    let place = place_at (names ids) 0 owns at.0 p at.1 in
    let is : place.k ≡ p = let e : p ≡ 0 + place.k = place.is in omega arith in
    let own : slice_get owns p ≡ Some place.x = subst (λ (m : ℕ). slice_get owns m ≡ Some place.x) is place.there in
    let named = names_one ids place.x place.passes in
    let w = given_to find ids named.0 place.x p named.1 ((law place.x p).1 own) in
    member_at (filter_map find ids) w.0 p w.1

pub numbers_are : (find : FeatureId → Option ℕ) (owns ids : List FeatureId) → ((id : FeatureId) (k : ℕ) → (find id ≡ Some k) ↔ (slice_get owns k ≡ Some id))
    → (gathered sorted once : List ℕ) → gathered ≡ filter_map find ids → IsPermutation gathered sorted → IsSorted nat_cmp sorted → IsFiltered (DiffersFromLast eqb) [] sorted once
    → once ≡ numbers owns ids
numbers_are find owns ids law gathered sorted once are moved up filtered =
    let is : once ≡ dedup eqb sorted = dedup_is eqb sorted once filtered in
    is ∙ same_members nat_cmp nat_cmp_total (dedup eqb sorted) (numbers owns ids)
    (sorted_from_strictly_increasing (dedup eqb sorted) (IsStrictlyIncreasing-dedup sorted up)) (places_rise (names ids) 0 owns)
    (λ p h. into find owns ids law p (subst (λ (xs : List ℕ). Contains xs p) are (Contains-permutation sorted gathered p (IsPermutation-sym gathered sorted moved) (Contains-from_dedup eqb sorted p h))))
    (λ p h. Contains-dedup_nat sorted p (Contains-permutation gathered sorted p moved (subst (λ (xs : List ℕ). Contains xs p) (sym are) (back find owns ids law p h))))

-- ---- identifiers of those that pass

pub once_kept : {R : Type 0} (id_of : R → FeatureId) (t : R → Bool) (rows : List R) → AreOnce (map id_of rows) → AreOnce (map id_of (filter t rows))
once_kept id_of t rows once = record {
  once = λ k j id here there.
      let a = from_map id_of (filter t rows) k id here in
      let b = from_map id_of (filter t rows) j id there in
      let one = kept_at t 0 rows k a.0 a.1 in
      let two = kept_at t 0 rows j b.0 b.1 in
      let same : one.k ≡ two.k = once.once one.k two.k id (at_map id_of rows one.k a.0 one.there ∙ ap (λ (x : FeatureId). Some x) a.2) (at_map id_of rows two.k b.0 two.there ∙ ap (λ (x : FeatureId). Some x) b.2) in
      one_number (places_where t 0 rows) k j (0 + one.k) (places_rise t 0 rows) one.placed (two.placed ∙ ap (λ (m : ℕ). Some (0 + m)) (sym same));
}

pub few_kept : {R : Type 0} (id_of : R → FeatureId) (t : R → Bool) (rows : List R) → length rows ≤ 100000 → length (map id_of (filter t rows)) ≤ 100000
few_kept id_of t rows few =
    let long : length (map id_of (filter t rows)) ≡ length (filter t rows) = length-map (filter t rows) id_of in
    let kept : length (places_where t 0 rows) ≡ length (filter t rows) = places_count t 0 rows in
    let all : length (places_where t 0 rows) ≤ length rows = places_few t 0 rows in
    omega arith

-- a number found is one of those known
pub found_within : (walkables : Walkables) (id : FeatureId) (o : Option ℕ) → AreKnown walkables → o ≡ place_of walkables.places id → (k : ℕ) → o ≡ Some k → k < 4294967296
found_within walkables id o known is k e =
    let here : slice_get walkables.ids.items k ≡ Some id = (known.places_are.only id k (sym is ∙ e)).here in
    let within : k < length walkables.ids.items = slice_get_within walkables.ids.items k id here in
    let few : length walkables.ids.items ≤ 100000 = known.few in
    omega arith

-- ---- what corners name

map-replicate : {X Y : Type 0} (f : X → Y) (n : ℕ) (x : X) → map f (replicate n x) ≡ replicate n (f x)
map-replicate f zero x = refl
map-replicate {X} {Y} f (suc n) x = ap (λ (ys : List Y). f x ∷ ys) (map-replicate f n x)

-- the unit's numbers once for each of its corners
pub corners_added : (numbers_of : List FeatureId → List ℕ) (inside : Inside) (u : UnitRow) (n : ℕ) (list : List ℕ) (first new : List (List ℕ)) → n ≡ length (corner_points inside u) → list ≡ numbers_of (u.id ∷ [])
    → new ≡ first ++ replicate n list → new ≡ first ++ map numbers_of (corner_names inside u)
corners_added numbers_of inside u n list first new many are grown =
    grown
    ∙ ap (λ (m : ℕ). first ++ replicate m list) many
    ∙ ap (λ (ns : List ℕ). first ++ replicate (length (corner_points inside u)) ns) are
    ∙ ap (λ (ls : List (List ℕ)). first ++ ls) (sym (map-replicate numbers_of (length (corner_points inside u)) (u.id ∷ [])))
