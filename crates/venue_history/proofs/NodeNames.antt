-- In valid rows no two nodes have one name: identifiers are their own, and corners are numbered within their unit.
use Rattle.std.proofs.Common.{◌≡◌, ◌∙◌, ℕ, zero, suc, ◌+◌, ◌<◌, List, [], ◌∷◌, ◌++◌, map, length, refl, sym, ap, ap₂, arith, ◌⊎◌, inl, inr, Option, Some, None, Bool, true, false, filter, if◌then◌else◌, subst}
use Rattle.std.specs.Prelude.{slice_get, flat_map}
use Rattle.venue_types.specs.declared.feature_id.FeatureId.{FeatureId}
use Rattle.venue_types.specs.declared.features.AmenityRow.{AmenityRow}
use Rattle.venue_types.specs.declared.features.AnchorRow.{AnchorRow}
use Rattle.venue_types.specs.declared.features.Features.{Features}
use Rattle.venue_types.specs.declared.features.OpeningRow.{OpeningRow}
use Rattle.venue_types.specs.declared.features.UnitRow.{UnitRow}
use Rattle.venue_types.specs.declared.folder_file.File.{File}
use Rattle.venue_types.specs.declared.folder_file.File.TheVariants as file
use Rattle.venue_types.specs.declared.link.Node.{Node}
use Rattle.venue_types.specs.declared.point.Point.{Point}
use Rattle.venue_types.specs.declared.reply.NodeName.{NodeName}
use Rattle.venue_types.specs.declared.settings.Inside.{Inside}
use Rattle.venue_types.specs.declared.settings.Settings.{Settings}
use Rattle.venue_build.specs.Rows.{ids_of, HaveOwnIds}
use Rattle.venue_build.specs.Nodes.{NodeRow, amenity, anchor, opening, unit, corner, node_of_row, walkable_units, place_node_rows, corner_rows_from, corner_points, corner_rows, room_corners, node_rows, nodes}
use Rattle.venue_history.specs.Closed.{Version}
use Rattle.venue_history.specs.Ways.{node_name, name_of}

-- each stands once
record Once {X : Type 0} (xs : List X) : Type 0 where
  pub once : (k j : ℕ) (x : X) → slice_get xs k ≡ Some x → slice_get xs j ≡ Some x → k ≡ j

at_append : {X : Type 0} (xs ys : List X) (k : ℕ) (x : X) → slice_get (xs ++ ys) k ≡ Some x → (slice_get xs k ≡ Some x) ⊎ ((j : ℕ) × (k ≡ length xs + j) × (slice_get ys j ≡ Some x))
at_append [] ys k x e = let none : k ≡ 0 + k = omega arith in inr (k, none, e)
at_append (y ∷ xs) ys zero x e = inl e
at_append (y ∷ xs) ys (suc k) x e = elim (at_append xs ys k x e) [
  | inl front ↦ inl front
  | inr (j, at, back) ↦ let moved : suc k ≡ length (y ∷ xs) + j = omega arith in inr (j, moved, back)
]

-- two lists share nothing
Apart : {X : Type 0} → List X → List X → Type 0
Apart {X} xs ys = (x : X) (k j : ℕ) → slice_get xs k ≡ Some x → slice_get ys j ≡ Some x → ⊥

once_append : {X : Type 0} (xs ys : List X) → Once xs → Once ys → Apart xs ys → Once (xs ++ ys)
unfolding Apart
once_append xs ys one other apart = record {
  once = λ k j x a b. elim (at_append xs ys k x a) [
    | inl p ↦ elim (at_append xs ys j x b) [ inl q ↦ one.once k j x p q | inr (n, at, q) ↦ absurd (apart x k n p q) ]
    | inr (m, here, p) ↦ elim (at_append xs ys j x b) [
      | inl q ↦ absurd (apart x j m q p)
      | inr (n, there, q) ↦ let same : m ≡ n = other.once m n x p q in omega (arith, here, there, same)
    ]
  ];
}

apart_append : {X : Type 0} (xs ys zs : List X) → Apart xs zs → Apart ys zs → Apart (xs ++ ys) zs
unfolding Apart
apart_append xs ys zs one other x k j a b = elim (at_append xs ys k x a) [ inl p ↦ one x k j p b | inr (n, at, p) ↦ other x n j p b ]

-- ---- units in which people walk

abbrev unit_id : UnitRow → FeatureId
unit_id row = row.id

-- where a picked unit stands among all
abbrev StandsIn : List UnitRow → FeatureId → Type 0
StandsIn rows id = (j : ℕ) × (slice_get (map unit_id rows) j ≡ Some id)

filter_step : (f : UnitRow → Bool) (row : UnitRow) (rows : List UnitRow) (k : ℕ) (id : FeatureId) → ((n : ℕ) → slice_get (map unit_id (filter f rows)) n ≡ Some id → StandsIn rows id)
    → slice_get (map unit_id (filter f (row ∷ rows))) k ≡ Some id → StandsIn (row ∷ rows) id
filter_step f row rows k id behind e = by (f row) refl where
  kept : f row ≡ true → filter f (row ∷ rows) ≡ row ∷ filter f rows
  kept h = rw h refl

  past : f row ≡ false → filter f (row ∷ rows) ≡ filter f rows
  past h = rw h refl

  taken : (n : ℕ) → slice_get (unit_id row ∷ map unit_id (filter f rows)) n ≡ Some id → StandsIn (row ∷ rows) id
  taken zero a = (zero, a)
  taken (suc n) a = let later = behind n a in (suc later.0, later.1)

  by : (b : Bool) → f row ≡ b → StandsIn (row ∷ rows) id
  by true h = taken k (subst (λ (us : List UnitRow). slice_get (map unit_id us) k ≡ Some id) (kept h) e)
  by false h = let later = behind k (subst (λ (us : List UnitRow). slice_get (map unit_id us) k ≡ Some id) (past h) e) in (suc later.0, later.1)

filter_at : (f : UnitRow → Bool) (rows : List UnitRow) (k : ℕ) (id : FeatureId) → slice_get (map unit_id (filter f rows)) k ≡ Some id → StandsIn rows id
filter_at f [] k id e = (k, e)
filter_at f (row ∷ rows) k id e = filter_step f row rows k id (λ n a. filter_at f rows n id a) e

-- what is behind the first is once
once_rest : {X : Type 0} (x : X) (xs : List X) → Once (x ∷ xs) → Once xs
once_rest x xs all = record { once = λ k j y a b. let same : suc k ≡ suc j = all.once (suc k) (suc j) y a b in omega (arith, same) }

-- the first isn't behind
not_behind : {X : Type 0} (x : X) (xs : List X) (j : ℕ) → Once (x ∷ xs) → slice_get xs j ≡ Some x → ⊥
not_behind x xs j all b = let same : zero ≡ suc j = all.once zero (suc j) x refl b in omega (arith, same)

-- one in front of others
once_first : {X : Type 0} (x : X) (xs : List X) → Once xs → ((j : ℕ) → slice_get xs j ≡ Some x → ⊥) → Once (x ∷ xs)
once_first x xs others apart = record { once = told } where
  told : (k j : ℕ) (y : _) → slice_get (x ∷ xs) k ≡ Some y → slice_get (x ∷ xs) j ≡ Some y → k ≡ j
  told zero zero y a b = refl
  told zero (suc j) y a b = absurd (apart j (b ∙ sym a))
  told (suc k) zero y a b = absurd (apart k (a ∙ sym b))
  told (suc k) (suc j) y a b = ap suc (others.once k j y a b)

filter_once_step : (f : UnitRow → Bool) (row : UnitRow) (rows : List UnitRow) → Once (map unit_id (row ∷ rows)) → Once (map unit_id (filter f rows)) → Once (map unit_id (filter f (row ∷ rows)))
filter_once_step f row rows all behind = by (f row) refl where
  kept : f row ≡ true → row ∷ filter f rows ≡ filter f (row ∷ rows)
  kept h = rw h refl

  past : f row ≡ false → filter f rows ≡ filter f (row ∷ rows)
  past h = rw h refl

  by : (b : Bool) → f row ≡ b → Once (map unit_id (filter f (row ∷ rows)))
  by true h = subst (λ (us : List UnitRow). Once (map unit_id us)) (kept h)
      (once_first (unit_id row) (map unit_id (filter f rows)) behind (λ j b. let later = filter_at f rows j (unit_id row) b in not_behind (unit_id row) (map unit_id rows) later.0 all later.1))
  by false h = subst (λ (us : List UnitRow). Once (map unit_id us)) (past h) behind

once_filter : (f : UnitRow → Bool) (rows : List UnitRow) → Once (map unit_id rows) → Once (map unit_id (filter f rows))
once_filter f [] all = all
once_filter f (row ∷ rows) all = filter_once_step f row rows all (once_filter f rows (once_rest (unit_id row) (map unit_id rows) all))

-- ---- names of places

row_name : NodeRow → NodeName
row_name row = node_name (node_of_row row)

-- the names of rows
row_names : List NodeRow → List NodeName
row_names rows = map row_name rows

-- how a place is named by its identifier
place_name : FeatureId → NodeName
place_name id = record { id = id; corner = None }

place_names : List FeatureId → List NodeName
place_names ids = map place_name ids

named_at : (ids : List FeatureId) (k : ℕ) (name : NodeName) → slice_get (place_names ids) k ≡ Some name → (slice_get ids k ≡ Some name.id) × (name.corner ≡ None)
unfolding place_names place_name
named_at [] k name e = absurd (cc)
named_at (id ∷ ids) zero name e = let same : place_name id ≡ name = cc in (ap (λ (n : NodeName). Some n.id) same, ap (λ (n : NodeName). n.corner) (sym same))
named_at (id ∷ ids) (suc k) name e = named_at ids k name e

once_named : (ids : List FeatureId) → Once ids → Once (place_names ids)
once_named ids all = record { once = λ k j name a b. all.once k j name.id (named_at ids k name a).0 (named_at ids j name b).0 }

apart_named : (xs ys : List FeatureId) → Apart xs ys → Apart (place_names xs) (place_names ys)
unfolding Apart
apart_named xs ys apart name k j a b = apart name.id k j (named_at xs k name a).0 (named_at ys j name b).0

once_in : (features : Features) (f : File) → HaveOwnIds features → Once (ids_of f features)
once_in features f own = record { once = λ k j id a b. (own.own f f k j id a b).1 }

-- the identifiers of places, file by file
walkable_ids : Features → List FeatureId
walkable_ids features = map unit_id (walkable_units features)

place_ids : Features → List FeatureId
place_ids features = ids_of file.Amenity features ++ ids_of file.Anchor features ++ ids_of file.Opening features ++ walkable_ids features

-- two files have no identifier in common
apart_files : (features : Features) (f g : File) → HaveOwnIds features → (f ≡ g → ⊥) → Apart (ids_of f features) (ids_of g features)
unfolding Apart
apart_files features f g own other id k j a b = other (own.own f g k j id a b).0

-- nor has a file with the units in which people walk
apart_walkable : (features : Features) (f : File) → HaveOwnIds features → (f ≡ file.Unit → ⊥) → Apart (ids_of f features) (walkable_ids features)
unfolding Apart walkable_ids
apart_walkable features f own other id k j a b =
    let at = filter_at _ features.units j id b in
    other (own.own f file.Unit k at.0 id a at.1).0

-- the identifiers of places stand once each
places_once : (features : Features) → HaveOwnIds features → Once (place_ids features)
unfolding place_ids walkable_ids
places_once features own =
    let amenities = ids_of file.Amenity features in
    let anchors = ids_of file.Anchor features in
    let openings = ids_of file.Opening features in
    let units = walkable_ids features in
    let first : Once (amenities ++ anchors) =
    once_append amenities anchors (once_in features file.Amenity own) (once_in features file.Anchor own) (apart_files features file.Amenity file.Anchor own (λ e. cc)) in
    let second : Once ((amenities ++ anchors) ++ openings) =
    once_append (amenities ++ anchors) openings first (once_in features file.Opening own)
    (apart_append amenities anchors openings (apart_files features file.Amenity file.Opening own (λ e. cc)) (apart_files features file.Anchor file.Opening own (λ e. cc))) in
    once_append ((amenities ++ anchors) ++ openings) units second (once_filter _ features.units (once_in features file.Unit own))
    (apart_append (amenities ++ anchors) openings units
    (apart_append amenities anchors units (apart_walkable features file.Amenity own (λ e. cc)) (apart_walkable features file.Anchor own (λ e. cc)))
    (apart_walkable features file.Opening own (λ e. cc)))

-- ---- names of corners

-- the name is that of a corner of this unit with this number
record IsCornerName (row : UnitRow) (n : ℕ) (name : NodeName) : Type 0 where
  pub unit_same : name.id ≡ row.id
  pub numbered : name.corner ≡ Some n

corner_at : (row : UnitRow) (n : ℕ) (ps : List Point) (k : ℕ) (name : NodeName) → slice_get (row_names (corner_rows_from row n ps)) k ≡ Some name → IsCornerName row (n + k) name
unfolding row_names row_name
corner_at row n [] k name e = absurd (cc)
corner_at row n (p ∷ ps) zero name e =
    let same : row_name (corner row n p) ≡ name = cc in
    let none : n + 0 ≡ n = omega arith in
    record { unit_same = sym (ap (λ (x : NodeName). x.id) same); numbered = sym (ap (λ (x : NodeName). x.corner) same) ∙ ap Some (sym none) }
corner_at row n (p ∷ ps) (suc k) name e =
    let later = corner_at row (n + 1) ps k name e in
    let more : n + 1 + k ≡ n + suc k = omega arith in
    record { unit_same = later.unit_same; numbered = later.numbered ∙ ap Some more }

corners_once : (inside : Inside) (row : UnitRow) → Once (row_names (corner_rows inside row))
corners_once inside row = record {
  once = λ k j name a b.
      let one = corner_at row 1 (corner_points inside row) k name a in
      let other = corner_at row 1 (corner_points inside row) j name b in
      let same : Some (1 + k) ≡ Some (1 + j) = sym one.numbered ∙ other.numbered in
      let numbers : 1 + k ≡ 1 + j = cc in
      omega (arith, numbers);
}

-- the names of the corners of these units
corner_names : Inside → List UnitRow → List NodeName
corner_names inside [] = []
corner_names inside (row ∷ rows) = row_names (corner_rows inside row) ++ corner_names inside rows

-- each is that of a corner of one of them
record IsCornerOf (rows : List UnitRow) (name : NodeName) : Type 0 where
  pub at : ℕ
  pub there : slice_get (map unit_id rows) at ≡ Some name.id
  pub number : ℕ
  pub numbered : name.corner ≡ Some number

corners_at : (inside : Inside) (rows : List UnitRow) (k : ℕ) (name : NodeName) → slice_get (corner_names inside rows) k ≡ Some name → IsCornerOf rows name
unfolding corner_names
corners_at inside [] k name e = absurd (cc)
corners_at inside (row ∷ rows) k name e = elim (at_append (row_names (corner_rows inside row)) (corner_names inside rows) k name e) [
  | inl p ↦ let one = corner_at row 1 (corner_points inside row) k name p in record { at = 0; there = ap Some (sym one.unit_same); number = 1 + k; numbered = one.numbered }
  | inr (n, here, p) ↦ let later = corners_at inside rows n name p in record { at = suc later.at; there = later.there; number = later.number; numbered = later.numbered }
]

all_corners_once : (inside : Inside) (rows : List UnitRow) → Once (map unit_id rows) → Once (corner_names inside rows)
unfolding corner_names Apart
all_corners_once inside [] own = record { once = λ k j name a b. absurd (cc) }
all_corners_once inside (row ∷ rows) own =
    once_append (row_names (corner_rows inside row)) (corner_names inside rows) (corners_once inside row)
    (all_corners_once inside rows (once_rest (unit_id row) (map unit_id rows) own))
    (λ name k j a b.
    let one = corner_at row 1 (corner_points inside row) k name a in
    let other = corners_at inside rows j name b in
    not_behind (unit_id row) (map unit_id rows) other.at own (other.there ∙ ap Some one.unit_same))

-- ---- names of all nodes

-- a place isn't named as a corner
places_apart : (ids : List FeatureId) (inside : Inside) (rows : List UnitRow) → Apart (place_names ids) (corner_names inside rows)
unfolding Apart
places_apart ids inside rows name k j a b =
    let none = (named_at ids k name a).1 in
    let some = corners_at inside rows j name b in
    let both : None ≡ Some some.number = sym none ∙ some.numbered in
    cc

same_names : {A : Type 0} (row_of : A → NodeRow) (id_of : A → FeatureId) → ((x : A) → row_name (row_of x) ≡ place_name (id_of x)) → (xs : List A) → row_names (map row_of xs) ≡ place_names (map id_of xs)
unfolding row_names place_names
same_names row_of id_of same [] = refl
same_names row_of id_of same (x ∷ xs) = ap₂ (λ (name : NodeName) (names : List NodeName). name ∷ names) (same x) (same_names row_of id_of same xs)

names_append : (rows others : List NodeRow) → row_names (rows ++ others) ≡ row_names rows ++ row_names others
unfolding row_names
names_append [] others = refl
names_append (row ∷ rows) others = ap (λ (names : List NodeName). row_name row ∷ names) (names_append rows others)

ids_append : (ids others : List FeatureId) → place_names (ids ++ others) ≡ place_names ids ++ place_names others
unfolding place_names
ids_append [] others = refl
ids_append (id ∷ ids) others = ap (λ (names : List NodeName). place_name id ∷ names) (ids_append ids others)

-- names one behind the other
both : {a b c d : List NodeName} → a ≡ b → c ≡ d → a ++ c ≡ b ++ d
both one other = ap₂ (λ (x y : List NodeName). x ++ y) one other

places_named : (features : Features) → row_names (place_node_rows features) ≡ place_names (place_ids features)
unfolding place_node_rows place_ids walkable_ids row_name place_name
places_named features =
    let amenities : row_names (map amenity features.amenities) ≡ place_names (ids_of file.Amenity features) = same_names amenity (λ (row : AmenityRow). row.id) (λ row. refl) features.amenities in
    let anchors : row_names (map anchor features.anchors) ≡ place_names (ids_of file.Anchor features) = same_names anchor (λ (row : AnchorRow). row.id) (λ row. refl) features.anchors in
    let openings : row_names (map opening features.openings) ≡ place_names (ids_of file.Opening features) = same_names opening (λ (row : OpeningRow). row.id) (λ row. refl) features.openings in
    let units : row_names (map unit (walkable_units features)) ≡ place_names (walkable_ids features) = same_names unit (λ (row : UnitRow). row.id) (λ row. refl) (walkable_units features) in
    let first : row_names (map amenity features.amenities ++ map anchor features.anchors) ≡ place_names (ids_of file.Amenity features ++ ids_of file.Anchor features) =
    names_append (map amenity features.amenities) (map anchor features.anchors) ∙ both amenities anchors ∙ sym (ids_append (ids_of file.Amenity features) (ids_of file.Anchor features)) in
    let second : row_names ((map amenity features.amenities ++ map anchor features.anchors) ++ map opening features.openings) ≡ place_names ((ids_of file.Amenity features ++ ids_of file.Anchor features) ++ ids_of file.Opening features) =
    names_append (map amenity features.amenities ++ map anchor features.anchors) (map opening features.openings) ∙ both first openings
    ∙ sym (ids_append (ids_of file.Amenity features ++ ids_of file.Anchor features) (ids_of file.Opening features)) in
    names_append ((map amenity features.amenities ++ map anchor features.anchors) ++ map opening features.openings) (map unit (walkable_units features)) ∙ both second units
    ∙ sym (ids_append ((ids_of file.Amenity features ++ ids_of file.Anchor features) ++ ids_of file.Opening features) (walkable_ids features))

corners_named : (inside : Inside) (rows : List UnitRow) → row_names (flat_map (corner_rows inside) rows) ≡ corner_names inside rows
unfolding corner_names row_names
corners_named inside [] = refl
corners_named inside (row ∷ rows) =
    names_append (corner_rows inside row) (flat_map (corner_rows inside) rows) ∙ ap (λ (names : List NodeName). row_names (corner_rows inside row) ++ names) (corners_named inside rows)

all_named : (features : Features) (settings : Settings)
    → row_names (node_rows features settings) ≡ place_names (place_ids features) ++ corner_names settings.inside (walkable_units features)
unfolding node_rows room_corners
all_named features settings =
    names_append (place_node_rows features) (flat_map (corner_rows settings.inside) (walkable_units features))
    ∙ both (places_named features) (corners_named settings.inside (walkable_units features))

names_once : (features : Features) (settings : Settings) → HaveOwnIds features → Once (row_names (node_rows features settings))
unfolding walkable_ids
names_once features settings own =
    subst Once (sym (all_named features settings))
    (once_append (place_names (place_ids features)) (corner_names settings.inside (walkable_units features)) (once_named (place_ids features) (places_once features own))
    (all_corners_once settings.inside (walkable_units features) (once_filter _ features.units (once_in features file.Unit own)))
    (places_apart (place_ids features) settings.inside (walkable_units features)))

-- what is named is the row's node
node_named : (rows : List NodeRow) (n : ℕ) (node : Node) → slice_get (map node_of_row rows) n ≡ Some node → slice_get (row_names rows) n ≡ Some (node_name node)
unfolding row_names row_name
node_named [] n node e = absurd (cc)
node_named (row ∷ rows) zero node e = let same : node_of_row row ≡ node = cc in ap (λ (x : Node). Some (node_name x)) same
node_named (row ∷ rows) (suc n) node e = node_named rows n node e

within_at : {X : Type 0} (xs : List X) (n : ℕ) → n < length xs → (x : X) × (slice_get xs n ≡ Some x)
within_at [] n within = absurd (omega arith)
within_at (x ∷ xs) zero within = (x, refl)
within_at (x ∷ xs) (suc n) within = within_at xs n (omega arith)

named : (v : Version) (n : ℕ) (node : Node) → slice_get (nodes v.features v.settings) n ≡ Some node → name_of v n ≡ node_name node
unfolding name_of
named v n node there = rw (there, name_of) refl

-- two nodes of one name are one
pub one_node : (v : Version) → HaveOwnIds v.features → (m n : ℕ) → m < length (nodes v.features v.settings) → n < length (nodes v.features v.settings) → name_of v m ≡ name_of v n → m ≡ n
unfolding nodes
one_node v own m n first second same =
    let one = within_at (nodes v.features v.settings) m first in
    let other = within_at (nodes v.features v.settings) n second in
    let names : node_name one.0 ≡ node_name other.0 = sym (named v m one.0 one.1) ∙ same ∙ named v n other.0 other.1 in
    (names_once v.features v.settings own).once m n (node_name other.0)
    (at m one.0 one.1 ∙ ap Some names) (at n other.0 other.1) where
      at : (k : ℕ) (node : Node) → slice_get (nodes v.features v.settings) k ≡ Some node → slice_get (row_names (node_rows v.features v.settings)) k ≡ Some (node_name node)
      at k node there = node_named (node_rows v.features v.settings) k node there
