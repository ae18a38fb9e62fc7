-- What a folder's nodes name, and the members of its units.
use Rattle.std.proofs.Common.{◌≡◌, ◌↔◌, ℕ, ◌+◌, ◌≤◌, zero, suc, List, [], ◌∷◌, ◌++◌, Some, None, Bool, true, false, ◌||◌, length, map, filter, flat_map, replicate, refl, sym, ap, subst, ◌∙◌, arith, length-append}
use Rattle.std.specs.Prelude.{IsTrue, slice_get}
use Rattle.std.specs.List.{AllZip}
use Rattle.std.specs.Option.{option_map}
use Rattle.std.proofs.lemmas.List.{length-map}
use Rattle.std.proofs.lemmas.Option.{same_Some}
use Rattle.venue_types.proofs.Items.{at_member, member_at, at_map}
use Rattle.venue_types.specs.declared.feature_id.FeatureId.{FeatureId}
use Rattle.venue_types.specs.declared.features.Features.{Features}
use Rattle.venue_types.specs.declared.features.AmenityRow.{AmenityRow}
use Rattle.venue_types.specs.declared.features.AnchorRow.{AnchorRow}
use Rattle.venue_types.specs.declared.features.OpeningRow.{OpeningRow}
use Rattle.venue_types.specs.declared.features.UnitRow.{UnitRow}
use Rattle.venue_types.specs.declared.link.Touches as touching
use Rattle.venue_types.specs.declared.point.Point.{Point}
use Rattle.venue_types.specs.declared.settings.Inside.{Inside}
use Rattle.venue_types.specs.declared.settings.Settings.{Settings}
use Rattle.plane_exact.specs.Opening.{Touches, HaveTouch, AreTouches}
use Rattle.feature_rows.specs.Rows.{feature_count}
use Rattle.feature_rows.specs.Indexes.{AreOnce}
use Rattle.feature_rows.specs.Sound.{AreSound}
use Rattle.venue_nodes.specs.Identity.{is_same}
use Rattle.venue_nodes.specs.Touching.{does_touch}
use Rattle.venue_nodes.specs.Nodes.{NodeRow, amenity, anchor, opening, unit, corner, corner_points, corner_rows, corner_rows_from, place_node_rows, room_corners, node_rows, nodes, node_of_row, walkable_units}
use Rattle.venue_nodes.specs.Members.{is_member, members, places_where}
use Rattle.venue_nodes.specs.Naming.{names, numbers, row_in, can_walk, unit_id, ids_at, corner_names, named_by, named_by_corners, place_bound}
use Rattle.venue_nodes.proofs.CornerTotals.{few_room_corners, names_many}
use Rattle.venue_nodes.proofs.Items.{given_from, given_to, map_twice}
use Rattle.venue_nodes.proofs.Named.{names_one, one_names}
use Rattle.venue_nodes.proofs.Places.{places-zip, places_count, places_few, kept_at}

-- ---- tests that agree, node by node

pub zip_maps : {R X Y : Type 0} (t : X → Bool) (s : Y → Bool) (f : R → X) (g : R → Y) (rows : List R) → ((r : R) → t (f r) ≡ s (g r)) → AllZip (λ x y. t x ≡ s y) (map f rows) (map g rows)
zip_maps t s f g [] same = tt
zip_maps t s f g (r ∷ rows) same = (same r, zip_maps t s f g rows same)

zip_two : {P Q X Y : Type 0} (t : X → Bool) (s : Y → Bool) (f : P → X) (g : Q → Y) (ps : List P) (qs : List Q) → length ps ≡ length qs
    → ((k : ℕ) (p : P) (q : Q) → slice_get ps k ≡ Some p → slice_get qs k ≡ Some q → t (f p) ≡ s (g q)) → AllZip (λ x y. t x ≡ s y) (map f ps) (map g qs)
zip_two t s f g [] [] long same = tt
zip_two t s f g [] (q ∷ qs) long same = absurd (omega arith)
zip_two t s f g (p ∷ ps) [] long same = absurd (omega arith)
zip_two t s f g (p ∷ ps) (q ∷ qs) long same = (same 0 p q refl refl, zip_two t s f g ps qs (omega arith) (λ k x y a b. same (suc k) x y a b))

zip_append : {X Y : Type 0} (R : X → Y → Type 0) (xs xs' : List X) (ys ys' : List Y) → AllZip R xs ys → AllZip R xs' ys' → AllZip R (xs ++ xs') (ys ++ ys')
zip_append R [] xs' [] ys' zip zip' = zip'
zip_append R [] xs' (y ∷ ys) ys' zip zip' = absurd zip
zip_append R (x ∷ xs) xs' [] ys' zip zip' = absurd zip
zip_append R (x ∷ xs) xs' (y ∷ ys) ys' zip zip' = (zip.0, zip_append R xs xs' ys ys' zip.1 zip')

pub or_false : (b : Bool) → ◌||◌ b false ≡ b
or_false true = refl
or_false false = refl

-- the corners of a unit agree with what they name, where each does
corners_zip : (t : List FeatureId → Bool) (s : NodeRow → Bool) (row : UnitRow) (n : ℕ) (points : List Point) → ((k : ℕ) (p : Point) → t (row.id ∷ []) ≡ s (corner row k p))
    → AllZip (λ x y. t x ≡ s y) (replicate (length points) (row.id ∷ [])) (corner_rows_from row n points)
corners_zip t s row n [] same = tt
corners_zip t s row n (p ∷ ps) same = (same n p, corners_zip t s row (n + 1) ps same)

rooms_zip : (t : List FeatureId → Bool) (s : NodeRow → Bool) (inside : Inside) (rows : List UnitRow) → ((row : UnitRow) (k : ℕ) (p : Point) → t (row.id ∷ []) ≡ s (corner row k p))
    → AllZip (λ x y. t x ≡ s y) (flat_map (corner_names inside) rows) (flat_map (corner_rows inside) rows)
rooms_zip t s inside [] same = tt
rooms_zip t s inside (row ∷ rows) same =
    zip_append (λ x y. t x ≡ s y) (corner_names inside row) (flat_map (corner_names inside) rows) (corner_rows inside row) (flat_map (corner_rows inside) rows)
    (corners_zip t s row 1 (corner_points inside row) (same row)) (rooms_zip t s inside rows same)

-- a unit's corners have it as members, and no other unit
pub own_corners : (u : UnitRow) (border_tol : ℕ) (inside : Inside) (units : List UnitRow) → AllZip (λ ids row. names ids u.id ≡ is_member border_tol u row) (named_by_corners inside units) (flat_map (corner_rows inside) (filter can_walk units))
unfolding named_by_corners
own_corners u border_tol inside units = rooms_zip (λ (ids : List FeatureId). names ids u.id) (is_member border_tol u) inside (filter can_walk units) (λ row k p. or_false (is_same row.id u.id))

same_test : (a b : Bool) → (a ≡ true → b ≡ true) → (b ≡ true → a ≡ true) → a ≡ b
same_test true b into back = sym (into refl)
same_test false true into back = back refl
same_test false false into back = refl

-- ---- an opening and what it touches

from_some : (units : List UnitRow) (k : ℕ) (id : FeatureId) → option_map unit_id (slice_get units k) ≡ Some id → (u : UnitRow) × (slice_get units k ≡ Some u) × (u.id ≡ id)
from_some [] k id e = absurd (let c : None ≡ Some id = e in cc)
from_some (u ∷ units) zero id e = (u, refl, same_Some u.id id e)
from_some (u ∷ units) (suc k) id e = from_some units k id e

-- the facts of a folder and its table of touches
pub record IsTouched (features : Features) (border_tol : ℕ) (touches : touching.Touches) : Type 0 where
  pub law : (o : OpeningRow) (u : UnitRow) → IsTrue (does_touch border_tol o u) ↔ Touches border_tol o u
  pub once : AreOnce (map unit_id features.units)
  pub are : AreTouches border_tol features touches

touch_into : (features : Features) (border_tol : ℕ) (touches : touching.Touches) → IsTouched features border_tol touches → (o : ℕ) (row : List ℕ) (door : OpeningRow) → slice_get touches.rows o ≡ Some row → slice_get features.openings o ≡ Some door
    → (k : ℕ) (u : UnitRow) → slice_get features.units k ≡ Some u → names (ids_at features.units row) u.id ≡ true → does_touch border_tol door u ≡ true
touch_into features border_tol touches known o row door at_row at_door k u at_unit named =
    let j = names_one (ids_at features.units row) u.id named in
    let given = given_from (λ (i : ℕ). option_map unit_id (slice_get features.units i)) row j.0 u.id j.1 in
    let some = from_some features.units given.x u.id given.gives in
    let same : given.x ≡ k = known.once.once given.x k u.id (at_map unit_id features.units given.x some.0 some.1 ∙ ap (λ (id : FeatureId). Some id) some.2) (at_map unit_id features.units k u at_unit) in
    let touch = (known.are.exact o given.x row at_row).0 (member_at row given.k given.x given.there) in
    let door_is : touch.opening ≡ door = same_Some touch.opening door (sym touch.has_opening ∙ at_door) in
    let unit_is : touch.unit ≡ u = same_Some touch.unit u (sym touch.has_unit ∙ subst (λ (i : ℕ). slice_get features.units i ≡ Some u) (sym same) at_unit) in
    (known.law door u).1 (subst (λ (d : OpeningRow). Touches border_tol d u) door_is (subst (λ (v : UnitRow). Touches border_tol touch.opening v) unit_is touch.touch))

touch_back : (features : Features) (border_tol : ℕ) (touches : touching.Touches) → IsTouched features border_tol touches → (o : ℕ) (row : List ℕ) (door : OpeningRow) → slice_get touches.rows o ≡ Some row → slice_get features.openings o ≡ Some door
    → (k : ℕ) (u : UnitRow) → slice_get features.units k ≡ Some u → does_touch border_tol door u ≡ true → names (ids_at features.units row) u.id ≡ true
touch_back features border_tol touches known o row door at_row at_door k u at_unit touch =
    let have : HaveTouch border_tol features o k = record { opening = door; unit = u; has_opening = at_door; has_unit = at_unit; touch = (known.law door u).0 touch } in
    let at = at_member row k ((known.are.exact o k row at_row).1 have) in
    let w = given_to (λ (i : ℕ). option_map unit_id (slice_get features.units i)) row at.0 k u.id at.1 (ap (option_map unit_id) at_unit) in
    one_names (ids_at features.units row) u.id w.0 w.1

-- ---- a unit's row

pub row_is : (features : Features) (settings : Settings) (touches : touching.Touches) → IsTouched features settings.border_tol touches → (k : ℕ) (u : UnitRow) → slice_get features.units k ≡ Some u
    → row_in (named_by features settings.inside touches.rows (map unit_id (filter can_walk features.units))) u.id ≡ members features settings u
unfolding members node_rows place_node_rows room_corners
row_is features settings touches known k u at_unit =
    let t : List FeatureId → Bool = λ ids. names ids u.id in
    let s : NodeRow → Bool = is_member settings.border_tol u in
    let R : List FeatureId → NodeRow → Type 0 = λ x y. t x ≡ s y in
    let ways = filter can_walk features.units in
    let one : AllZip R (map (λ (row : AmenityRow). row.units) features.amenities) (map amenity features.amenities) = zip_maps t s (λ (row : AmenityRow). row.units) amenity features.amenities (λ r. refl) in
    let two : AllZip R (map (λ (row : AnchorRow). row.unit ∷ []) features.anchors) (map anchor features.anchors) = zip_maps t s (λ (row : AnchorRow). row.unit ∷ []) anchor features.anchors (λ r. or_false (is_same r.unit u.id)) in
    let three : AllZip R (map (ids_at features.units) touches.rows) (map opening features.openings) =
    zip_two t s (ids_at features.units) opening touches.rows features.openings known.are.rows
    (λ o row door a b. same_test (names (ids_at features.units row) u.id) (does_touch settings.border_tol door u) (touch_into features settings.border_tol touches known o row door a b k u at_unit) (touch_back features settings.border_tol touches known o row door a b k u at_unit)) in
    let four : AllZip R (map (λ (id : FeatureId). id ∷ []) (map unit_id ways)) (map unit ways) =
    subst (λ (xs : List (List FeatureId)). AllZip R xs (map unit ways)) (sym (map_twice (λ (id : FeatureId). id ∷ []) unit_id ways))
    (zip_maps t s (λ (row : UnitRow). row.id ∷ []) unit ways (λ r. or_false (is_same r.id u.id))) in
    let five : AllZip R (named_by_corners settings.inside features.units) (flat_map (corner_rows settings.inside) ways) = own_corners u settings.border_tol settings.inside features.units in
    let a1 = map (λ (row : AmenityRow). row.units) features.amenities in
    let b1 = map (λ (row : AnchorRow). row.unit ∷ []) features.anchors in
    let c1 = map (ids_at features.units) touches.rows in
    let d1 = map (λ (id : FeatureId). id ∷ []) (map unit_id ways) in
    let a2 = map amenity features.amenities in
    let b2 = map anchor features.anchors in
    let c2 = map opening features.openings in
    let d2 = map unit ways in
    let e2 = flat_map (corner_rows settings.inside) ways in
    places-zip t s 0 (named_by features settings.inside touches.rows (map unit_id ways)) (a2 ++ b2 ++ c2 ++ d2 ++ e2)
    (zip_append R (a1 ++ b1 ++ c1 ++ d1) (named_by_corners settings.inside features.units) (a2 ++ b2 ++ c2 ++ d2) e2
    (zip_append R (a1 ++ b1 ++ c1) d1 (a2 ++ b2 ++ c2) d2
    (zip_append R (a1 ++ b1) c1 (a2 ++ b2) c2
    (zip_append R a1 b1 a2 b2 one two)
    three)
    four)
    five)

map_same_in : {A B : Type 0} (f g : A → B) (xs : List A) → ((w : ℕ) (x : A) → slice_get xs w ≡ Some x → f x ≡ g x) → map f xs ≡ map g xs
map_same_in f g [] e = refl
map_same_in {A} {B} f g (x ∷ xs) e = ap (λ (y : B). y ∷ map f xs) (e 0 x refl) ∙ ap (λ (ys : List B). g x ∷ ys) (map_same_in f g xs (λ w y at. e (suc w) y at))

pub rows_are : (features : Features) (settings : Settings) (touches : touching.Touches) → IsTouched features settings.border_tol touches
    → map (row_in (named_by features settings.inside touches.rows (map unit_id (filter can_walk features.units)))) (map unit_id (filter can_walk features.units)) ≡ map (members features settings) (walkable_units features)
rows_are features settings touches known =
    let ways = filter can_walk features.units in
    let ids = map unit_id ways in
    map_twice (row_in (named_by features settings.inside touches.rows ids)) unit_id ways
    ∙ map_same_in (λ (u : UnitRow). row_in (named_by features settings.inside touches.rows ids) u.id) (members features settings) ways
    (λ w u at. let kept = kept_at can_walk 0 features.units w u at in row_is features settings touches known kept.k u kept.there)

-- ---- how many nodes

pub few_rows : (features : Features) (touched : List (List ℕ)) → feature_count features ≤ 100000 → length touched ≡ length features.openings → place_bound features touched ≤ 100000
few_rows features touched few paired =
    omega (arith, few, paired, length-map features.amenities (λ (row : AmenityRow). row.id), length-map features.anchors (λ (row : AnchorRow). row.id), length-map features.openings (λ (row : OpeningRow). row.id), length-map features.units (λ (row : UnitRow). row.id))

five_long : {X : Type 0} (a b c d e : List X) → length (a ++ b ++ c ++ d ++ e) ≡ length a + length b + length c + length d + length e
five_long a b c d e = omega (arith, length-append (a ++ b ++ c ++ d) e, length-append (a ++ b ++ c) d, length-append (a ++ b) c, length-append a b)

-- the places that name units, and the corners
named_long : (features : Features) (inside : Inside) (touched : List (List ℕ)) (owns : List FeatureId)
    → length (named_by features inside touched owns) ≡ length features.amenities + length features.anchors + length touched + length owns + length (named_by_corners inside features.units)
named_long features inside touched owns =
    let a = map (λ (row : AmenityRow). row.units) features.amenities in
    let b = map (λ (row : AnchorRow). row.unit ∷ []) features.anchors in
    let c = map (ids_at features.units) touched in
    let d = map (λ (id : FeatureId). id ∷ []) owns in
    let e = named_by_corners inside features.units in
    let whole = five_long a b c d e in
    let la : length a ≡ length features.amenities = length-map features.amenities (λ (row : AmenityRow). row.units) in
    let lb : length b ≡ length features.anchors = length-map features.anchors (λ (row : AnchorRow). row.unit ∷ []) in
    let lc : length c ≡ length touched = length-map touched (ids_at features.units) in
    let ld : length d ≡ length owns = length-map owns (λ (id : FeatureId). id ∷ []) in
    omega arith

pub few_lists : (features : Features) (inside : Inside) (touched : List (List ℕ)) (owns : List FeatureId) (lists : List (List ℕ)) → place_bound features touched ≤ 100000 → length (named_by_corners inside features.units) ≤ 1000000
    → owns ≡ map unit_id (filter can_walk features.units) → lists ≡ map (numbers owns) (named_by features inside touched owns) → length lists ≤ 1100000
few_lists features inside touched owns lists few few_corners are is =
    let all : length lists ≡ length (named_by features inside touched owns) = ap length is ∙ length-map (named_by features inside touched owns) (numbers owns) in
    let long = named_long features inside touched owns in
    let lo : length owns ≡ length (filter can_walk features.units) = ap length are ∙ length-map (filter can_walk features.units) unit_id in
    let kept : length (places_where can_walk 0 features.units) ≡ length (filter can_walk features.units) = places_count can_walk 0 features.units in
    let part : length (places_where can_walk 0 features.units) ≤ length features.units = places_few can_walk 0 features.units in
    omega arith

pub few_corner_names : (features : Features) (settings : Settings) → AreSound features → length (named_by_corners settings.inside features.units) ≤ 1000000
unfolding room_corners
few_corner_names features settings sound = omega (arith, names_many settings.inside features.units, few_room_corners features settings sound)

-- there are as many lists of names as nodes
pub nodes_named : (features : Features) (settings : Settings) (touched : List (List ℕ)) → length touched ≡ length features.openings
    → length (named_by features settings.inside touched (map unit_id (filter can_walk features.units))) ≡ length (nodes features settings)
unfolding nodes node_rows place_node_rows room_corners
nodes_named features settings touched paired =
    let ways = filter can_walk features.units in
    let a = map amenity features.amenities in
    let b = map anchor features.anchors in
    let c = map opening features.openings in
    let d = map unit ways in
    let e = flat_map (corner_rows settings.inside) ways in
    let all : length (map node_of_row (a ++ b ++ c ++ d ++ e)) ≡ length (a ++ b ++ c ++ d ++ e) = length-map (a ++ b ++ c ++ d ++ e) node_of_row in
    let whole = five_long a b c d e in
    let la : length a ≡ length features.amenities = length-map features.amenities amenity in
    let lb : length b ≡ length features.anchors = length-map features.anchors anchor in
    let lc : length c ≡ length features.openings = length-map features.openings opening in
    let ld : length d ≡ length ways = length-map ways unit in
    let le : length (named_by_corners settings.inside features.units) ≡ length e = names_many settings.inside features.units in
    let long = named_long features settings.inside touched (map unit_id ways) in
    let lo : length (map unit_id ways) ≡ length ways = length-map ways unit_id in
    omega arith

pub paired : (units : List UnitRow) (owns : List FeatureId) (indexes : List ℕ) (rows members : List (List ℕ)) (f : FeatureId → List ℕ) → owns ≡ map unit_id (filter can_walk units) → indexes ≡ places_where can_walk 0 units → rows ≡ map f owns → members ≡ rows
    → length members ≡ length indexes
paired units owns indexes rows members f owns_are indexes_are rows_are members_are =
    ap length members_are ∙ ap length rows_are ∙ length-map owns f ∙ ap length owns_are ∙ length-map (filter can_walk units) unit_id ∙ sym (places_count can_walk 0 units) ∙ sym (ap length indexes_are)
