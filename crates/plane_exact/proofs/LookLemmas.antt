-- What looks at walls tell together, and which points a way is nearby.
use Rattle.std.proofs.Common.{◌≡◌, ℕ, ◌+◌, ◌*◌, ◌%◌, ◌<◌, ◌≤◌, zero, suc, ℤ, pos, ◌+ℤ◌, ◌*ℤ◌, Bool, true, false, not, ◌&&◌, ◌||◌, cond, inl, inr, List, [], ◌∷◌, ◌++◌, length, get_or, drop, map, flat_map, refl, ap, ap₂, sym, ◌∙◌, subst, arith}
use Rattle.std.specs.Prelude.{◌==◌}
use mathlib.Core.Bool.{beq}
use Rattle.std.specs.List.{list_any, All, Contains}
use Rattle.std.proofs.lemmas.Int.{ints}
use Rattle.std.proofs.lemmas.List.{map-append, drop_all}
use Rattle.std.proofs.lemmas.List.Folds.{list_any-append}
use Rattle.std.proofs.lemmas.List.Elements.{All-contains, Contains-append_left, Contains-append_right}
use Rattle.std.proofs.lemmas.Bool.Decides.{Decides-eqb}
use Rattle.venue_types.specs.declared.point.Point.{Point}
use Rattle.venue_types.specs.declared.point.Spot.{Spot}
use Rattle.venue_types.specs.declared.point.Shape.{Shape}
use Rattle.venue_types.proofs.Items.{at_member, at_map, member_at, Contains-cons_cases}
use Rattle.plane_exact.specs.declared.sights.Way.{Way}
use Rattle.plane_exact.specs.declared.sights.Look.{Look}
use Rattle.plane_exact.specs.Plane.{IsWithin, IsNearby, IsInRange}
use Rattle.plane_exact.specs.Figure.{Edge, AllNearby, edges_from, all_edges, vertices, crossings, meets_ray}
use Rattle.plane_exact.specs.Scaled.{times, scaled, scaled_edge}
use Rattle.plane_exact.specs.Sight.{at_spot, middle_of}
use Rattle.plane_exact.specs.Seeing.{does_see, edge_stops, vertex_stops, is_near_edge}
use Rattle.plane_exact.specs.Looks.{FitsWay, way_between, edge_look, vertex_look, blank_look, joined_look, look_at, is_free}
use Rattle.plane_exact.proofs.ListLemmas.{drop_at}
use Rattle.plane_exact.proofs.ParityLemmas.{crossings-cons, odd_parts}
use Rattle.plane_exact.proofs.NearbyLemmas.{AllNearby-fewer, Contains-both}
use Rattle.plane_exact.proofs.ScaleLaw.{edges_of_scaled, points_of_scaled, same_test}
use Rattle.plane_exact.proofs.SeesLaw.{same_sight}

-- ---- one look

abbrev pub look_with : Bool → Bool → Bool → Look
look_with s o n = record { stopped = s; odd = o; near = n }

pub same_look : {s t o p n m : Bool} → s ≡ t → o ≡ p → n ≡ m → look_with s o n ≡ look_with t p m
same_look {t = t} {p = p} {n = n} e f g = ap₂ (λ x y. look_with x y n) e f ∙ ap (look_with t p) g

abbrev pub one_of : Bool → Bool → Bool
one_of a b = cond a (not b) b

pub unequal : (a b : Bool) → not (beq a b) ≡ one_of a b
unequal true true = refl
unequal true false = refl
unequal false true = refl
unequal false false = refl

or_assoc : (a b c : Bool) → ((a || b) || c) ≡ (a || (b || c))
or_assoc true b c = refl
or_assoc false b c = refl

one_of_assoc : (a b c : Bool) → one_of (one_of a b) c ≡ one_of a (one_of b c)
one_of_assoc true true true = refl
one_of_assoc true true false = refl
one_of_assoc true false true = refl
one_of_assoc true false false = refl
one_of_assoc false b c = refl

or_false : (a : Bool) → (a || false) ≡ a
or_false true = refl
or_false false = refl

one_of_false : (a : Bool) → one_of a false ≡ a
one_of_false true = refl
one_of_false false = refl

pub joined_assoc : (a b c : Look) → joined_look (joined_look a b) c ≡ joined_look a (joined_look b c)
unfolding joined_look
joined_assoc a b c = same_look (or_assoc a.stopped b.stopped c.stopped) (one_of_assoc a.odd b.odd c.odd) (or_assoc a.near b.near c.near)

pub blank_joined : (a : Look) → joined_look blank_look a ≡ a
unfolding joined_look blank_look
blank_joined a = refl

pub joined_blank : (a : Look) → joined_look a blank_look ≡ a
unfolding joined_look blank_look
joined_blank a = same_look (or_false a.stopped) (one_of_false a.odd) (or_false a.near)

-- ---- looks at lists

exchanged : (a b c d : Bool) → ((a || b) || (c || d)) ≡ ((a || c) || (b || d))
exchanged true b c d = refl
exchanged false true true d = refl
exchanged false true false d = refl
exchanged false false c d = refl

any_both : {X Y : Type 0} (test : Y → Bool) (f : X → Y) (xs ys : List X) → list_any test (map f (xs ++ ys)) ≡ (list_any test (map f xs) || list_any test (map f ys))
any_both test f xs ys = ap (list_any test) (map-append f xs ys) ∙ list_any-append test (map f xs) (map f ys)

odd_both : (p : Point) (xs ys : List Edge) → (crossings p (map (scaled_edge 4) (xs ++ ys)) % 2 == 1) ≡ one_of (crossings p (map (scaled_edge 4) xs) % 2 == 1) (crossings p (map (scaled_edge 4) ys) % 2 == 1)
odd_both p xs ys =
    let whole = map (scaled_edge 4) (xs ++ ys) in
    let front = map (scaled_edge 4) xs in
    let back = map (scaled_edge 4) ys in
    same_test _ _ _ _ (Decides-eqb (crossings p whole % 2) 1) (odd_parts p whole front back _ _ (map-append (scaled_edge 4) xs ys) (Decides-eqb (crossings p front % 2) 1) (Decides-eqb (crossings p back % 2) 1)) (λ h. h, λ h. h)
    ∙ unequal (crossings p front % 2 == 1) (crossings p back % 2 == 1)

pub look_at-append : (way : Way) (xs ys : List Edge) (us vs : List Point) → look_at way (xs ++ ys) (us ++ vs) ≡ joined_look (look_at way xs us) (look_at way ys vs)
unfolding look_at joined_look
look_at-append way xs ys us vs =
    let f = edge_stops way.from way.to way.tolerance in
    let g = vertex_stops way.from way.to way.tolerance in
    same_look
    (ap₂ (λ a b. a || b) (any_both f (scaled_edge 4) xs ys) (any_both g (times 4) us vs)
    ∙ exchanged (list_any f (map (scaled_edge 4) xs)) (list_any f (map (scaled_edge 4) ys)) (list_any g (map (times 4) us)) (list_any g (map (times 4) vs)))
    (odd_both way.middle xs ys)
    (any_both (λ (edge : Edge). is_near_edge way.middle edge.from edge.to way.tolerance) (scaled_edge 4) xs ys)

pub look_at-nil : (way : Way) → look_at way [] [] ≡ blank_look
unfolding look_at blank_look
look_at-nil way = refl

odd_one : (p : Point) (edge : Edge) → (crossings p (edge ∷ []) % 2 == 1) ≡ meets_ray p edge
odd_one p edge = ap (λ n. n % 2 == 1) (crossings-cons p edge [] (meets_ray p edge) refl) ∙ parity (meets_ray p edge) where
  parity : (m : Bool) → ((cond m 1 0 + 0) % 2 == 1) ≡ m
  parity true = refl
  parity false = refl

pub look_at-edge : (way : Way) (edge : Edge) → look_at way (edge ∷ []) [] ≡ edge_look way (scaled_edge 4 edge)
unfolding look_at edge_look
look_at-edge way edge =
    let stopped = edge_stops way.from way.to way.tolerance (scaled_edge 4 edge) in
    same_look (or_false (stopped || false) ∙ or_false stopped) (odd_one way.middle (scaled_edge 4 edge)) (or_false (is_near_edge way.middle (times 4 edge.from) (times 4 edge.to) way.tolerance))

pub look_at-vertex : (way : Way) (v : Point) → look_at way [] (v ∷ []) ≡ vertex_look way (times 4 v)
unfolding look_at vertex_look
look_at-vertex way v = same_look (or_false (vertex_stops way.from way.to way.tolerance (times 4 v))) refl refl

-- ---- steps of loops: what was told so far and what is told ahead make up all

step_look : (way : Way) (so_far now new all : Look) (xs ys : List Edge) (us vs : List Point) → now ≡ look_at way xs us → new ≡ joined_look so_far now → joined_look so_far (look_at way (xs ++ ys) (us ++ vs)) ≡ all → joined_look new (look_at way ys vs) ≡ all
step_look way so_far now new all xs ys us vs e f h =
    let ahead = look_at way ys vs in
    ap (λ l. joined_look l ahead) f ∙ joined_assoc so_far now ahead ∙ ap (joined_look so_far) (ap (λ l. joined_look l ahead) e ∙ sym (look_at-append way xs ys us vs)) ∙ h

pub chain_look : (way : Way) (a : Point) (rest : List Point) (i : ℕ) (d : Point) (so_far now new all : Look) → i < length rest → now ≡ look_at way (record { from = a; to = get_or rest i d } ∷ []) (get_or rest i d ∷ []) → new ≡ joined_look so_far now → joined_look so_far (look_at way (edges_from a (drop i rest)) (drop i rest)) ≡ all → joined_look new (look_at way (edges_from (get_or rest i d) (drop (i + 1) rest)) (drop (i + 1) rest)) ≡ all
chain_look way a rest i d so_far now new all within e f h =
    let b = get_or rest i d in
    let more = drop (i + 1) rest in
    step_look way so_far now new all (record { from = a; to = b } ∷ []) (edges_from b more) (b ∷ []) more e f (ap (λ xs. joined_look so_far (look_at way (edges_from a xs) xs)) (sym (drop_at rest i b d within refl)) ∙ h)

pub items_look : {X : Type 0} (f : X → List Edge) (g : X → List Point) (way : Way) (xs : List X) (i : ℕ) (x d : X) (so_far now new all : Look) → i < length xs → get_or xs i d ≡ x → now ≡ look_at way (f x) (g x) → new ≡ joined_look so_far now → joined_look so_far (look_at way (flat_map f (drop i xs)) (flat_map g (drop i xs))) ≡ all → joined_look new (look_at way (flat_map f (drop (i + 1) xs)) (flat_map g (drop (i + 1) xs))) ≡ all
items_look f g way xs i x d so_far now new all within at e k h =
    let more = drop (i + 1) xs in
    step_look way so_far now new all (f x) (flat_map f more) (g x) (flat_map g more) e k (ap (λ ys. joined_look so_far (look_at way (flat_map f ys) (flat_map g ys))) (sym (drop_at xs i x d within at)) ∙ h)

-- at the end nothing is ahead
whole_look : (way : Way) (so_far all : Look) → joined_look so_far (look_at way [] []) ≡ all → so_far ≡ all
whole_look way so_far all h = sym (ap (joined_look so_far) (look_at-nil way) ∙ joined_blank so_far) ∙ h

pub chain_whole : (way : Way) (a : Point) (rest : List Point) (i : ℕ) (so_far all : Look) → length rest ≤ i → joined_look so_far (look_at way (edges_from a (drop i rest)) (drop i rest)) ≡ all → so_far ≡ all
chain_whole way a rest i so_far all past h = whole_look way so_far all (ap (λ xs. joined_look so_far (look_at way (edges_from a xs) xs)) (sym (drop_all i rest past)) ∙ h)

pub items_whole : {X : Type 0} (f : X → List Edge) (g : X → List Point) (way : Way) (xs : List X) (i : ℕ) (so_far all : Look) → length xs ≤ i → joined_look so_far (look_at way (flat_map f (drop i xs)) (flat_map g (drop i xs))) ≡ all → so_far ≡ all
items_whole f g way xs i so_far all past h = whole_look way so_far all (ap (λ ys. joined_look so_far (look_at way (flat_map f ys) (flat_map g ys))) (sym (drop_all i xs past)) ∙ h)

-- at the start all is ahead
pub chain_start : (way : Way) (a : Point) (rest : List Point) (so_far : Look) → so_far ≡ look_at way [] (a ∷ []) → joined_look so_far (look_at way (edges_from a rest) rest) ≡ look_at way (edges_from a rest) (a ∷ rest)
chain_start way a rest so_far e = ap (λ l. joined_look l (look_at way (edges_from a rest) rest)) e ∙ sym (look_at-append way [] (edges_from a rest) (a ∷ []) rest)

pub items_start : (way : Way) (list : List Edge) (points : List Point) (so_far : Look) → so_far ≡ blank_look → joined_look so_far (look_at way list points) ≡ look_at way list points
items_start way list points so_far e = ap (λ l. joined_look l (look_at way list points)) e ∙ blank_joined (look_at way list points)

-- ---- which points a way is nearby

pub FitsWay-fewer : (way : Way) (xs ys : List Point) → ((q : Point) → Contains xs q → Contains ys q) → FitsWay way ys → FitsWay way xs
FitsWay-fewer way xs ys within h = record { near = λ p q i j. h.near p q (within p i) (within q j); range = λ p i. h.range p (within p i); tolerance = h.tolerance }

pub fits_left : (way : Way) (xs ys : List Point) → FitsWay way (xs ++ ys) → FitsWay way xs
fits_left way xs ys h = FitsWay-fewer way xs (xs ++ ys) (λ q. Contains-append_left xs ys q) h

pub fits_right : (way : Way) (xs ys : List Point) → FitsWay way (xs ++ ys) → FitsWay way ys
fits_right way xs ys h = FitsWay-fewer way ys (xs ++ ys) (λ q. Contains-append_right xs ys q) h

fits_ahead : (way : Way) (a : Point) (rest : List Point) (i : ℕ) (d : Point) → i < length rest → FitsWay way (a ∷ drop i rest) → FitsWay way (a ∷ get_or rest i d ∷ drop (i + 1) rest)
fits_ahead way a rest i d within h = subst (λ (xs : List Point). FitsWay way (a ∷ xs)) (drop_at rest i (get_or rest i d) d within refl) h

pub fits_step : (way : Way) (a : Point) (rest : List Point) (i : ℕ) (d : Point) → i < length rest → FitsWay way (a ∷ drop i rest) → FitsWay way (a ∷ get_or rest i d ∷ [])
fits_step way a rest i d within h = fits_left way (a ∷ get_or rest i d ∷ []) (drop (i + 1) rest) (fits_ahead way a rest i d within h)

pub fits_later : (way : Way) (a : Point) (rest : List Point) (i : ℕ) (d : Point) → i < length rest → FitsWay way (a ∷ drop i rest) → FitsWay way (get_or rest i d ∷ drop (i + 1) rest)
fits_later way a rest i d within h = fits_right way (a ∷ []) (get_or rest i d ∷ drop (i + 1) rest) (fits_ahead way a rest i d within h)

items_ahead : {X : Type 0} (g : X → List Point) (way : Way) (xs : List X) (i : ℕ) (x d : X) → i < length xs → get_or xs i d ≡ x → FitsWay way (flat_map g (drop i xs)) → FitsWay way (g x ++ flat_map g (drop (i + 1) xs))
items_ahead {X} g way xs i x d within at h = subst (λ (ys : List X). FitsWay way (flat_map g ys)) (drop_at xs i x d within at) h

pub fits_item : {X : Type 0} (g : X → List Point) (way : Way) (xs : List X) (i : ℕ) (x d : X) → i < length xs → get_or xs i d ≡ x → FitsWay way (flat_map g (drop i xs)) → FitsWay way (g x)
fits_item g way xs i x d within at h = fits_left way (g x) (flat_map g (drop (i + 1) xs)) (items_ahead g way xs i x d within at h)

pub fits_items : {X : Type 0} (g : X → List Point) (way : Way) (xs : List X) (i : ℕ) (x d : X) → i < length xs → get_or xs i d ≡ x → FitsWay way (flat_map g (drop i xs)) → FitsWay way (flat_map g (drop (i + 1) xs))
fits_items g way xs i x d within at h = fits_right way (g x) (flat_map g (drop (i + 1) xs)) (items_ahead g way xs i x d within at h)

-- the ends of a way and one of the points
pub vertex_near : (way : Way) (points : List Point) (v : Point) → Contains points v → FitsWay way points → AllNearby (way.from ∷ way.to ∷ times 4 v ∷ [])
vertex_near way points v has h =
    let all = way.from ∷ way.to ∷ times 4 v ∷ [] in
    AllNearby-fewer all (way.middle ∷ (all ++ times 4 v ∷ [])) (λ q k. Contains-append_right (way.middle ∷ []) (all ++ times 4 v ∷ []) q (Contains-append_left all (times 4 v ∷ []) q k)) (h.near v v has has)

-- ---- the middle of a way

between : (bound : ℕ) (a b z : ℤ) → IsWithin bound (pos 2 *ℤ a) z → IsWithin bound (pos 2 *ℤ b) z → IsWithin bound (a +ℤ b) z
between bound a b z h k = record { above = omega (arith, ints); below = omega (arith, ints) }

IsWithin-turned : (bound : ℕ) (m n : ℤ) → IsWithin bound m n → IsWithin bound n m
IsWithin-turned bound m n h = record { above = h.below; below = h.above }

IsWithin-itself : (bound : ℕ) (m : ℤ) → IsWithin bound m m
IsWithin-itself bound m = record { above = omega (arith, ints); below = omega (arith, ints) }

middle_near : (a b : Spot) (p : Point) → IsNearby (times 2 (at_spot a)) p → IsNearby (times 2 (at_spot b)) p → IsNearby (middle_of a b) p
middle_near a b p h k = record { x = between 800000000 a.x b.x p.x h.x k.x; y = between 800000000 a.y b.y p.y h.y k.y }

IsNearby-turned : (p q : Point) → IsNearby p q → IsNearby q p
IsNearby-turned p q h = record { x = IsWithin-turned 800000000 p.x q.x h.x; y = IsWithin-turned 800000000 p.y q.y h.y }

pub IsNearby-itself : (p : Point) → IsNearby p p
IsNearby-itself p = record { x = IsWithin-itself 800000000 p.x; y = IsWithin-itself 800000000 p.y }

-- with the middle all are nearby too
with_middle : (a b : Spot) (rest : List Point) → AllNearby (times 2 (at_spot a) ∷ times 2 (at_spot b) ∷ rest) → AllNearby (middle_of a b ∷ times 2 (at_spot a) ∷ times 2 (at_spot b) ∷ rest)
with_middle a b rest h =
    let from = times 2 (at_spot a) in
    let to = times 2 (at_spot b) in
    let middle = middle_of a b in
    let all = from ∷ to ∷ rest in
    let near : (q : Point) → Contains all q → IsNearby middle q = λ q k. middle_near a b q (h.near from q (0, omega arith, refl) k) (h.near to q (1, omega arith, refl) k) in
    record {
      near =
          λ p q i j. elim (Contains-cons_cases middle all p i) [
            | inl e ↦ elim (Contains-cons_cases middle all q j) [
              | inl f ↦ subst (λ (x : Point). IsNearby p x) (sym e ∙ f) (IsNearby-itself p)
              | inr l ↦ subst (λ (x : Point). IsNearby x q) e (near q l)
            ]
            | inr k ↦ elim (Contains-cons_cases middle all q j) [ inl f ↦ subst (λ (x : Point). IsNearby p x) f (IsNearby-turned middle p (near p k)) | inr l ↦ h.near p q k l ]
          ];
    }

Contains-map : {X Y : Type 0} (f : X → Y) (xs : List X) (x : X) → Contains xs x → Contains (map f xs) (f x)
Contains-map f xs x h = let m = at_member xs x h in member_at (map f xs) m.0 (f x) (at_map f xs m.0 x m.1)

few : (p q x : Point) (points : List Point) → Contains points p → Contains points q → Contains (p ∷ q ∷ []) x → Contains points x
few p q x points has_p has_q (zero, within, at) = subst (λ (y : Point). Contains points y) at has_p
few p q x points has_p has_q (suc zero, within, at) = subst (λ (y : Point). Contains points y) at has_q
few p q x points has_p has_q (suc (suc k), within, at) = absurd (omega (arith, within))

pub way_fits : (a b : Spot) (shape : Shape) (t : ℕ) → AllNearby (times 2 (at_spot a) ∷ times 2 (at_spot b) ∷ vertices (scaled 4 shape)) → All IsInRange (at_spot a ∷ at_spot b ∷ vertices shape) → t ≤ 1000000 → FitsWay (way_between a b t) (vertices shape)
unfolding way_between
way_fits a b shape t near range small =
    let from = times 2 (at_spot a) in
    let to = times 2 (at_spot b) in
    let points = vertices (scaled 4 shape) in
    let has : (p : Point) → Contains (vertices shape) p → Contains points (times 4 p) = λ p k. subst (λ (xs : List Point). Contains xs (times 4 p)) (sym (points_of_scaled 4 shape)) (Contains-map (times 4) (vertices shape) p k) in
    record {
      near =
          λ p q i j. let both = times 4 p ∷ times 4 q ∷ [] in
          with_middle a b both (AllNearby-fewer (from ∷ to ∷ both) (from ∷ to ∷ points) (λ x. Contains-both from x (to ∷ both) (to ∷ points) (λ y. Contains-both to y both points (λ z. few (times 4 p) (times 4 q) z points (has p i) (has q j)))) near);
      range = λ p i. All-contains IsInRange (at_spot a ∷ at_spot b ∷ vertices shape) p range (Contains-append_right (at_spot a ∷ at_spot b ∷ []) (vertices shape) p i);
      tolerance = omega arith;
    }

-- ---- what a look at all walls shows

free_both : (a b h : Bool) → (not (a || b) && h) ≡ (not a && (not b && h))
free_both true b h = refl
free_both false b h = refl

pub free_look : (a b : Spot) (shape : Shape) (t : ℕ) → is_free (look_at (way_between a b t) (all_edges shape) (vertices shape)) ≡ does_see a b shape t
unfolding is_free look_at way_between
free_look a b shape t =
    let f = edge_stops (times 2 (at_spot a)) (times 2 (at_spot b)) (4 * t) in
    let g = vertex_stops (times 2 (at_spot a)) (times 2 (at_spot b)) (4 * t) in
    let middle = middle_of a b in
    let near = λ (edge : Edge). is_near_edge middle edge.from edge.to (4 * t) in
    ap₂ (λ (list : List Edge) (points : List Point). not (list_any f list || list_any g points) && ((crossings middle list % 2 == 1) || list_any near list)) (sym (edges_of_scaled 4 shape)) (sym (points_of_scaled 4 shape))
    ∙ free_both (list_any f (all_edges (scaled 4 shape))) (list_any g (vertices (scaled 4 shape))) _
    ∙ same_sight a b shape t
