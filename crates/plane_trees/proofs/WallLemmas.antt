-- Walls that stop a way: what lies apart from it has none, and what parts have makes up what the whole has.
use Rattle.std.proofs.Common.{◌≡◌, ℕ, zero, suc, ◌+◌, ◌<◌, ◌≤◌, ℤ, ◌+ℤ◌, ◌-ℤ◌, ◌≤ℤ◌, ◌<ℤ◌, ◌⊎◌, inl, inr, Option, Some, None, IfNone, List, [], ◌∷◌, ◌++◌, length, drop, get_or, Contains, refl, sym, subst, arith}
use Rattle.std.proofs.lemmas.Int.{ints}
use Rattle.std.proofs.lemmas.List.{drop_all}
use Rattle.std.proofs.lemmas.List.Elements.{All-nil, All-cons, All-head, All-tail, All-contains, Contains-append_left, Contains-append_right, Contains-append_cases, Contains-get_or}
use Rattle.venue_types.specs.declared.point.Point.{Point}
use Rattle.venue_types.specs.declared.point.Ring.{Ring}
use Rattle.plane_exact.specs.declared.walls.Wall.{Wall}
use Rattle.plane_exact.specs.declared.walls.Wall.TheVariants as kind
use Rattle.plane_exact.specs.Sight.{OnOpenSegment}
use Rattle.plane_exact.specs.Walls.{IsAmong}
use Rattle.plane_exact.specs.Figure.{Edge, AllNearby, edges, edges_from, ring_points, ring_edges}
use Rattle.plane_trees.specs.declared.octagons.Band.{Band}
use Rattle.plane_trees.specs.declared.octagons.Octagon.{Octagon}
use Rattle.plane_trees.specs.Line.{Direction, coordinate}
use Rattle.plane_trees.specs.Octagons.{offset, band, IsInBand, IsRound, AreApart}
use Rattle.plane_trees.specs.Trees.{IsObstacle, IsFree}
use Rattle.plane_exact.proofs.ListLemmas.{drop_at}
use Rattle.plane_exact.proofs.NearbyLemmas.{AllNearby-fewer, Contains-both}
use Rattle.plane_trees.proofs.LineLemmas.{ends_of_edge}
use Rattle.plane_trees.proofs.OnSegmentLemmas.{segment_least, segment_greatest}
use Rattle.plane_trees.proofs.RunLemmas.{least_moved, greatest_moved, each_other, octagons_apart}

-- ---- an option

pub none_then : {X A B : Type 0} (r : Option X) → IfNone r A → (A → B) → IfNone r B
none_then None h f = f h
none_then (Some x) h f = h

-- ---- in parts

pub contained_front : {X : Type 0} (whole front back : List X) → whole ≡ front ++ back → (x : X) → Contains front x → Contains whole x
contained_front {X} whole front back e x h = subst (λ (xs : List X). Contains xs x) (sym e) (Contains-append_left front back x h)

pub contained_back : {X : Type 0} (whole front back : List X) → whole ≡ front ++ back → (x : X) → Contains back x → Contains whole x
contained_back {X} whole front back e x h = subst (λ (xs : List X). Contains xs x) (sym e) (Contains-append_right front back x h)

pub contained_cases : {X : Type 0} (whole front back : List X) → whole ≡ front ++ back → (x : X) → Contains whole x → Contains front x ⊎ Contains back x
contained_cases {X} whole front back e x h = Contains-append_cases front back x (subst (λ (xs : List X). Contains xs x) e h)

pub among_more : (xs ys : List Edge) (ps qs : List Point) → ((e : Edge) → Contains xs e → Contains ys e) → ((q : Point) → Contains ps q → Contains qs q) → (wall : Wall) → IsAmong xs ps wall → IsAmong ys qs wall
among_more xs ys ps qs f g (kind.Edge from to) h = f (record { from = from; to = to }) h
among_more xs ys ps qs f g (kind.Vertex v) h = g v h

pub obstacle_more : (xs ys : List Edge) (ps qs : List Point) (a b : Point) (t : ℕ) → ((e : Edge) → Contains xs e → Contains ys e) → ((q : Point) → Contains ps q → Contains qs q) → (wall : Wall) → IsObstacle xs ps a b t wall → IsObstacle ys qs a b t wall
obstacle_more xs ys ps qs a b t f g wall (among, stops) = (among_more xs ys ps qs f g wall among, stops)

pub free_joined : (zs xs ys : List Edge) (rs ps qs : List Point) (a b : Point) (t : ℕ) → ((e : Edge) → Contains zs e → Contains xs e ⊎ Contains ys e) → ((q : Point) → Contains rs q → Contains ps q ⊎ Contains qs q) → IsFree xs ps a b t → IsFree ys qs a b t → IsFree zs rs a b t
free_joined zs xs ys rs ps qs a b t f g first second (kind.Edge from to) h = elim (f (record { from = from; to = to }) h) [ inl k ↦ first (kind.Edge from to) k | inr k ↦ second (kind.Edge from to) k ]
free_joined zs xs ys rs ps qs a b t f g first second (kind.Vertex v) h = elim (g v h) [ inl k ↦ first (kind.Vertex v) k | inr k ↦ second (kind.Vertex v) k ]

none_among : (wall : Wall) → ¬ IsAmong [] [] wall
none_among (kind.Edge from to) (k, within, at) = absurd (omega (arith, within))
none_among (kind.Vertex v) (k, within, at) = absurd (omega (arith, within))

-- ---- nearby

same_ends : (a b : Point) (xs ys : List Point) → ((q : Point) → Contains xs q → Contains ys q) → (q : Point) → Contains (a ∷ b ∷ xs) q → Contains (a ∷ b ∷ ys) q
same_ends a b xs ys within q h = Contains-both a q (b ∷ xs) (b ∷ ys) (λ x k. Contains-both b x xs ys within k) h

pub near_fewer : (a b : Point) (xs ys : List Point) → ((q : Point) → Contains xs q → Contains ys q) → AllNearby (a ∷ b ∷ ys) → AllNearby (a ∷ b ∷ xs)
near_fewer a b xs ys within h = AllNearby-fewer (a ∷ b ∷ xs) (a ∷ b ∷ ys) (same_ends a b xs ys within) h

one_of : (points : List Point) (x q : Point) → Contains points x → Contains (x ∷ []) q → Contains points q
one_of points x q has (zero, within, at) = subst (λ (y : Point). Contains points y) at has
one_of points x q has (suc k, within, at) = absurd (omega (arith, within))

one_of_two : (points : List Point) (x y q : Point) → Contains points x → Contains points y → Contains (x ∷ y ∷ []) q → Contains points q
one_of_two points x y q has_x has_y (zero, within, at) = subst (λ (z : Point). Contains points z) at has_x
one_of_two points x y q has_x has_y (suc k, within, at) = one_of points y q has_y (k, omega arith, at)

pub near_point : (a b x : Point) (points : List Point) → Contains points x → AllNearby (a ∷ b ∷ points) → AllNearby (a ∷ b ∷ x ∷ [])
near_point a b x points has h = near_fewer a b (x ∷ []) points (λ q k. one_of points x q has k) h

pub near_edge : (a b x y : Point) (points : List Point) → Contains points x → Contains points y → AllNearby (a ∷ b ∷ points) → AllNearby (a ∷ b ∷ x ∷ y ∷ [])
near_edge a b x y points has_x has_y h = near_fewer a b (x ∷ y ∷ []) points (λ q k. one_of_two points x y q has_x has_y k) h

-- the ends of a way and one more point
way_and_origin : (a b o : Point) (points : List Point) → Contains points o → (q : Point) → Contains (o ∷ a ∷ b ∷ []) q → Contains (a ∷ b ∷ points) q
way_and_origin a b o points has q (zero, within, at) = subst (λ (x : Point). Contains (a ∷ b ∷ points) x) at (Contains-append_right (a ∷ b ∷ []) points o has)
way_and_origin a b o points has q (suc k, within, at) = Contains-append_left (a ∷ b ∷ []) points q (k, omega arith, at)

pub near_origin : (a b o : Point) (points : List Point) → Contains points o → AllNearby (a ∷ b ∷ points) → AllNearby (o ∷ a ∷ b ∷ [])
near_origin a b o points has h = AllNearby-fewer (o ∷ a ∷ b ∷ []) (a ∷ b ∷ points) (way_and_origin a b o points has) h

-- the first of the points that are read
pub near_first : (a b d : Point) (points read : List Point) → read ≡ points → 1 ≤ length read → AllNearby (a ∷ b ∷ points) → AllNearby (get_or read 0 d ∷ a ∷ b ∷ [])
near_first a b d points read e some h = near_origin a b (get_or read 0 d) points (subst (λ (xs : List Point). Contains xs (get_or read 0 d)) e (Contains-get_or read 0 d (omega (arith, some)))) h

pub item_contained : (list : List Ring) (i : ℕ) (x d : Ring) → i < length list → get_or list i d ≡ x → (q : Point) → Contains x.points q → Contains (ring_points list) q
item_contained [] i x d within at q h = absurd (omega (arith, within))
item_contained (ring ∷ list) zero x d within at q h = Contains-append_left ring.points (ring_points list) q (subst (λ (r : Ring). Contains r.points q) (sym at) h)
item_contained (ring ∷ list) (suc i) x d within at q h = Contains-append_right ring.points (ring_points list) q (item_contained list i x d (omega arith) at q h)

-- ---- loops: what lies ahead decides

pub record IsAhead (xs : List Edge) (ps : List Point) (zs : List Edge) (rs : List Point) (a b : Point) (t : ℕ) : Type 0 where
  pub within : (wall : Wall) → IsAmong xs ps wall → IsAmong zs rs wall
  pub free : IsFree xs ps a b t → IsFree zs rs a b t

pub all_ahead : (zs : List Edge) (rs : List Point) (a b : Point) (t : ℕ) → IsAhead zs rs zs rs a b t
all_ahead zs rs a b t = record { within = λ wall h. h; free = λ h. h }

-- an item ahead that has an obstacle
item_obstacle : (us xs zs : List Edge) (vs ps rs : List Point) (a b : Point) (t : ℕ) → IsAhead (us ++ xs) (vs ++ ps) zs rs a b t → (wall : Wall) → IsObstacle us vs a b t wall → IsObstacle zs rs a b t wall
item_obstacle us xs zs vs ps rs a b t ahead wall (among, stops) = (ahead.within wall (among_more us (us ++ xs) vs (vs ++ ps) (λ e. Contains-append_left us xs e) (λ q. Contains-append_left vs ps q) wall among), stops)

-- and one that has none
item_free : (us xs zs : List Edge) (vs ps rs : List Point) (a b : Point) (t : ℕ) → IsAhead (us ++ xs) (vs ++ ps) zs rs a b t → IsFree us vs a b t → IsAhead xs ps zs rs a b t
item_free us xs zs vs ps rs a b t ahead none = record {
  within = λ wall h. ahead.within wall (among_more xs (us ++ xs) ps (vs ++ ps) (λ e. Contains-append_right us xs e) (λ q. Contains-append_right vs ps q) wall h);
  free = λ h. ahead.free (free_joined (us ++ xs) us xs (vs ++ ps) vs ps a b t (λ e. Contains-append_cases us xs e) (λ q. Contains-append_cases vs ps q) none h);
}

none_ahead : (zs : List Edge) (rs : List Point) (a b : Point) (t : ℕ) → IsAhead [] [] zs rs a b t → IsFree zs rs a b t
none_ahead zs rs a b t ahead = ahead.free (λ wall h. absurd (none_among wall h))

-- along a line
abbrev pub IsLineAhead : Point → List Point → List Edge → List Point → Point → Point → ℕ → Type 0
IsLineAhead from ahead zs rs a b t = IsAhead (edges_from from ahead) ahead zs rs a b t

line_at : (from : Point) (rest : List Point) (i : ℕ) (d : Point) (zs : List Edge) (rs : List Point) (a b : Point) (t : ℕ) → i < length rest → IsLineAhead from (drop i rest) zs rs a b t → IsLineAhead from (get_or rest i d ∷ drop (i + 1) rest) zs rs a b t
line_at from rest i d zs rs a b t within h = subst (λ (xs : List Point). IsLineAhead from xs zs rs a b t) (drop_at rest i (get_or rest i d) d within refl) h

pub line_obstacle : (from : Point) (rest : List Point) (i : ℕ) (d : Point) (zs : List Edge) (rs : List Point) (a b : Point) (t : ℕ) → i < length rest → IsLineAhead from (drop i rest) zs rs a b t → (wall : Wall) → IsObstacle (edges_from from (get_or rest i d ∷ [])) (get_or rest i d ∷ []) a b t wall → IsObstacle zs rs a b t wall
line_obstacle from rest i d zs rs a b t within h wall found =
    let to = get_or rest i d in
    item_obstacle (edges_from from (to ∷ [])) (edges_from to (drop (i + 1) rest)) zs (to ∷ []) (drop (i + 1) rest) rs a b t (line_at from rest i d zs rs a b t within h) wall found

pub line_free : (from : Point) (rest : List Point) (i : ℕ) (d : Point) (zs : List Edge) (rs : List Point) (a b : Point) (t : ℕ) → i < length rest → IsLineAhead from (drop i rest) zs rs a b t → IsFree (edges_from from (get_or rest i d ∷ [])) (get_or rest i d ∷ []) a b t → IsLineAhead (get_or rest i d) (drop (i + 1) rest) zs rs a b t
line_free from rest i d zs rs a b t within h none =
    let to = get_or rest i d in
    item_free (edges_from from (to ∷ [])) (edges_from to (drop (i + 1) rest)) zs (to ∷ []) (drop (i + 1) rest) rs a b t (line_at from rest i d zs rs a b t within h) none

-- the same of a point that is told to be the next
pub step_obstacle : (from to : Point) (rest : List Point) (i : ℕ) (d : Point) (zs : List Edge) (rs : List Point) (a b : Point) (t : ℕ) → i < length rest → to ≡ get_or rest i d → IsLineAhead from (drop i rest) zs rs a b t → (wall : Wall) → IsObstacle (edges_from from (to ∷ [])) (to ∷ []) a b t wall → IsObstacle zs rs a b t wall
step_obstacle from to rest i d zs rs a b t within e h wall found = line_obstacle from rest i d zs rs a b t within h wall (subst (λ (p : Point). IsObstacle (edges_from from (p ∷ [])) (p ∷ []) a b t wall) e found)

pub step_free : (from to : Point) (rest : List Point) (i : ℕ) (d : Point) (zs : List Edge) (rs : List Point) (a b : Point) (t : ℕ) → i < length rest → to ≡ get_or rest i d → IsLineAhead from (drop i rest) zs rs a b t → IsFree (edges_from from (to ∷ [])) (to ∷ []) a b t → IsLineAhead to (drop (i + 1) rest) zs rs a b t
step_free from to rest i d zs rs a b t within e h none =
    subst (λ (p : Point). IsLineAhead p (drop (i + 1) rest) zs rs a b t) (sym e)
    (line_free from rest i d zs rs a b t within h (subst (λ (p : Point). IsFree (edges_from from (p ∷ [])) (p ∷ []) a b t) e none))

pub line_done : (from : Point) (rest : List Point) (i : ℕ) (zs : List Edge) (rs : List Point) (a b : Point) (t : ℕ) → length rest ≤ i → IsLineAhead from (drop i rest) zs rs a b t → IsFree zs rs a b t
line_done from rest i zs rs a b t past h = none_ahead zs rs a b t (subst (λ (xs : List Point). IsLineAhead from xs zs rs a b t) (drop_all i rest past) h)

-- along rings
abbrev pub AreRingsAhead : List Ring → List Edge → List Point → Point → Point → ℕ → Type 0
AreRingsAhead ahead zs rs a b t = IsAhead (ring_edges ahead) (ring_points ahead) zs rs a b t

rings_at : (list : List Ring) (i : ℕ) (x d : Ring) (zs : List Edge) (rs : List Point) (a b : Point) (t : ℕ) → i < length list → get_or list i d ≡ x → AreRingsAhead (drop i list) zs rs a b t → AreRingsAhead (x ∷ drop (i + 1) list) zs rs a b t
rings_at list i x d zs rs a b t within at h = subst (λ (xs : List Ring). AreRingsAhead xs zs rs a b t) (drop_at list i x d within at) h

pub ring_obstacle : (list : List Ring) (i : ℕ) (x d : Ring) (zs : List Edge) (rs : List Point) (a b : Point) (t : ℕ) → i < length list → get_or list i d ≡ x → AreRingsAhead (drop i list) zs rs a b t → (wall : Wall) → IsObstacle (edges x.points) x.points a b t wall → IsObstacle zs rs a b t wall
ring_obstacle list i x d zs rs a b t within at h wall found = item_obstacle (edges x.points) (ring_edges (drop (i + 1) list)) zs x.points (ring_points (drop (i + 1) list)) rs a b t (rings_at list i x d zs rs a b t within at h) wall found

pub ring_free : (list : List Ring) (i : ℕ) (x d : Ring) (zs : List Edge) (rs : List Point) (a b : Point) (t : ℕ) → i < length list → get_or list i d ≡ x → AreRingsAhead (drop i list) zs rs a b t → IsFree (edges x.points) x.points a b t → AreRingsAhead (drop (i + 1) list) zs rs a b t
ring_free list i x d zs rs a b t within at h none = item_free (edges x.points) (ring_edges (drop (i + 1) list)) zs x.points (ring_points (drop (i + 1) list)) rs a b t (rings_at list i x d zs rs a b t within at h) none

pub rings_done : (list : List Ring) (i : ℕ) (zs : List Edge) (rs : List Point) (a b : Point) (t : ℕ) → length list ≤ i → AreRingsAhead (drop i list) zs rs a b t → IsFree zs rs a b t
rings_done list i zs rs a b t past h = none_ahead zs rs a b t (subst (λ (xs : List Ring). AreRingsAhead xs zs rs a b t) (drop_all i list past) h)

-- ---- octagons apart

above_band : (one other : Band) (c o : ℤ) → one.greatest <ℤ other.least → IsInBand other (c -ℤ o) → c ≤ℤ (one.greatest +ℤ o) → ⊥
above_band one other c o h k l = omega (arith, ints)

below_band : (one other : Band) (c o : ℤ) → other.greatest <ℤ one.least → IsInBand other (c -ℤ o) → (one.least +ℤ o) ≤ℤ c → ⊥
below_band one other c o h k l = omega (arith, ints)

vertex_apart : (one other : Octagon) (origin a b v : Point) → IsRound one origin (a ∷ b ∷ []) → ((way : Direction) → IsInBand (band way other) (offset way origin v)) → (way : Direction) × AreApart (band way one) (band way other) → ¬ OnOpenSegment a b v
vertex_apart one other origin a b v round here (way, apart) on =
    let P : Point → Type 0 = λ q. IsInBand (band way one) (offset way origin q) in
    let range = band way one in
    let o = coordinate way origin in
    let at_a = All-head P a (b ∷ []) (round way) in
    let at_b = All-head P b [] (All-tail P a (b ∷ []) (round way)) in
    elim apart [
      | inl h ↦ above_band range (band way other) (coordinate way v) o h (here way) (segment_greatest way (range.greatest +ℤ o) a b v on (greatest_moved range (coordinate way a) o at_a) (greatest_moved range (coordinate way b) o at_b))
      | inr h ↦ below_band range (band way other) (coordinate way v) o h (here way) (segment_least way (range.least +ℤ o) a b v on (least_moved range (coordinate way a) o at_a) (least_moved range (coordinate way b) o at_b))
    ]

-- the ends of these edges are among these points
abbrev pub HaveEndsAmong : List Edge → List Point → Type 0
HaveEndsAmong list points = (e : Edge) → Contains list e → Contains points e.from × Contains points e.to

round_edge : (octagon : Octagon) (origin x y : Point) (points : List Point) → IsRound octagon origin points → Contains points x → Contains points y → IsRound octagon origin (x ∷ y ∷ [])
round_edge octagon origin x y points round has_x has_y way =
    let P : Point → Type 0 = λ q. IsInBand (band way octagon) (offset way origin q) in
    All-cons P x (y ∷ []) (All-contains P points x (round way) has_x) (All-cons P y [] (All-contains P points y (round way) has_y) (All-nil P))

pub free_apart : (one other : Octagon) (origin a b : Point) (list : List Edge) (points : List Point) (t : ℕ) → IsRound one origin (a ∷ b ∷ []) → IsRound other origin points → HaveEndsAmong list points → (way : Direction) × AreApart (band way one) (band way other) → IsFree list points a b t
free_apart one other origin a b list points t round round_other ends apart (kind.Edge from to) h stops =
    let has = ends (record { from = from; to = to }) h in
    octagons_apart one other origin a from (b ∷ []) (to ∷ []) round (round_edge other origin from to points round_other has.0 has.1) apart
    (each_other (edges_from a (b ∷ [])) (edges_from from (to ∷ [])) (record { from = a; to = b }) (record { from = from; to = to }) (0, omega arith, refl) (0, omega arith, refl) stops.0)
free_apart one other origin a b list points t round round_other ends apart (kind.Vertex v) h stops =
    vertex_apart one other origin a b v round (λ way. All-contains (λ q. IsInBand (band way other) (offset way origin q)) points v (round_other way) h) apart stops.0

pub line_ends : (start : Point) (rest : List Point) → HaveEndsAmong (edges_from start rest) (start ∷ rest)
line_ends start rest e h = ends_of_edge (λ q. Contains (start ∷ rest) q) start rest e (λ k d within. Contains-get_or (start ∷ rest) k d within) h

ring_ends : (points : List Point) → HaveEndsAmong (edges points) points
ring_ends [] e (k, within, at) = absurd (omega (arith, within))
ring_ends (start ∷ rest) e h = line_ends start rest e h

pub rings_ends : (list : List Ring) → HaveEndsAmong (ring_edges list) (ring_points list)
rings_ends [] e (k, within, at) = absurd (omega (arith, within))
rings_ends (ring ∷ list) e h = elim (Contains-append_cases (edges ring.points) (ring_edges list) e h) [
  | inl k ↦ (let has = ring_ends ring.points e k in (Contains-append_left ring.points (ring_points list) e.from has.0, Contains-append_left ring.points (ring_points list) e.to has.1))
  | inr k ↦ (let has = rings_ends list e k in (Contains-append_right ring.points (ring_points list) e.from has.0, Contains-append_right ring.points (ring_points list) e.to has.1))
]
