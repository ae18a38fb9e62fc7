-- What the tests of `Seeing` decide.
use Rattle.std.proofs.Common.{◌≡◌, ℕ, ◌*◌, ℤ, pos, ◌*ℤ◌, ◌≤ℤ◌, ◌<ℤ◌, Bool, true, false, not, ◌||◌, if◌then◌else◌, IsTrue, List, get_or, refl}
use Rattle.std.specs.Bool.{Decides}
use Rattle.std.specs.List.{list_any, All, Any, Contains}
use Rattle.std.proofs.lemmas.Int.{by_lt_z}
use Rattle.std.proofs.lemmas.Bool.{false≢true}
use Rattle.std.proofs.lemmas.Bool.Decides.{Decides-and, Decides-or, Decides-not, Decides-int_eq}
use Rattle.std.proofs.lemmas.List.Elements.{All-contains, Contains-get_or}
use Rattle.std.proofs.lemmas.List.Folds.{Any-from_list_any, list_any-from_Any}
use Rattle.venue_types.specs.declared.point.Point.{Point}
use Rattle.plane_exact.specs.Plane.{side, along, squared_distance, square}
use Rattle.plane_exact.specs.Segment.{Crosses, HaveOppositeSigns, IsNearEdge}
use Rattle.plane_exact.specs.Figure.{Edge}
use Rattle.plane_exact.specs.Sight.{OnOpenSegment, HasEndNearEdge, HasEndNear}
use Rattle.plane_exact.specs.Seeing.{have_opposite_signs, does_cross, is_near_point, is_near_edge, is_on_open_segment, edge_stops, vertex_stops}
use Rattle.plane_exact.proofs.SegmentLemmas.{le_decides, lt_decides, iff_along, near_before, near_beyond, near_beside}

-- ---- tests

if_decides : {A P : Type 0} (test x y : Bool) → Decides test A → (A → Decides x P) → (¬ A → Decides y P) → Decides (if test then x else y) P
if_decides true x y d f g = f (d.0 refl)
if_decides false x y d f g = g (λ h. false≢true (d.1 h))

-- what a test decides holds where it can't fail
pub stable : {P : Type 0} (test : Bool) → Decides test P → ¬ ¬ P → P
stable true d n = d.0 refl
stable false d n = absurd (n (λ h. false≢true (d.1 h)))

pub not_true : (test : Bool) → ¬ IsTrue test → test ≡ false
not_true true n = absurd (n refl)
not_true false n = refl

lt_from : (x y : ℤ) → ¬ (x ≤ℤ y) → y <ℤ x
lt_from x y n = by_lt_z y x (λ h. h) (λ h. absurd (n h))

-- ---- segments

opposite_decides : (m n : ℤ) → Decides (have_opposite_signs m n) (HaveOppositeSigns m n)
opposite_decides m n = Decides-or _ _ (Decides-and _ _ (lt_decides m (pos 0)) (lt_decides (pos 0) n)) (Decides-and _ _ (lt_decides (pos 0) m) (lt_decides n (pos 0)))

pub crossing_decides : (a b c d : Point) → Decides (does_cross a b c d) (Crosses a b c d)
unfolding does_cross
crossing_decides a b c d =
    let both = Decides-and _ _ (opposite_decides (side a b c) (side a b d)) (opposite_decides (side c d a) (side c d b)) in
    (λ h. let s = both.0 h in record { across_first = s.0; across_second = s.1 }, λ s. both.1 (s.across_first, s.across_second))

pub near_point_decides : (a v : Point) (t : ℕ) → Decides (is_near_point a v t) (squared_distance a v ≤ℤ pos (t * t))
unfolding is_near_point
near_point_decides a v t = le_decides (squared_distance a v) (pos (t * t))

pub near_edge_decides : (p a b : Point) (t : ℕ) → Decides (is_near_edge p a b t) (IsNearEdge p a b t)
unfolding is_near_edge
near_edge_decides p a b t =
    if_decides _ _ _ (le_decides (along a b p) (pos 0))
    (λ back. iff_along (near_point_decides a p t) (near_before p a b t back))
    (λ on. let after = lt_from _ _ on in
    if_decides _ _ _ (le_decides (squared_distance a b) (along a b p))
    (λ past. iff_along (near_point_decides b p t) (near_beyond p a b t after past))
    (λ within. iff_along (le_decides (square (side a b p)) (pos (t * t) *ℤ squared_distance a b)) (near_beside p a b t after (lt_from _ _ within))))

pub open_segment_decides : (a b v : Point) → Decides (is_on_open_segment a b v) (OnOpenSegment a b v)
unfolding is_on_open_segment
open_segment_decides a b v =
    let ends = Decides-and _ _ (lt_decides (pos 0) (along a b v)) (lt_decides (along a b v) (squared_distance a b)) in
    let all = Decides-and _ _ (Decides-int_eq (side a b v) (pos 0)) ends in
    (λ h. let s = all.0 h in record { on_line = s.0; beyond_start = s.1.0; before_end = s.1.1 }, λ s. all.1 (s.on_line, (s.beyond_start, s.before_end)))

-- ---- walls

pub end_near_edge_decides : (a b : Point) (t : ℕ) (edge : Edge) → Decides (is_near_edge a edge.from edge.to t || is_near_edge b edge.from edge.to t) (HasEndNearEdge a b t edge)
end_near_edge_decides a b t edge = Decides-or _ _ (near_edge_decides a edge.from edge.to t) (near_edge_decides b edge.from edge.to t)

pub end_near_decides : (a b : Point) (t : ℕ) (v : Point) → Decides (is_near_point a v t || is_near_point b v t) (HasEndNear a b t v)
end_near_decides a b t v = Decides-or _ _ (near_point_decides a v t) (near_point_decides b v t)

pub edge_stops_decides : (a b : Point) (t : ℕ) (edge : Edge) → Decides (edge_stops a b t edge) (Crosses a b edge.from edge.to × (¬ HasEndNearEdge a b t edge))
edge_stops_decides a b t edge = Decides-and _ _ (crossing_decides a b edge.from edge.to) (Decides-not _ (end_near_edge_decides a b t edge))

pub vertex_stops_decides : (a b : Point) (t : ℕ) (v : Point) → Decides (vertex_stops a b t v) (OnOpenSegment a b v × (¬ HasEndNear a b t v))
vertex_stops_decides a b t v = Decides-and _ _ (open_segment_decides a b v) (Decides-not _ (end_near_decides a b t v))

-- ---- lists

pub any_decides : {X : Type 0} (test : X → Bool) (P : X → Type 0) → ((x : X) → Decides (test x) (P x)) → (xs : List X) → Decides (list_any test xs) (Any P xs)
any_decides test P d xs = (
  λ h. let a = Any-from_list_any test xs h in (a.0, a.1, a.2, a.3, (d a.1).0 a.4),
  λ a. list_any-from_Any test xs (a.0, a.1, a.2, a.3, (d a.1).1 a.4),
)

-- no item passes
pub none_decides : {X : Type 0} (test : X → Bool) (xs : List X) → Decides (not (list_any test xs)) ((x : X) → Contains xs x → ¬ IsTrue (test x))
none_decides test xs =
    let any = Decides-not _ (any_decides test (λ x. IsTrue (test x)) (λ x. (λ h. h, λ h. h)) xs) in
    (λ h x has passed. any.0 h (has.0, x, has.1, has.2, passed), λ none. any.1 (λ a. none a.1 (a.0, a.2, a.3) a.4))

-- where a test decides P and not Q, and another Q, no item passes the first exactly where Q follows from P at each
pub follows_decides : {X : Type 0} (test pardon : X → Bool) (P Q : X → Type 0) → ((x : X) → Decides (test x) (P x × (¬ Q x))) → ((x : X) → Decides (pardon x) (Q x)) → (xs : List X) → Decides (not (list_any test xs)) (All (λ x. P x → Q x) xs)
follows_decides test pardon P Q d e xs =
    let none = none_decides test xs in (
      λ h k x within p. let y = get_or xs k x in stable (pardon y) (e y) (λ n. none.0 h y (Contains-get_or xs k x within) ((d y).1 (p, n))),
      λ all. none.1 (λ x has passed. let s = (d x).0 passed in s.1 (All-contains (λ y. P y → Q y) xs x all has s.0)),
    )
