-- Whether two places see each other, from the walls and the middle.
use Rattle.std.proofs.Common.{◌≡◌, ℕ, zero, suc, ◌*◌, ℤ, pos, ◌+ℤ◌, ◌*ℤ◌, List, [], ◌∷◌, Bool, true, false, Contains, IsTrue, ◌↔◌, ◌⊎◌, inl, inr, refl, sym, subst, ap, ◌∙◌, arith}
use Rattle.std.proofs.lemmas.Bool.{both_ways}
use Rattle.std.proofs.lemmas.Int.{ints}
use Rattle.std.proofs.lemmas.List.Elements.{Contains-append_left, Contains-append_right, Contains-append_cases}
use Rattle.venue_types.proofs.Items.{Contains-cons_cases}
use Rattle.venue_types.specs.declared.point.Point.{Point}
use Rattle.venue_types.specs.declared.point.Ring.{Ring}
use Rattle.venue_types.specs.declared.point.Shape.{Shape}
use Rattle.venue_types.specs.declared.point.Spot.{Spot}
use Rattle.plane_exact.specs.Plane.{IsWithin, IsNearby}
use Rattle.plane_exact.specs.Figure.{Edge, AllNearby, vertices, rings, edges, edges_from, ring_edges, ring_points, IsInside, IsNear}
use Rattle.plane_exact.specs.Scaled.{times, scaled}
use Rattle.plane_exact.specs.Sight.{Sight, at_spot, middle_of}
use Rattle.plane_exact.specs.Seeing.{does_see}
use Rattle.plane_exact.specs.Walls.{IsWallOf, Stops, wall_points}
use Rattle.plane_exact.specs.declared.walls.Wall.{Wall}
use Rattle.plane_exact.specs.declared.walls.Wall.TheVariants as wall
use Rattle.plane_exact.proofs.ScaleLaw.{same_test}
use Rattle.plane_exact.proofs.SeesLaw.{sees_walls}
use Rattle.plane_exact.proofs.SightLaw.{sight_decides}
use Rattle.plane_exact.proofs.LookLemmas.{IsNearby-itself}
use Rattle.plane_exact.proofs.NearbyLemmas.{AllNearby-fewer, Contains-later, Contains-both}

-- ---- the points of a wall are points of the shape

ends_of : (a : Point) (rest : List Point) (edge : Edge) → Contains (edges_from a rest) edge → Contains (a ∷ rest) edge.from × Contains (a ∷ rest) edge.to
ends_of a [] edge (k, low, at) = absurd (omega arith)
ends_of a (b ∷ rest) edge (zero, low, at) =
    ((0, omega arith, ap (λ (it : Edge). it.from) at), (1, omega arith, ap (λ (it : Edge). it.to) at))
ends_of a (b ∷ rest) edge (suc k, low, at) =
    let behind = ends_of b rest edge (k, omega arith, at) in
    (Contains-later edge.from a (b ∷ rest) behind.0, Contains-later edge.to a (b ∷ rest) behind.1)

ends_in_ring : (points : List Point) (edge : Edge) → Contains (edges points) edge → Contains points edge.from × Contains points edge.to
ends_in_ring [] edge (k, low, at) = absurd (omega arith)
ends_in_ring (a ∷ rest) edge has = ends_of a rest edge has

ends_in_rings : (list : List Ring) (edge : Edge) → Contains (ring_edges list) edge → Contains (ring_points list) edge.from × Contains (ring_points list) edge.to
ends_in_rings [] edge (k, low, at) = absurd (omega arith)
ends_in_rings (ring ∷ rest) edge has = elim (Contains-append_cases (edges ring.points) (ring_edges rest) edge has) [
  | inl here ↦
      (let ends = ends_in_ring ring.points edge here in
      (Contains-append_left ring.points (ring_points rest) edge.from ends.0, Contains-append_left ring.points (ring_points rest) edge.to ends.1))
  | inr behind ↦
      (let ends = ends_in_rings rest edge behind in
      (Contains-append_right ring.points (ring_points rest) edge.from ends.0, Contains-append_right ring.points (ring_points rest) edge.to ends.1))
]

among : (p q x : Point) (points : List Point) → Contains points p → Contains points q → Contains (p ∷ q ∷ []) x → Contains points x
among p q x points has_p has_q (zero, low, at) = subst (λ (y : Point). Contains points y) at has_p
among p q x points has_p has_q (suc zero, low, at) = subst (λ (y : Point). Contains points y) at has_q
among p q x points has_p has_q (suc (suc k), low, at) = absurd (omega arith)

only : (p x : Point) (points : List Point) → Contains points p → Contains (p ∷ []) x → Contains points x
only p x points has (zero, low, at) = subst (λ (y : Point). Contains points y) at has
only p x points has (suc k, low, at) = absurd (omega arith)

wall_within : (shape : Shape) (it : Wall) → IsWallOf shape it → (x : Point) → Contains (wall_points it) x → Contains (vertices shape) x
wall_within shape (wall.Edge from to) is x has =
    let ends = ends_in_rings (rings shape) (record { from = from; to = to }) is in
    among from to x (vertices shape) ends.0 ends.1 has
wall_within shape (wall.Vertex v) is x has = only v x (vertices shape) is has

pub wall_near : (shape : Shape) (it : Wall) (a b : Point) → IsWallOf shape it → AllNearby (a ∷ b ∷ vertices shape) → AllNearby (a ∷ b ∷ wall_points it)
wall_near shape it a b is near =
    AllNearby-fewer (a ∷ b ∷ wall_points it) (a ∷ b ∷ vertices shape)
    (λ x. Contains-both a x (b ∷ wall_points it) (b ∷ vertices shape) (λ y. Contains-both b y (wall_points it) (vertices shape) (wall_within shape it is)))
    near

-- ---- the middle is near what both ends are near

between : (bound : ℕ) (a b z : ℤ) → IsWithin bound (pos 2 *ℤ a) z → IsWithin bound (pos 2 *ℤ b) z → IsWithin bound (a +ℤ b) z
between bound a b z h k = record { above = omega (arith, ints); below = omega (arith, ints) }

middle_near : (a b : Spot) (p : Point) → IsNearby (times 2 (at_spot a)) p → IsNearby (times 2 (at_spot b)) p → IsNearby (middle_of a b) p
middle_near a b p h k = record { x = between 800000000 a.x b.x p.x h.x k.x; y = between 800000000 a.y b.y p.y h.y k.y }

turned : (p q : Point) → IsNearby p q → IsNearby q p
turned p q h = record { x = record { above = h.x.below; below = h.x.above }; y = record { above = h.y.below; below = h.y.above } }

pub with_middle : (a b : Spot) (points : List Point) → AllNearby (times 2 (at_spot a) ∷ times 2 (at_spot b) ∷ points) → AllNearby (middle_of a b ∷ points)
with_middle a b points h =
    let from = times 2 (at_spot a) in
    let to = times 2 (at_spot b) in
    let m = middle_of a b in
    let later : (q : Point) → Contains points q → Contains (from ∷ to ∷ points) q = λ q k. Contains-later q from (to ∷ points) (Contains-later q to points k) in
    let near : (q : Point) → Contains points q → IsNearby m q = λ q k. middle_near a b q (h.near from q (0, omega arith, refl) (later q k)) (h.near to q (1, omega arith, refl) (later q k)) in
    record {
      near =
          λ p q i j. elim (Contains-cons_cases m points p i) [
            | inl e ↦ elim (Contains-cons_cases m points q j) [
              | inl f ↦ subst (λ (x : Point). IsNearby p x) (sym e ∙ f) (IsNearby-itself p)
              | inr l ↦ subst (λ (x : Point). IsNearby x q) e (near q l)
            ]
            | inr k ↦ elim (Contains-cons_cases m points q j) [ inl f ↦ subst (λ (x : Point). IsNearby p x) f (turned m p (near p k)) | inr l ↦ h.near p q (later p k) (later q l) ]
          ];
    }

-- ---- what was asked tells who sees whom

-- no wall of the shape stops the way
abbrev IsOpen : Shape → Point → Point → ℕ → Type 0
IsOpen shape p q t = (it : Wall) → IsWallOf shape it → ¬ Stops it p q t

-- the point is in the shape or near it
abbrev IsHeld : Shape → Point → ℕ → Type 0
IsHeld shape p t = IsInside p shape ⊎ IsNear p shape t

told_free : (a b : Spot) (shape : Shape) (t : ℕ) (free held : Bool) → free ≡ true → (IsTrue free ↔ IsOpen (scaled 4 shape) (times 2 (at_spot a)) (times 2 (at_spot b)) (4 * t)) → (IsTrue held ↔ IsHeld (scaled 4 shape) (middle_of a b) (4 * t)) → held ≡ does_see a b shape t
told_free a b shape t free held e f g =
    let walls = sees_walls a b shape t in
    same_test held (does_see a b shape t) (IsHeld (scaled 4 shape) (middle_of a b) (4 * t)) (Sight a b shape t) g (sight_decides a b shape t)
    (λ h. walls.1 (f.0 e, h), λ s. (walls.0 s).1)

told_stopped : (a b : Spot) (shape : Shape) (t : ℕ) (free : Bool) → free ≡ false → (IsTrue free ↔ IsOpen (scaled 4 shape) (times 2 (at_spot a)) (times 2 (at_spot b)) (4 * t)) → free ≡ does_see a b shape t
told_stopped a b shape t free e f =
    let walls = sees_walls a b shape t in
    same_test free (does_see a b shape t) (IsOpen (scaled 4 shape) (times 2 (at_spot a)) (times 2 (at_spot b)) (4 * t)) (Sight a b shape t) f (sight_decides a b shape t)
    (λ h. absurd (both_ways free e (f.1 h)), λ s. (walls.0 s).0)

open_at : (bands more : Shape) (p q u v : Point) (t : ℕ) (free : Bool) → bands ≡ more → p ≡ u → q ≡ v → (IsTrue free ↔ IsOpen bands p q t) → (IsTrue free ↔ IsOpen more u v t)
open_at bands more p q u v t free d e f h =
    subst (λ (x : Shape). IsTrue free ↔ IsOpen x u v t) d
    (subst (λ (x : Point). IsTrue free ↔ IsOpen bands x v t) e
    (subst (λ (x : Point). IsTrue free ↔ IsOpen bands p x t) f h))

held_at : (bands more : Shape) (p u : Point) (t : ℕ) (held : Bool) → bands ≡ more → p ≡ u → (IsTrue held ↔ IsHeld bands p t) → (IsTrue held ↔ IsHeld more u t)
held_at bands more p u t held d e h =
    subst (λ (x : Shape). IsTrue held ↔ IsHeld x u t) d
    (subst (λ (x : Point). IsTrue held ↔ IsHeld bands x t) e h)

pub told_by_middle : (a b : Spot) (bands shape : Shape) (t : ℕ) (p q m : Point) (free held : Bool) → bands ≡ scaled 4 shape → p ≡ times 2 (at_spot a) → q ≡ times 2 (at_spot b) → m ≡ middle_of a b → free ≡ true → (IsTrue free ↔ IsOpen bands p q (4 * t)) → (IsTrue held ↔ IsHeld bands m (4 * t)) → held ≡ does_see a b shape t
told_by_middle a b bands shape t p q m free held d e f g clear h k =
    told_free a b shape t free held clear
    (open_at bands (scaled 4 shape) p q (times 2 (at_spot a)) (times 2 (at_spot b)) (4 * t) free d e f h)
    (held_at bands (scaled 4 shape) m (middle_of a b) (4 * t) held d g k)

pub told_by_walls : (a b : Spot) (bands shape : Shape) (t : ℕ) (p q : Point) (free : Bool) → bands ≡ scaled 4 shape → p ≡ times 2 (at_spot a) → q ≡ times 2 (at_spot b) → free ≡ false → (IsTrue free ↔ IsOpen bands p q (4 * t)) → free ≡ does_see a b shape t
told_by_walls a b bands shape t p q free d e f shut h =
    told_stopped a b shape t free shut (open_at bands (scaled 4 shape) p q (times 2 (at_spot a)) (times 2 (at_spot b)) (4 * t) free d e f h)
