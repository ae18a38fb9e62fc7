-- Figures of which all numbers are taken k times: their edges and points, and what is near them or inside.
use Rattle.std.proofs.Common.{◌≡◌, ℕ, ◌+◌, ◌*◌, ◌<◌, ◌%◌, Bool, true, false, ◌&&◌, ◌||◌, ℤ, pos, ◌*ℤ◌, List, [], ◌∷◌, ◌++◌, cond, map, flat_map, Any, IsTrue, ◌↔◌, inl, inr, refl, ap, ap₂, sym, ◌∙◌, subst, arith}
use Rattle.std.proofs.lemmas.List.{map-append}
use lib.Signed.{lt_z, le_z}
use Rattle.venue_types.specs.declared.point.Point.{Point}
use Rattle.venue_types.specs.declared.point.Ring.{Ring}
use Rattle.venue_types.specs.declared.point.Shape.{Shape}
use Rattle.plane_exact.specs.Segment.{IsNearEdge}
use Rattle.plane_exact.specs.Figure.{Edge, edges, edges_from, rings, rings_of, ring_edges, ring_points, all_edges, vertices, crossings, meets_ray, IsInside, IsNear, IsNearSome}
use Rattle.plane_exact.specs.Scaled.{times, scaled, scaled_edge, scaled_ring, scaled_part}
use Rattle.plane_exact.specs.Sight.{HasEndNear}
use Rattle.plane_exact.proofs.ListLemmas.{any_here, any_later, any_of_cons}
use Rattle.plane_exact.proofs.SegmentLemmas.{le_decides, lt_decides}
use Rattle.plane_exact.proofs.ParityLemmas.{crossings-cons}
use Rattle.plane_exact.proofs.ScaleLemmas.{IsTimes, IsTimes-zero, times_le, times_lt, times_side, times_near_point, times_near_edge}

-- ---- lists

-- what is taken of each item and then changed is what is taken of each changed item
taken_changed : {X Y : Type 0} (h : X → X) (m : Y → Y) (f : X → List Y) → ((x : X) → f (h x) ≡ map m (f x)) → (xs : List X) → flat_map f (map h xs) ≡ map m (flat_map f xs)
taken_changed h m f e [] = refl
taken_changed h m f e (x ∷ xs) = ap₂ (λ ys zs. ys ++ zs) (e x) (taken_changed h m f e xs) ∙ sym (map-append m (f x) (flat_map f xs))

edges_from-scaled : (k : ℕ) (a : Point) (rest : List Point) → edges_from (times k a) (map (times k) rest) ≡ map (scaled_edge k) (edges_from a rest)
edges_from-scaled k a [] = refl
edges_from-scaled k a (b ∷ rest) = ap (λ list. scaled_edge k (record { from = a; to = b }) ∷ list) (edges_from-scaled k b rest)

edges-scaled : (k : ℕ) (points : List Point) → edges (map (times k) points) ≡ map (scaled_edge k) (edges points)
edges-scaled k [] = refl
edges-scaled k (a ∷ rest) = edges_from-scaled k a rest

rings-scaled : (k : ℕ) (shape : Shape) → rings (scaled k shape) ≡ map (scaled_ring k) (rings shape)
rings-scaled k shape = taken_changed (scaled_part k) (scaled_ring k) rings_of (λ part. refl) shape.parts

pub edges_of_scaled : (k : ℕ) (shape : Shape) → all_edges (scaled k shape) ≡ map (scaled_edge k) (all_edges shape)
edges_of_scaled k shape = ap ring_edges (rings-scaled k shape) ∙ taken_changed (scaled_ring k) (scaled_edge k) (λ (ring : Ring). edges ring.points) (λ ring. edges-scaled k ring.points) (rings shape)

pub points_of_scaled : (k : ℕ) (shape : Shape) → vertices (scaled k shape) ≡ map (times k) (vertices shape)
points_of_scaled k shape = ap ring_points (rings-scaled k shape) ∙ taken_changed (scaled_ring k) (times k) (λ (ring : Ring). ring.points) (λ ring. refl) (rings shape)

-- ---- what is near

pub times_near_end : (k t : ℕ) (a b v : Point) → 0 < k → HasEndNear (times k a) (times k b) (k * t) (times k v) ↔ HasEndNear a b t v
times_near_end k t a b v h =
    let start = times_near_point k t a v h in
    let end = times_near_point k t b v h in
    (λ s. elim s [ inl i ↦ inl (start.0 i) | inr i ↦ inr (end.0 i) ], λ s. elim s [ inl i ↦ inl (start.1 i) | inr i ↦ inr (end.1 i) ])

any_changed : {X Y : Type 0} (P : Y → Type 0) (Q : X → Type 0) (f : X → Y) → ((x : X) → P (f x) ↔ Q x) → (xs : List X) → Any P (map f xs) ↔ Any Q xs
any_changed P Q f same [] = (λ (k, y, within, at, h). absurd (omega (arith, within)), λ (k, y, within, at, h). absurd (omega (arith, within)))
any_changed P Q f same (x ∷ xs) =
    let rest = any_changed P Q f same xs in (
      λ a. elim (any_of_cons P (f x) (map f xs) a) [ inl h ↦ any_here Q x xs ((same x).0 h) | inr h ↦ any_later Q x xs (rest.0 h) ],
      λ a. elim (any_of_cons Q x xs a) [ inl h ↦ any_here P (f x) (map f xs) ((same x).1 h) | inr h ↦ any_later P (f x) (map f xs) (rest.1 h) ],
    )

pub times_near : (k t : ℕ) (p : Point) (shape : Shape) → 0 < k → IsNear (times k p) (scaled k shape) (k * t) ↔ IsNear p shape t
unfolding IsNear
times_near k t p shape h =
    let P : List Edge → Type 0 = λ list. IsNearSome (times k p) (k * t) list ↔ IsNearSome p t (all_edges shape) in
    subst P (sym (edges_of_scaled k shape)) (any_changed (λ (edge : Edge). IsNearEdge (times k p) edge.from edge.to (k * t)) (λ (edge : Edge). IsNearEdge p edge.from edge.to t) (scaled_edge k) (λ edge. times_near_edge k t p edge.from edge.to h) (all_edges shape))

-- ---- what is inside

-- two tests of one fact answer the same
pub same_test : (a b : Bool) (P Q : Type 0) → IsTrue a ↔ P → IsTrue b ↔ Q → P ↔ Q → a ≡ b
same_test true true P Q f g e = refl
same_test true false P Q f g e = sym (g.1 (e.0 (f.0 refl)))
same_test false true P Q f g e = f.1 (e.1 (g.0 refl))
same_test false false P Q f g e = refl

times_le_test : (n : ℕ) (x y u v : ℤ) → IsTimes n x u → IsTimes n y v → le_z u v ≡ le_z x y
times_le_test n x y u v f g = same_test _ _ _ _ (le_decides u v) (le_decides x y) (times_le n x y u v f g)

times_lt_test : (n : ℕ) (x y u v : ℤ) → IsTimes n x u → IsTimes n y v → lt_z u v ≡ lt_z x y
times_lt_test n x y u v f g = same_test _ _ _ _ (lt_decides u v) (lt_decides x y) (times_lt n x y u v f g)

pub times_meets : (k : ℕ) (p : Point) (edge : Edge) → 0 < k → meets_ray (times k p) (scaled_edge k edge) ≡ meets_ray p edge
unfolding meets_ray
times_meets k p edge h =
    let at : (z : ℤ) → IsTimes k z (pos k *ℤ z) = λ z. record { some = h; is = refl } in
    let s = times_side k edge.from edge.to p h in
    let z = IsTimes-zero (k * k) s.some in
    ap₂ (λ a b. a || b)
    (ap₂ (λ a b. a && b) (ap₂ (λ a b. a && b) (times_le_test k edge.from.y p.y _ _ (at edge.from.y) (at p.y)) (times_lt_test k p.y edge.to.y _ _ (at p.y) (at edge.to.y))) (times_lt_test (k * k) _ _ _ _ z s))
    (ap₂ (λ a b. a && b) (ap₂ (λ a b. a && b) (times_le_test k edge.to.y p.y _ _ (at edge.to.y) (at p.y)) (times_lt_test k p.y edge.from.y _ _ (at p.y) (at edge.from.y))) (times_lt_test (k * k) _ _ _ _ s z))

pub times_crossings : (k : ℕ) (p : Point) (list : List Edge) → 0 < k → crossings (times k p) (map (scaled_edge k) list) ≡ crossings p list
times_crossings k p [] h = refl
times_crossings k p (edge ∷ rest) h =
    crossings-cons (times k p) (scaled_edge k edge) (map (scaled_edge k) rest) (meets_ray p edge) (times_meets k p edge h) ∙ ap (λ n. cond (meets_ray p edge) 1 0 + n) (times_crossings k p rest h) ∙ sym (crossings-cons p edge rest (meets_ray p edge) refl)

pub times_inside : (k : ℕ) (p : Point) (shape : Shape) → 0 < k → IsInside (times k p) (scaled k shape) ↔ IsInside p shape
unfolding IsInside
times_inside k p shape h =
    let same : crossings (times k p) (all_edges (scaled k shape)) ≡ crossings p (all_edges shape) = ap (crossings (times k p)) (edges_of_scaled k shape) ∙ times_crossings k p (all_edges shape) h in
    (λ odd. ap (λ n. n % 2) (sym same) ∙ odd, λ odd. ap (λ n. n % 2) same ∙ odd)
