-- A position near a shape lies in its frame or beyond it by no more than the tolerance.
use Rattle.std.proofs.Common.{◌≡◌, ◌∙◌, ℕ, zero, suc, ◌+◌, ◌*◌, ◌<◌, ◌≤◌, ℤ, pos, ◌+ℤ◌, ◌≤ℤ◌, List, [], ◌∷◌, ◌++◌, length, get_or, take, ap, subst, arith, ◌⊎◌, inl, inr, flat_map, All}
use Rattle.std.specs.Prelude.{Contains}
use Rattle.std.proofs.lemmas.List.{take_more, take_all}
use Rattle.std.proofs.lemmas.List.Concat.{flat_map-append}
use Rattle.std.proofs.lemmas.List.Elements.{Contains-append_left, Contains-append_right, Contains-append_cases, Contains-get_or}
use Rattle.std.proofs.lemmas.Int.{ints}
use Rattle.venue_types.proofs.Items.{Contains-nil}
use Rattle.venue_types.specs.declared.point.Point.{Point}
use Rattle.venue_types.specs.declared.point.Ring.{Ring}
use Rattle.venue_types.specs.declared.point.Shape.{Shape}
use Rattle.plane_exact.specs.Figure.{edges, edges_from, ring_edges, ring_points, rings, IsNear, IsNearSome}
use Rattle.plane_trees.specs.Line.{Direction, Longitude, Latitude, coordinate, stretch}
use Rattle.opening_match.specs.declared.frame.Frame.{Frame}
use Rattle.opening_match.specs.Frames.{IsFramedAt, IsAtHeight, IsAtWidth, IsFramed, Grows}
use Rattle.opening_match.proofs.Items.{one_more}

-- ---- a frame is made point by point

pub grows_none : (a : Frame) → Grows a a []
grows_none a = record { kept = λ p h. h; has = λ p h. absurd (Contains-nil p h) }

pub grows_more : (a b c : Frame) (xs ys zs : List Point) → Grows a b xs → Grows b c ys → ((p : Point) → Contains zs p → Contains xs p ⊎ Contains ys p) → Grows a c zs
grows_more a b c xs ys zs one two split = record {
  kept = λ p h. two.kept p (one.kept p h);
  has = λ p h. elim (split p h) [ inl first ↦ two.kept p (one.has p first) | inr second ↦ two.has p second ];
}

-- the items up to one more
split_items : {X : Type 0} (f : X → List Point) (xs : List X) (i : ℕ) (x : X) → i < length xs → x ≡ get_or xs i x → (p : Point) → Contains (flat_map f (take (i + 1) xs)) p → Contains (flat_map f (take i xs)) p ⊎ Contains (f x) p
split_items {X} f xs i x within is p h =
    let joined : flat_map f (take (i + 1) xs) ≡ flat_map f (take i xs) ++ flat_map f (x ∷ []) = ap (flat_map f) (one_more xs i x within is) ∙ flat_map-append f (take i xs) (x ∷ []) in
    elim (Contains-append_cases (flat_map f (take i xs)) (flat_map f (x ∷ [])) p (subst (λ (ps : List Point). Contains ps p) joined h)) [
      | inl before ↦ inl before
      | inr here ↦ elim (Contains-append_cases (f x) [] p here) [ inl own ↦ inr own | inr none ↦ absurd (Contains-nil p none) ]
    ]

pub grows_item : {X : Type 0} (f : X → List Point) (xs : List X) (i : ℕ) (x : X) (a b c : Frame) → i < length xs → x ≡ get_or xs i x → Grows a b (flat_map f (take i xs)) → Grows b c (f x) → Grows a c (flat_map f (take (i + 1) xs))
grows_item f xs i x a b c within is before here = grows_more a b c (flat_map f (take i xs)) (f x) (flat_map f (take (i + 1) xs)) before here (split_items f xs i x within is)

pub grows_point : (xs : List Point) (i : ℕ) (d : Point) (a b c : Frame) → i < length xs → Grows a b (take i xs) → Grows b c (get_or xs i d ∷ []) → Grows a c (take (i + 1) xs)
grows_point xs i d a b c within before here = grows_more a b c (take i xs) (get_or xs i d ∷ []) (take (i + 1) xs) before here
    (λ p h. Contains-append_cases (take i xs) (get_or xs i d ∷ []) p (subst (λ (ps : List Point). Contains ps p) (take_more xs i d within) h))

pub grows_all : {X : Type 0} (f : X → List Point) (xs : List X) (k : ℕ) (a b : Frame) → length xs ≤ k → Grows a b (flat_map f (take k xs)) → Grows a b (flat_map f xs)
grows_all {X} f xs k a b past h = subst (λ (ys : List X). Grows a b (flat_map f ys)) (take_all k xs past) h

pub grows_points : (xs : List Point) (k : ℕ) (a b : Frame) → length xs ≤ k → Grows a b (take k xs) → Grows a b xs
grows_points xs k a b past h = subst (λ (ys : List Point). Grows a b ys) (take_all k xs past) h

-- a frame with one position more
pub record IsWider (a b : Frame) (p : Point) : Type 0 where
  pub west : (b.west ≤ℤ a.west) × (b.west ≤ℤ p.x)
  pub east : (a.east ≤ℤ b.east) × (p.x ≤ℤ b.east)
  pub south : (b.south ≤ℤ a.south) × (b.south ≤ℤ p.y)
  pub north : (a.north ≤ℤ b.north) × (p.y ≤ℤ b.north)

through : (x y z : ℤ) → x ≤ℤ y → y ≤ℤ z → x ≤ℤ z
through x y z h k = omega (arith, ints)

pub with_one : (a b : Frame) (p : Point) → IsWider a b p → Grows a b (p ∷ [])
with_one a b p w = record {
  kept = λ q h. record {
    west = through b.west a.west q.x w.west.0 h.west;
    east = through q.x a.east b.east h.east w.east.0;
    south = through b.south a.south q.y w.south.0 h.south;
    north = through q.y a.north b.north h.north w.north.0;
  };
  has = λ q h. elim (Contains-append_cases (p ∷ []) [] q h) [
    | inl here ↦ subst (λ (z : Point). IsFramedAt b z) (only p q here) (record { west = w.west.1; east = w.east.1; south = w.south.1; north = w.north.1 })
    | inr none ↦ absurd (Contains-nil q none)
  ];
} where
  only : (p q : Point) → Contains (p ∷ []) q → p ≡ q
  only p q (zero, within, at) = at
  only p q (suc k, within, at) = absurd (omega (arith, within))

-- ---- near a shape

-- the laws of a position near a line
abbrev pub LeastLaw : Type 0
LeastLaw = (way : Direction) (m : ℤ) (p a : Point) (rest : List Point) (t : ℕ) → All (λ q. m ≤ℤ coordinate way q) (a ∷ rest) → IsNearSome p t (edges_from a rest) → m ≤ℤ (coordinate way p +ℤ pos (stretch way * t))

abbrev pub GreatestLaw : Type 0
GreatestLaw = (way : Direction) (m : ℤ) (p a : Point) (rest : List Point) (t : ℕ) → All (λ q. coordinate way q ≤ℤ m) (a ∷ rest) → IsNearSome p t (edges_from a rest) → coordinate way p ≤ℤ (m +ℤ pos (stretch way * t))

-- the position lies in the frame, or beyond it by no more than the tolerance
pub record IsAround (frame : Frame) (t : ℕ) (p : Point) : Type 0 where
  pub width : IsAtWidth frame t p.x
  pub height : IsAtHeight frame t p.y

once : (x y : ℤ) (t : ℕ) → x ≤ℤ (y +ℤ pos (1 * t)) → x ≤ℤ (y +ℤ pos t)
once x y t h = omega (arith, ints, h)

near_line : LeastLaw → GreatestLaw → (frame : Frame) (t : ℕ) (p : Point) (points : List Point) → ((q : Point) → Contains points q → IsFramedAt frame q) → IsNearSome p t (edges points) → IsAround frame t p
near_line least greatest frame t p [] has (k, edge, within, at, near) = absurd (omega (arith, within))
near_line least greatest frame t p (a ∷ rest) has near = record {
  width = record {
    west = once _ _ t (least Longitude frame.west p a rest t (λ k d within. (has _ (Contains-get_or (a ∷ rest) k d within)).west) near);
    east = once _ _ t (greatest Longitude frame.east p a rest t (λ k d within. (has _ (Contains-get_or (a ∷ rest) k d within)).east) near);
  };
  height = record {
    south = once _ _ t (least Latitude frame.south p a rest t (λ k d within. (has _ (Contains-get_or (a ∷ rest) k d within)).south) near);
    north = once _ _ t (greatest Latitude frame.north p a rest t (λ k d within. (has _ (Contains-get_or (a ∷ rest) k d within)).north) near);
  };
}

near_rings : LeastLaw → GreatestLaw → (frame : Frame) (t : ℕ) (p : Point) (list : List Ring) → ((q : Point) → Contains (ring_points list) q → IsFramedAt frame q) → IsNearSome p t (ring_edges list) → IsAround frame t p
near_rings least greatest frame t p [] has (k, edge, within, at, near) = absurd (omega (arith, within))
near_rings least greatest frame t p (ring ∷ list) has (k, edge, within, at, near) = elim (Contains-append_cases (edges ring.points) (ring_edges list) edge (k, within, at)) [
  | inl here ↦ near_line least greatest frame t p ring.points (λ q h. has q (Contains-append_left ring.points (ring_points list) q h)) (here.0, edge, here.1, here.2, near)
  | inr later ↦ near_rings least greatest frame t p list (λ q h. has q (Contains-append_right ring.points (ring_points list) q h)) (later.0, edge, later.1, later.2, near)
]

pub near_framed : LeastLaw → GreatestLaw → (shape : Shape) (frame : Frame) (t : ℕ) (p : Point) → IsFramed shape frame → IsNear p shape t → IsAround frame t p
unfolding IsNear
near_framed least greatest shape frame t p framed near = near_rings least greatest frame t p (rings shape) framed.has near
