-- Which positions are close, from the closeness of all.
use Rattle.std.proofs.Common.{◌≡◌, ℕ, zero, suc, ◌+◌, ◌<◌, ◌≤◌, List, [], ◌∷◌, ◌++◌, length, drop, get_or, Contains, inl, inr, flat_map, refl, subst, sym, arith}
use Rattle.std.proofs.lemmas.Int.{ints}
use Rattle.std.proofs.lemmas.List.{get_or_default}
use Rattle.std.proofs.lemmas.List.Elements.{Contains-append_left, Contains-append_right, Contains-append_cases, Contains-get_or}
use Rattle.venue_types.specs.declared.point.Point.{Point}
use Rattle.plane_exact.specs.Plane.{IsClose, IsNearby}
use Rattle.plane_exact.specs.Figure.{AllClose, AllNearby}
use Rattle.plane_exact.proofs.ListLemmas.{drop_at}

pub AllNearby-fewer : (xs ys : List Point) → ((x : Point) → Contains xs x → Contains ys x) → AllNearby ys → AllNearby xs
AllNearby-fewer xs ys within h = record { near = λ a b p q. h.near a b (within a p) (within b q) }

pub Contains-later : (x y : Point) (xs : List Point) → Contains xs x → Contains (y ∷ xs) x
Contains-later x y xs (k, within, at) = (suc k, omega arith, at)

pub Contains-both : (p x : Point) (xs ys : List Point) → ((y : Point) → Contains xs y → Contains ys y) → Contains (p ∷ xs) x → Contains (p ∷ ys) x
Contains-both p x xs ys within (zero, below, at) = (zero, omega arith, at)
Contains-both p x xs ys within (suc k, below, at) = Contains-later x p ys (within x (k, omega arith, at))

-- of joined lists each is close to p
pub AllNearby-left : (p : Point) (xs ys : List Point) → AllNearby (p ∷ (xs ++ ys)) → AllNearby (p ∷ xs)
AllNearby-left p xs ys h = AllNearby-fewer (p ∷ xs) (p ∷ (xs ++ ys)) (λ x. Contains-both p x xs (xs ++ ys) (λ y. Contains-append_left xs ys y)) h

pub AllNearby-right : (p : Point) (xs ys : List Point) → AllNearby (p ∷ (xs ++ ys)) → AllNearby (p ∷ ys)
AllNearby-right p xs ys h = AllNearby-fewer (p ∷ ys) (p ∷ (xs ++ ys)) (λ x. Contains-both p x ys (xs ++ ys) (λ y. Contains-append_right xs ys y)) h

-- ---- along a chain from a, whose next point is at i

ahead : (p a : Point) (rest : List Point) (i : ℕ) (d : Point) → i < length rest → AllNearby (p ∷ a ∷ drop i rest) → AllNearby (p ∷ a ∷ get_or rest i d ∷ drop (i + 1) rest)
ahead p a rest i d within h = let P : List Point → Type 0 = λ xs. AllNearby (p ∷ a ∷ xs) in subst P (drop_at rest i (get_or rest i d) d within refl) h

pub start_close : (p a : Point) (rest : List Point) → AllNearby (p ∷ a ∷ rest) → IsNearby a p
start_close p a rest h = h.near a p (1, omega arith, refl) (0, omega arith, refl)

pub edge_close : (p a : Point) (rest : List Point) (i : ℕ) (d : Point) → i < length rest → AllNearby (p ∷ a ∷ drop i rest) → IsNearby a (get_or rest i d)
edge_close p a rest i d within h = (ahead p a rest i d within h).near a (get_or rest i d) (1, omega arith, refl) (2, omega arith, refl)

pub chain_step : (p a : Point) (rest : List Point) (i : ℕ) (d : Point) → i < length rest → AllNearby (p ∷ a ∷ drop i rest) → AllNearby (p ∷ get_or rest i d ∷ drop (i + 1) rest)
chain_step p a rest i d within h = let b = get_or rest i d in
    let after = b ∷ drop (i + 1) rest in
    AllNearby-fewer (p ∷ after) (p ∷ a ∷ after) (λ x. Contains-both p x after (a ∷ after) (λ y. Contains-later y a after)) (ahead p a rest i d within h)

pub end_close : (p a : Point) (rest : List Point) (i : ℕ) (d : Point) → i < length rest → AllNearby (p ∷ a ∷ drop i rest) → IsNearby (get_or rest i d) p
end_close p a rest i d within h = start_close p (get_or rest i d) (drop (i + 1) rest) (chain_step p a rest i d within h)

-- ---- along items that have some points each

items_ahead : {X : Type 0} (f : X → List Point) (p : Point) (xs : List X) (i : ℕ) (x d : X) → i < length xs → get_or xs i d ≡ x → AllNearby (p ∷ flat_map f (drop i xs)) → AllNearby (p ∷ (f x ++ flat_map f (drop (i + 1) xs)))
items_ahead {X} f p xs i x d within at h = let P : List X → Type 0 = λ ys. AllNearby (p ∷ flat_map f ys) in subst P (drop_at xs i x d within at) h

pub item_close : {X : Type 0} (f : X → List Point) (p : Point) (xs : List X) (i : ℕ) (x d : X) → i < length xs → get_or xs i d ≡ x → AllNearby (p ∷ flat_map f (drop i xs)) → AllNearby (p ∷ f x)
item_close f p xs i x d within at h = AllNearby-left p (f x) (flat_map f (drop (i + 1) xs)) (items_ahead f p xs i x d within at h)

pub items_step : {X : Type 0} (f : X → List Point) (p : Point) (xs : List X) (i : ℕ) (x d : X) → i < length xs → get_or xs i d ≡ x → AllNearby (p ∷ flat_map f (drop i xs)) → AllNearby (p ∷ flat_map f (drop (i + 1) xs))
items_step f p xs i x d within at h = AllNearby-right p (f x) (flat_map f (drop (i + 1) xs)) (items_ahead f p xs i x d within at h)

-- ---- along a line from an origin

pub point_close : (origin start : Point) (rest : List Point) (i : ℕ) (d : Point) → i < length rest → AllNearby (origin ∷ start ∷ rest) → IsNearby origin (get_or rest i d)
point_close origin start rest i d within h = h.near origin (get_or rest i d) (0, omega arith, refl) (suc (suc i), omega arith, get_or_default rest i (get_or rest i d) d within)

-- of fewer points each is close to p
pub AllNearby-within : (p : Point) (xs ys : List Point) → ((q : Point) → Contains xs q → Contains ys q) → AllNearby (p ∷ ys) → AllNearby (p ∷ xs)
AllNearby-within p xs ys within h = AllNearby-fewer (p ∷ xs) (p ∷ ys) (λ q. Contains-both p q xs ys within) h

-- ---- two lines

pub Contains-next : (start : Point) (rest : List Point) (i : ℕ) (d : Point) → i < length rest → Contains (start ∷ rest) (get_or rest i d)
Contains-next start rest i d within = Contains-later (get_or rest i d) start rest (Contains-get_or rest i d within)

-- the edge ab and an edge of the line
pub among_close : (a b x y : Point) (points : List Point) → Contains points x → Contains points y → AllNearby (a ∷ b ∷ points) → (IsNearby a b) × (IsNearby x y) × (IsNearby a x) × (IsNearby a y) × (IsNearby b x)
among_close a b x y points has_x has_y h =
    let later : (q : Point) → Contains points q → Contains (a ∷ b ∷ points) q = λ q k. Contains-later q a (b ∷ points) (Contains-later q b points k) in
    let at_a : Contains (a ∷ b ∷ points) a = (0, omega arith, refl) in
    let at_b : Contains (a ∷ b ∷ points) b = (1, omega arith, refl) in
    (h.near a b at_a at_b, h.near x y (later x has_x) (later y has_y), h.near a x at_a (later x has_x), h.near a y at_a (later y has_y), h.near b x at_b (later x has_x))

edge_and_line : (a b q : Point) (xs ys : List Point) → Contains xs a → Contains xs b → Contains (a ∷ b ∷ ys) q → Contains (xs ++ ys) q
edge_and_line a b q xs ys has_a has_b (zero, within, at) = subst (λ (x : Point). Contains (xs ++ ys) x) at (Contains-append_left xs ys a has_a)
edge_and_line a b q xs ys has_a has_b (suc zero, within, at) = subst (λ (x : Point). Contains (xs ++ ys) x) at (Contains-append_left xs ys b has_b)
edge_and_line a b q xs ys has_a has_b (suc (suc k), within, at) = Contains-append_right xs ys q (k, omega arith, at)

pub edge_with_line : (a b : Point) (xs ys : List Point) → Contains xs a → Contains xs b → AllNearby (xs ++ ys) → AllNearby (a ∷ b ∷ ys)
edge_with_line a b xs ys has_a has_b h = AllNearby-fewer (a ∷ b ∷ ys) (xs ++ ys) (λ q. edge_and_line a b q xs ys has_a has_b) h

by_part : (xs ys us vs : List Point) → ((q : Point) → Contains us q → Contains xs q) → ((q : Point) → Contains vs q → Contains ys q) → (q : Point) → Contains (us ++ vs) q → Contains (xs ++ ys) q
by_part xs ys us vs f g q h = elim (Contains-append_cases us vs q h) [ inl k ↦ Contains-append_left xs ys q (f q k) | inr k ↦ Contains-append_right xs ys q (g q k) ]

-- of fewer points of both
pub AllNearby-parts : (xs ys us vs : List Point) → ((q : Point) → Contains us q → Contains xs q) → ((q : Point) → Contains vs q → Contains ys q) → AllNearby (xs ++ ys) → AllNearby (us ++ vs)
AllNearby-parts xs ys us vs f g h = AllNearby-fewer (us ++ vs) (xs ++ ys) (by_part xs ys us vs f g) h

both_within : (xs us vs : List Point) → ((q : Point) → Contains us q → Contains xs q) → ((q : Point) → Contains vs q → Contains xs q) → (q : Point) → Contains (us ++ vs) q → Contains xs q
both_within xs us vs f g q h = elim (Contains-append_cases us vs q h) [ inl k ↦ f q k | inr k ↦ g q k ]

pub AllNearby-both : (xs us vs : List Point) → ((q : Point) → Contains us q → Contains xs q) → ((q : Point) → Contains vs q → Contains xs q) → AllNearby xs → AllNearby (us ++ vs)
AllNearby-both xs us vs f g h = AllNearby-fewer (us ++ vs) xs (both_within xs us vs f g) h

-- the first of the points that are read
pub first_close : (p d : Point) (points read : List Point) → read ≡ points → 1 ≤ length read → AllNearby (p ∷ points) → IsNearby (get_or read 0 d) p
first_close p d points [] e some h = absurd (omega (arith, some))
first_close p d points (a ∷ rest) e some h = start_close p a rest (subst (λ (xs : List Point). AllNearby (p ∷ xs)) (sym e) h)

-- with one of the points as origin
pub with_origin : (origin q : Point) (points : List Point) → Contains points origin → Contains (origin ∷ points) q → Contains points q
with_origin origin q points has (zero, within, at) = subst (λ (x : Point). Contains points x) at has
with_origin origin q points has (suc k, within, at) = (k, omega arith, at)

pub AllNearby-origin : (origin : Point) (points : List Point) → Contains points origin → AllNearby points → AllNearby (origin ∷ points)
AllNearby-origin origin points has h = AllNearby-fewer (origin ∷ points) points (λ q. with_origin origin q points has) h

pub origin_close : (p origin : Point) (points : List Point) → Contains points origin → AllNearby (p ∷ points) → IsNearby origin p
origin_close p origin points has h = h.near origin p (Contains-later origin p points has) (0, omega arith, refl)

-- ---- of joined lists

pub plain_left : (xs ys : List Point) → AllNearby (xs ++ ys) → AllNearby xs
plain_left xs ys h = AllNearby-fewer xs (xs ++ ys) (λ q. Contains-append_left xs ys q) h

pub plain_right : (xs ys : List Point) → AllNearby (xs ++ ys) → AllNearby ys
plain_right xs ys h = AllNearby-fewer ys (xs ++ ys) (λ q. Contains-append_right xs ys q) h

plain_ahead : {X : Type 0} (f : X → List Point) (xs : List X) (i : ℕ) (x d : X) → i < length xs → get_or xs i d ≡ x → AllNearby (flat_map f (drop i xs)) → AllNearby (f x ++ flat_map f (drop (i + 1) xs))
plain_ahead {X} f xs i x d within at h = let P : List X → Type 0 = λ ys. AllNearby (flat_map f ys) in subst P (drop_at xs i x d within at) h

pub plain_item : {X : Type 0} (f : X → List Point) (xs : List X) (i : ℕ) (x d : X) → i < length xs → get_or xs i d ≡ x → AllNearby (flat_map f (drop i xs)) → AllNearby (f x)
plain_item f xs i x d within at h = plain_left (f x) (flat_map f (drop (i + 1) xs)) (plain_ahead f xs i x d within at h)

pub plain_step : {X : Type 0} (f : X → List Point) (xs : List X) (i : ℕ) (x d : X) → i < length xs → get_or xs i d ≡ x → AllNearby (flat_map f (drop i xs)) → AllNearby (flat_map f (drop (i + 1) xs))
plain_step f xs i x d within at h = plain_right (f x) (flat_map f (drop (i + 1) xs)) (plain_ahead f xs i x d within at h)

-- ---- close positions are nearby

nearby : (a b : Point) → IsClose a b → IsNearby a b
nearby a b h = record {
  x = record { above = omega (arith, ints); below = omega (arith, ints) };
  y = record { above = omega (arith, ints); below = omega (arith, ints) };
}

pub all_nearby : (points : List Point) → AllClose points → AllNearby points
all_nearby points h = record { near = λ a b p q. nearby a b (h.close a b p q) }

-- ---- a way and a wall

-- which of the ends of a way and of an edge are nearby
pub record AreFourNear (a b c d : Point) : Type 0 where
  pub way : IsNearby a b
  pub edge : IsNearby c d
  pub start_first : IsNearby a c
  pub start_second : IsNearby a d
  pub end_first : IsNearby b c
  pub first_start : IsNearby c a
  pub second_start : IsNearby d a
  pub first_end : IsNearby c b
  pub second_end : IsNearby d b

pub four_near : (a b c d : Point) → AllNearby (a ∷ b ∷ c ∷ d ∷ []) → AreFourNear a b c d
four_near a b c d h = record {
  way = h.near a b (0, omega arith, refl) (1, omega arith, refl);
  edge = h.near c d (2, omega arith, refl) (3, omega arith, refl);
  start_first = h.near a c (0, omega arith, refl) (2, omega arith, refl);
  start_second = h.near a d (0, omega arith, refl) (3, omega arith, refl);
  end_first = h.near b c (1, omega arith, refl) (2, omega arith, refl);
  first_start = h.near c a (2, omega arith, refl) (0, omega arith, refl);
  second_start = h.near d a (3, omega arith, refl) (0, omega arith, refl);
  first_end = h.near c b (2, omega arith, refl) (1, omega arith, refl);
  second_end = h.near d b (3, omega arith, refl) (1, omega arith, refl);
}

-- and of a way and a vertex
pub three_near : (a b v : Point) → AllNearby (a ∷ b ∷ v ∷ []) → (IsNearby a b) × (IsNearby a v) × (IsNearby b v)
three_near a b v h = (h.near a b (0, omega arith, refl) (1, omega arith, refl), h.near a v (0, omega arith, refl) (2, omega arith, refl), h.near b v (1, omega arith, refl) (2, omega arith, refl))
