-- Many rings: what octagons round them tell, and the halves of their groves.
use Rattle.std.proofs.Common.{◌≡◌, ℕ, zero, suc, ◌+◌, ◌-◌, ◌*◌, ◌/◌, ◌%◌, ◌<◌, ◌≤◌, ℤ, pos, negsuc, ◌<ℤ◌, cond, List, [], ◌∷◌, ◌++◌, length, take, drop, get_or, set, All, Any, Contains, flat_map, IsTrue, ◌⊎◌, inl, inr, length-append, refl, sym, ap, ap₂, subst, ◌∙◌, arith}
use Rattle.std.proofs.lemmas.List.{take_more}
use Rattle.std.proofs.lemmas.List.Concat.{flat_map-append}
use Rattle.std.proofs.lemmas.List.Sums.{sum_by-append}
use Rattle.std.proofs.lemmas.List.Elements.{All-nil, All-cons, All-head, All-tail}
use Rattle.venue_types.specs.declared.point.Point.{Point}
use Rattle.venue_types.specs.declared.point.Ring.{Ring}
use Rattle.plane_trees.specs.declared.octagons.Octagon.{Octagon}
use Rattle.plane_trees.specs.declared.octagons.Offset.{Offset}
use Rattle.plane_exact.specs.Segment.{IsNearEdge}
use Rattle.plane_exact.specs.Figure.{Edge, AllNearby, edges, edges_from, meets_ray, crossings, IsNearSome, ring_points, ring_edges}
use Rattle.plane_trees.specs.Line.{Direction, Longitude, Rising, Falling, slant, stretch}
use Rattle.plane_trees.specs.Octagons.{offset, kept, IsOffset, band, IsInBand, IsAtBand, IsRound, IsMissed, IsBefore, before_x, before_sum, before_difference}
use Rattle.plane_trees.specs.Trees.{IsClosedRing, IsGrove, AddsGrove, octagons_of}
use Rattle.plane_exact.proofs.ListLemmas.{any_of_append}
use Rattle.plane_exact.proofs.NearbyLemmas.{AllNearby-left, AllNearby-right}
use Rattle.plane_trees.proofs.SlantLemmas.{ray_closed}
use Rattle.plane_trees.proofs.OctagonLemmas.{IsRound-wider, IsRound-append}
use Rattle.plane_trees.proofs.SightLemmas.{slant_x, slant_sum, slant_difference, all_before, missed_seen}
use Rattle.plane_trees.proofs.RunLemmas.{near_at_band}
use Rattle.plane_trees.proofs.GrowLemmas.{take_half, drop_half, written}

-- ---- two parts

pub All-left : {X : Type 0} (P : X → Type 0) (xs ys : List X) → All P (xs ++ ys) → All P xs
All-left P [] ys h = All-nil P
All-left P (x ∷ xs) ys h = All-cons P x xs (All-head P x (xs ++ ys) h) (All-left P xs ys (All-tail P x (xs ++ ys) h))

pub All-right : {X : Type 0} (P : X → Type 0) (xs ys : List X) → All P (xs ++ ys) → All P ys
All-right P [] ys h = h
All-right P (x ∷ xs) ys h = All-right P xs ys (All-tail P x (xs ++ ys) h)

round_left : (octagon : Octagon) (origin : Point) (xs ys : List Point) → IsRound octagon origin (xs ++ ys) → IsRound octagon origin xs
round_left octagon origin xs ys h way = All-left (λ q. IsInBand (band way octagon) (offset way origin q)) xs ys (h way)

round_right : (octagon : Octagon) (origin : Point) (xs ys : List Point) → IsRound octagon origin (xs ++ ys) → IsRound octagon origin ys
round_right octagon origin xs ys h way = All-right (λ q. IsInBand (band way octagon) (offset way origin q)) xs ys (h way)

pub rings_edges : (whole front back : List Ring) → whole ≡ front ++ back → ring_edges whole ≡ ring_edges front ++ ring_edges back
rings_edges whole front back e = ap ring_edges e ∙ flat_map-append (λ (ring : Ring). edges ring.points) front back

pub rings_points : (whole front back : List Ring) → whole ≡ front ++ back → ring_points whole ≡ ring_points front ++ ring_points back
rings_points whole front back e = ap ring_points e ∙ flat_map-append (λ (ring : Ring). ring.points) front back

pub close_front : (p : Point) (whole front back : List Ring) → whole ≡ front ++ back → AllNearby (p ∷ ring_points whole) → AllNearby (p ∷ ring_points front)
close_front p whole front back e h = AllNearby-left p (ring_points front) (ring_points back) (subst (λ (xs : List Point). AllNearby (p ∷ xs)) (rings_points whole front back e) h)

pub close_back : (p : Point) (whole front back : List Ring) → whole ≡ front ++ back → AllNearby (p ∷ ring_points whole) → AllNearby (p ∷ ring_points back)
close_back p whole front back e h = AllNearby-right p (ring_points front) (ring_points back) (subst (λ (xs : List Point). AllNearby (p ∷ xs)) (rings_points whole front back e) h)

pub closed_front : (whole front back : List Ring) → whole ≡ front ++ back → All IsClosedRing whole → All IsClosedRing front
closed_front whole front back e h = All-left IsClosedRing front back (subst (λ (xs : List Ring). All IsClosedRing xs) e h)

pub closed_back : (whole front back : List Ring) → whole ≡ front ++ back → All IsClosedRing whole → All IsClosedRing back
closed_back whole front back e h = All-right IsClosedRing front back (subst (λ (xs : List Ring). All IsClosedRing xs) e h)

-- ---- what an octagon round rings tells

missed_ring : (octagon : Octagon) (place : Offset) (origin p : Point) (points : List Point) → IsOffset place origin p → IsRound octagon origin points → IsMissed octagon place → crossings p (edges points) ≡ 0
missed_ring octagon place origin p [] at round h = refl
missed_ring octagon place origin p (a ∷ rest) at round h = missed_seen octagon place origin p a rest at round h

pub missed_rings : (octagon : Octagon) (place : Offset) (origin p : Point) (list : List Ring) → IsOffset place origin p → IsRound octagon origin (ring_points list) → IsMissed octagon place → crossings p (ring_edges list) ≡ 0
missed_rings octagon place origin p [] at round h = refl
missed_rings octagon place origin p (ring ∷ list) at round h =
    sum_by-append (λ (edge : Edge). cond (meets_ray p edge) 1 0) (edges ring.points) (ring_edges list)
    ∙ ap₂ (λ (m n : ℕ). m + n) (missed_ring octagon place origin p ring.points at (round_left octagon origin ring.points (ring_points list) round) h) (missed_rings octagon place origin p list at (round_right octagon origin ring.points (ring_points list) round) h)

even_sum : (m n : ℕ) → m % 2 ≡ 0 → n % 2 ≡ 0 → (m + n) % 2 ≡ 0
even_sum m n e f = omega arith

pub closed_rings : (k : ℤ) (p : Point) (list : List Ring) → All IsClosedRing list → All (λ q. slant k p <ℤ slant k q) (ring_points list) → crossings p (ring_edges list) % 2 ≡ 0
closed_rings k p [] closed all = refl
closed_rings k p (ring ∷ list) closed all =
    let P : Point → Type 0 = λ q. slant k p <ℤ slant k q in
    ap (λ n. n % 2) (sum_by-append (λ (edge : Edge). cond (meets_ray p edge) 1 0) (edges ring.points) (ring_edges list))
    ∙ even_sum (crossings p (edges ring.points)) (crossings p (ring_edges list)) (ray_closed k p ring.points (All-head IsClosedRing ring list closed) (All-left P ring.points (ring_points list) all)) (closed_rings k p list (All-tail IsClosedRing ring list closed) (All-right P ring.points (ring_points list) all))

pub even_before : (octagon : Octagon) (place : Offset) (origin p : Point) (list : List Ring) → IsOffset place origin p → IsRound octagon origin (ring_points list) → IsBefore octagon place → All IsClosedRing list → crossings p (ring_edges list) % 2 ≡ 0
even_before octagon place origin p list at round (before_x h) closed = closed_rings (pos 0) p list closed (all_before Longitude (pos 0) slant_x octagon place origin p (ring_points list) at round h)
even_before octagon place origin p list at round (before_sum h) closed = closed_rings (negsuc 0) p list closed (all_before Rising (negsuc 0) slant_sum octagon place origin p (ring_points list) at round h)
even_before octagon place origin p list at round (before_difference h) closed = closed_rings (pos 1) p list closed (all_before Falling (pos 1) slant_difference octagon place origin p (ring_points list) at round h)

near_ring_at : (octagon : Octagon) (place : Offset) (origin p : Point) (points : List Point) (t : ℕ) → IsOffset place origin p → IsRound octagon origin points → IsNearSome p t (edges points) → (way : Direction) → IsAtBand (band way octagon) (kept way place) (stretch way * t)
near_ring_at octagon place origin p [] t at round (k, edge, within, is, near) way = absurd (omega (arith, within))
near_ring_at octagon place origin p (a ∷ rest) t at round near way = near_at_band octagon place origin p a rest t at round near way

pub near_rings_at : (octagon : Octagon) (place : Offset) (origin p : Point) (list : List Ring) (t : ℕ) → IsOffset place origin p → IsRound octagon origin (ring_points list) → IsNearSome p t (ring_edges list) → (way : Direction) → IsAtBand (band way octagon) (kept way place) (stretch way * t)
near_rings_at octagon place origin p [] t at round (k, edge, within, is, near) way = absurd (omega (arith, within))
near_rings_at octagon place origin p (ring ∷ list) t at round near way = elim (any_of_append (λ (edge : Edge). IsNearEdge p edge.from edge.to t) (edges ring.points) (ring_edges list) near) [
  | inl here ↦ near_ring_at octagon place origin p ring.points t at (round_left octagon origin ring.points (ring_points list) round) here way
  | inr later ↦ near_rings_at octagon place origin p list t at (round_right octagon origin ring.points (ring_points list) round) later way
]

-- ---- the halves of a grove

pub grove_round : (depth : ℕ) (origin : Point) (octagons : List Octagon) (d : Octagon) (list : List Ring) → 1 ≤ length octagons → IsGrove depth origin octagons list → IsRound (get_or octagons 0 d) origin (ring_points list)
unfolding IsGrove
grove_round zero origin [] d list some h = absurd (omega (arith, some))
grove_round (suc depth) origin [] d list some h = absurd (omega (arith, some))
grove_round zero origin (octagon ∷ below) d list some h = h
grove_round (suc depth) origin (octagon ∷ below) d list some h = h.0

grove_front : (depth before : ℕ) (origin : Point) (octagons : List Octagon) (list : List Ring) → depth ≡ suc before → 1 ≤ length octagons → IsGrove depth origin octagons list → IsGrove before origin (take (length (drop 1 octagons) / 2) (drop 1 octagons)) (take (length list / 2) list)
unfolding IsGrove
grove_front zero before origin octagons list e some h = absurd (omega (arith, e))
grove_front (suc depth) before origin [] list e some h = absurd (omega (arith, some))
grove_front (suc depth) before origin (octagon ∷ below) list e some h =
    let same : depth ≡ before = omega (arith, e) in
    subst (λ (n : ℕ). IsGrove n origin (take (length below / 2) below) (take (length list / 2) list)) same h.1

grove_back : (depth before : ℕ) (origin : Point) (octagons : List Octagon) (list : List Ring) → depth ≡ suc before → 1 ≤ length octagons → IsGrove depth origin octagons list → IsGrove before origin (drop (length (drop 1 octagons) / 2) (drop 1 octagons)) (drop (length list / 2) list)
unfolding IsGrove
grove_back zero before origin octagons list e some h = absurd (omega (arith, e))
grove_back (suc depth) before origin [] list e some h = absurd (omega (arith, some))
grove_back (suc depth) before origin (octagon ∷ below) list e some h =
    let same : depth ≡ before = omega (arith, e) in
    subst (λ (n : ℕ). IsGrove n origin (drop (length below / 2) below) (drop (length list / 2) list)) same h.2

pub front_grove : (depth before : ℕ) (origin : Point) (octagons first : List Octagon) (list front : List Ring) → depth ≡ suc before → 1 ≤ length octagons → first ≡ take (length (drop 1 octagons) / 2) (drop 1 octagons) → front ≡ take (length list / 2) list → IsGrove depth origin octagons list → IsGrove before origin first front
front_grove depth before origin octagons first list front e some f g h = rw (f, g) (grove_front depth before origin octagons list e some h)

pub back_grove : (depth before : ℕ) (origin : Point) (octagons second : List Octagon) (list back : List Ring) → depth ≡ suc before → 1 ≤ length octagons → second ≡ drop (length (drop 1 octagons) / 2) (drop 1 octagons) → back ≡ drop (length list / 2) list → IsGrove depth origin octagons list → IsGrove before origin second back
back_grove depth before origin octagons second list back e some f g h = rw (f, g) (grove_back depth before origin octagons list e some h)

-- ---- growing

pub leaf_grove : (depth : ℕ) (origin : Point) (list : List Ring) (octagon : Octagon) (old new : List Octagon) → depth ≡ 0 → IsRound octagon origin (ring_points list) → new ≡ old ++ octagon ∷ [] → AddsGrove depth origin list old new
unfolding IsGrove
leaf_grove zero origin list octagon old new e round f = (octagon ∷ [], f, refl, round)
leaf_grove (suc depth) origin list octagon old new e round f = absurd (omega (arith, e))

grove_of_halves : (before : ℕ) (origin : Point) (list : List Ring) (octagon : Octagon) (l r : List Octagon) → length l ≡ octagons_of before → length r ≡ octagons_of before → IsRound octagon origin (ring_points list) → IsGrove before origin l (take (length list / 2) list) → IsGrove before origin r (drop (length list / 2) list) → IsGrove (suc before) origin (octagon ∷ (l ++ r)) list
unfolding IsGrove
grove_of_halves before origin list octagon l r m n round h k =
    let same : length l ≡ length r = m ∙ sym n in
    (round, rw (take_half l r same) h, rw (drop_half l r same) k)

pub join_grove : (depth before place : ℕ) (origin : Point) (list front back : List Ring) (octagon free : Octagon) (old pushed first second : List Octagon) → depth ≡ suc before → place ≡ length old → pushed ≡ old ++ free ∷ [] → AddsGrove before origin front pushed first → AddsGrove before origin back first second → front ≡ take (length list / 2) list → back ≡ drop (length list / 2) list → IsRound octagon origin (ring_points list) → AddsGrove depth origin list old (set second place octagon)
join_grove depth before place origin list front back octagon free old pushed first second e p q (l, e1, n1, t1) (r, e2, n2, t2) a b round =
    let whole : AddsGrove (suc before) origin list old (set second (length old) octagon) = (
      octagon ∷ (l ++ r),
      ap (λ (xs : List Octagon). set xs (length old) octagon) (e2 ∙ ap (λ xs. xs ++ r) (e1 ∙ ap (λ xs. xs ++ l) q)) ∙ written old l r free octagon,
      ap suc (length-append l r ∙ ap₂ (λ (i j : ℕ). i + j) n1 n2),
      grove_of_halves before origin list octagon l r n1 n2 round (subst (λ (xs : List Ring). IsGrove before origin l xs) a t1) (subst (λ (xs : List Ring). IsGrove before origin r xs) b t2),
    ) in
    subst (λ (n : ℕ). AddsGrove n origin list old (set second place octagon)) (sym e) (subst (λ (n : ℕ). AddsGrove (suc before) origin list old (set second n octagon)) (sym p) whole)

-- ---- rings one by one

pub rings_more : (one at both : Octagon) (origin : Point) (xs : List Ring) (i : ℕ) (x d : Ring) → i < length xs → get_or xs i d ≡ x → IsRound at origin x.points → ((way : Direction) (m : ℤ) → IsInBand (band way one) m → IsInBand (band way both) m) → ((way : Direction) (m : ℤ) → IsInBand (band way at) m → IsInBand (band way both) m) → IsRound one origin (ring_points (take i xs)) → IsRound both origin (ring_points (take (i + 1) xs))
rings_more one at both origin xs i x d within e here first second h =
    let split : ring_points (take (i + 1) xs) ≡ ring_points (take i xs) ++ ring_points (x ∷ []) = ap ring_points (take_more xs i d within ∙ ap (λ (y : Ring). take i xs ++ y ∷ []) e) ∙ flat_map-append (λ (ring : Ring). ring.points) (take i xs) (x ∷ []) in
    let none : IsRound both origin [] = λ way. All-nil (λ q. IsInBand (band way both) (offset way origin q)) in
    let last = IsRound-append both origin x.points [] (IsRound-wider at both origin x.points second here) none in
    subst (λ (ys : List Point). IsRound both origin ys) (sym split) (IsRound-append both origin (ring_points (take i xs)) (ring_points (x ∷ [])) (IsRound-wider one both origin (ring_points (take i xs)) first h) last)

pub rings_joined : (one other both : Octagon) (origin : Point) (whole front back : List Ring) → whole ≡ front ++ back → ((way : Direction) (m : ℤ) → IsInBand (band way one) m → IsInBand (band way both) m) → ((way : Direction) (m : ℤ) → IsInBand (band way other) m → IsInBand (band way both) m) → IsRound one origin (ring_points front) → IsRound other origin (ring_points back) → IsRound both origin (ring_points whole)
rings_joined one other both origin whole front back e first second h k = subst (λ (ys : List Point). IsRound both origin ys) (sym (rings_points whole front back e)) (IsRound-append both origin (ring_points front) (ring_points back) (IsRound-wider one both origin (ring_points front) first h) (IsRound-wider other both origin (ring_points back) second k))

pub whole_grove : (depth : ℕ) (origin : Point) (list : List Ring) (old new : List Octagon) → old ≡ [] → AddsGrove depth origin list old new → IsGrove depth origin new list
whole_grove depth origin list old new e (added, f, n, h) = subst (λ (xs : List Octagon). IsGrove depth origin xs list) (sym (f ∙ ap (λ xs. xs ++ added) e)) h
