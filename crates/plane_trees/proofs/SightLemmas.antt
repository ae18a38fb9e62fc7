-- What an octagon as seen from a place tells of the points and edges in it.
use Rattle.std.proofs.Common.{◌≡◌, ℕ, ◌*◌, ℤ, pos, negsuc, ◌+ℤ◌, ◌-ℤ◌, ◌*ℤ◌, ◌≤ℤ◌, ◌<ℤ◌, List, ◌∷◌, All, refl, sym, subst, arith}
use Rattle.std.proofs.lemmas.Int.{ints}
use Rattle.std.proofs.lemmas.List.Elements.{All-weaker}
use Rattle.venue_types.specs.declared.point.Point.{Point}
use Rattle.plane_trees.specs.declared.octagons.Band.{Band}
use Rattle.plane_trees.specs.declared.octagons.Octagon.{Octagon}
use Rattle.plane_trees.specs.declared.octagons.Offset.{Offset}
use Rattle.plane_trees.specs.declared.octagons.Sight.{Sight}
use Rattle.plane_trees.specs.declared.octagons.Sight.TheVariants.{Missed, Before, Among}
use Rattle.plane_exact.specs.Figure.{edges_from, crossings}
use Rattle.plane_trees.specs.Line.{Direction, Longitude, Latitude, Rising, Falling, coordinate, slant}
use Rattle.plane_trees.specs.Octagons.{offset, kept, IsOffset, band, IsInBand, IsRound, IsSeen, IsMissed, below, over, past_x, past_sum, past_difference, IsBefore, before_x, before_sum, before_difference}
use Rattle.plane_trees.specs.Trees.{IsToldOf}
use Rattle.plane_exact.proofs.RayLemmas.{meets_not_up, meets_not_down}
use Rattle.plane_trees.proofs.SlantLemmas.{missed_line, missed_east, ray_west}

-- ---- the slants of the directions

pub slant_x : (q : Point) → slant (pos 0) q ≡ coordinate Longitude q
slant_x q = omega (arith, ints)

pub slant_sum : (q : Point) → slant (negsuc 0) q ≡ coordinate Rising q
slant_sum q = omega (arith, ints)

pub slant_difference : (q : Point) → slant (pos 1) q ≡ coordinate Falling q
slant_difference q = omega (arith, ints)

-- ---- points past the place and before it

past_point : (range : Band) (n m o c i j : ℤ) → m ≡ c -ℤ o → IsInBand range (n -ℤ o) → range.greatest <ℤ m → i ≡ n → j ≡ c → i <ℤ j
past_point range n m o c i j e h k f g = omega (arith, ints)

before_point : (range : Band) (n m o c i j : ℤ) → m ≡ c -ℤ o → IsInBand range (n -ℤ o) → m <ℤ range.least → i ≡ n → j ≡ c → j <ℤ i
before_point range n m o c i j e h k f g = omega (arith, ints)

pub all_past : (way : Direction) (k : ℤ) → ((q : Point) → slant k q ≡ coordinate way q) → (octagon : Octagon) (place : Offset) (origin p : Point) (points : List Point) → IsOffset place origin p → IsRound octagon origin points → (band way octagon).greatest <ℤ kept way place → All (λ q. slant k q <ℤ slant k p) points
all_past way k same octagon place origin p points at round h =
    All-weaker (λ q. IsInBand (band way octagon) (offset way origin q)) (λ q. slant k q <ℤ slant k p)
    (λ q within. past_point (band way octagon) (coordinate way q) (kept way place) (coordinate way origin) (coordinate way p) (slant k q) (slant k p) (at way) within h (same q) (same p))
    points (round way)

pub all_before : (way : Direction) (k : ℤ) → ((q : Point) → slant k q ≡ coordinate way q) → (octagon : Octagon) (place : Offset) (origin p : Point) (points : List Point) → IsOffset place origin p → IsRound octagon origin points → kept way place <ℤ (band way octagon).least → All (λ q. slant k p <ℤ slant k q) points
all_before way k same octagon place origin p points at round h =
    All-weaker (λ q. IsInBand (band way octagon) (offset way origin q)) (λ q. slant k p <ℤ slant k q)
    (λ q within. before_point (band way octagon) (coordinate way q) (kept way place) (coordinate way origin) (coordinate way p) (slant k q) (slant k p) (at way) within h (same q) (same p))
    points (round way)

higher_point : (range : Band) (n m o c : ℤ) → m ≡ c -ℤ o → IsInBand range (n -ℤ o) → m <ℤ range.least → c <ℤ n
higher_point range n m o c e h k = omega (arith, ints)

lower_point : (range : Band) (n m o c : ℤ) → m ≡ c -ℤ o → IsInBand range (n -ℤ o) → range.greatest ≤ℤ m → n ≤ℤ c
lower_point range n m o c e h k = omega (arith, ints)

pub all_higher : (octagon : Octagon) (place : Offset) (origin p : Point) (points : List Point) → IsOffset place origin p → IsRound octagon origin points → place.y <ℤ octagon.y.least → All (λ q. p.y <ℤ q.y) points
all_higher octagon place origin p points at round h =
    All-weaker (λ q. IsInBand octagon.y (offset Latitude origin q)) (λ q. p.y <ℤ q.y)
    (λ q within. higher_point octagon.y q.y place.y origin.y p.y (at Latitude) within h)
    points (round Latitude)

pub all_lower : (octagon : Octagon) (place : Offset) (origin p : Point) (points : List Point) → IsOffset place origin p → IsRound octagon origin points → octagon.y.greatest ≤ℤ place.y → All (λ q. q.y ≤ℤ p.y) points
all_lower octagon place origin p points at round h =
    All-weaker (λ q. IsInBand octagon.y (offset Latitude origin q)) (λ q. q.y ≤ℤ p.y)
    (λ q within. lower_point octagon.y q.y place.y origin.y p.y (at Latitude) within h)
    points (round Latitude)

-- ---- edges

pub missed_seen : (octagon : Octagon) (place : Offset) (origin p start : Point) (rest : List Point) → IsOffset place origin p → IsRound octagon origin (start ∷ rest) → IsMissed octagon place → crossings p (edges_from start rest) ≡ 0
missed_seen octagon place origin p start rest at round (below h) = missed_line p start rest (λ q. p.y <ℤ q.y) (λ x y k l. meets_not_down p x y k l) (all_higher octagon place origin p (start ∷ rest) at round h)
missed_seen octagon place origin p start rest at round (over h) = missed_line p start rest (λ q. q.y ≤ℤ p.y) (λ x y k l. meets_not_up p x y k l) (all_lower octagon place origin p (start ∷ rest) at round h)
missed_seen octagon place origin p start rest at round (past_x h) = missed_line p start rest (λ q. slant (pos 0) q <ℤ slant (pos 0) p) (λ x y k l. missed_east (pos 0) p x y k l) (all_past Longitude (pos 0) slant_x octagon place origin p (start ∷ rest) at round h)
missed_seen octagon place origin p start rest at round (past_sum h) = missed_line p start rest (λ q. slant (negsuc 0) q <ℤ slant (negsuc 0) p) (λ x y k l. missed_east (negsuc 0) p x y k l) (all_past Rising (negsuc 0) slant_sum octagon place origin p (start ∷ rest) at round h)
missed_seen octagon place origin p start rest at round (past_difference h) = missed_line p start rest (λ q. slant (pos 1) q <ℤ slant (pos 1) p) (λ x y k l. missed_east (pos 1) p x y k l) (all_past Falling (pos 1) slant_difference octagon place origin p (start ∷ rest) at round h)

pub told : (octagon : Octagon) (place : Offset) (origin p start : Point) (rest : List Point) (sight : Sight) → IsOffset place origin p → IsRound octagon origin (start ∷ rest) → IsSeen octagon place sight → IsToldOf p start rest sight
told octagon place origin p start rest Missed at round h = missed_seen octagon place origin p start rest at round h
told octagon place origin p start rest Before at round (before_x h) = ray_west (pos 0) p start rest (all_before Longitude (pos 0) slant_x octagon place origin p (start ∷ rest) at round h)
told octagon place origin p start rest Before at round (before_sum h) = ray_west (negsuc 0) p start rest (all_before Rising (negsuc 0) slant_sum octagon place origin p (start ∷ rest) at round h)
told octagon place origin p start rest Before at round (before_difference h) = ray_west (pos 1) p start rest (all_before Falling (pos 1) slant_difference octagon place origin p (start ∷ rest) at round h)
told octagon place origin p start rest Among at round h = tt
