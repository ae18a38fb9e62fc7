-- What the tests of octagons decide.
use Rattle.std.proofs.Common.{◌≡◌, ℕ, ◌+◌, ◌*◌, ◌<◌, ◌≤◌, ℤ, pos, ◌+ℤ◌, ◌-ℤ◌, ◌≤ℤ◌, ◌<ℤ◌, ◌↔◌, IsTrue, List, [], ◌∷◌, ◌++◌, All, length, take, get_or, subst, sym, arith}
use Rattle.std.proofs.lemmas.Int.{ints}
use Rattle.std.proofs.lemmas.List.{take_more}
use Rattle.std.proofs.lemmas.List.Elements.{All-nil, All-cons, All-append, All-weaker}
use lib.Signed.{lt_z, le_z}
use Rattle.venue_types.specs.declared.point.Point.{Point}
use Rattle.plane_trees.specs.declared.octagons.Band.{Band}
use Rattle.plane_trees.specs.declared.octagons.Octagon.{Octagon}
use Rattle.plane_trees.specs.declared.octagons.Offset.{Offset}
use Rattle.plane_trees.specs.Line.{Direction}
use Rattle.plane_trees.specs.Octagons.{offset, kept, IsOffset, band, IsInBand, IsAtBand, IsRound}
use Rattle.plane_exact.proofs.SegmentLemmas.{le_test, iff_along}

pub at_band : (range : Band) (n m g : ℤ) (t : ℕ) → m ≡ n -ℤ pos t → g ≡ range.greatest → range.least ≤ℤ (n +ℤ pos t) → IsTrue (le_z m g) ↔ IsAtBand range n t
at_band range n m g t e f least = iff_along (le_test m g (n -ℤ pos t) range.greatest e f) (λ h. record { least = least; greatest = h }, λ h. h.greatest)

-- ---- octagons round points

pub IsRound-wider : (one other : Octagon) (origin : Point) (points : List Point) → ((way : Direction) (m : ℤ) → IsInBand (band way one) m → IsInBand (band way other) m) → IsRound one origin points → IsRound other origin points
IsRound-wider one other origin points wider h way = All-weaker (λ q. IsInBand (band way one) (offset way origin q)) (λ q. IsInBand (band way other) (offset way origin q)) (λ q k. wider way (offset way origin q) k) points (h way)

IsRound-cons : (octagon : Octagon) (origin q : Point) (points : List Point) → ((way : Direction) → IsInBand (band way octagon) (offset way origin q)) → IsRound octagon origin points → IsRound octagon origin (q ∷ points)
IsRound-cons octagon origin q points here h way = All-cons (λ q. IsInBand (band way octagon) (offset way origin q)) q points (here way) (h way)

-- that of a place is round it
pub IsRound-at : (octagon : Octagon) (place : Offset) (origin q : Point) → IsOffset place origin q → ((way : Direction) → IsInBand (band way octagon) (kept way place)) → IsRound octagon origin (q ∷ [])
IsRound-at octagon place origin q e h = IsRound-cons octagon origin q [] (λ way. subst (λ (m : ℤ). IsInBand (band way octagon) m) (e way) (h way)) (λ way. All-nil (λ q. IsInBand (band way octagon) (offset way origin q)))

pub IsRound-append : (octagon : Octagon) (origin : Point) (xs ys : List Point) → IsRound octagon origin xs → IsRound octagon origin ys → IsRound octagon origin (xs ++ ys)
IsRound-append octagon origin xs ys h k way = All-append (λ q. IsInBand (band way octagon) (offset way origin q)) xs ys (h way) (k way)

-- one more point of a line
pub IsRound-more : (one at both : Octagon) (place : Offset) (origin start : Point) (rest : List Point) (i : ℕ) (d : Point) → i < length rest → IsOffset place origin (get_or rest i d) → ((way : Direction) → IsInBand (band way at) (kept way place)) → ((way : Direction) (m : ℤ) → IsInBand (band way one) m → IsInBand (band way both) m) → ((way : Direction) (m : ℤ) → IsInBand (band way at) m → IsInBand (band way both) m) → IsRound one origin (start ∷ take i rest) → IsRound both origin (start ∷ take (i + 1) rest)
IsRound-more one at both place origin start rest i d within e here first second h =
    let front = IsRound-wider one both origin (start ∷ take i rest) first h in
    let last = IsRound-wider at both origin (get_or rest i d ∷ []) second (IsRound-at at place origin (get_or rest i d) e here) in
    subst (λ (xs : List Point). IsRound both origin (start ∷ xs)) (sym (take_more rest i d within)) (IsRound-append both origin (start ∷ take i rest) (get_or rest i d ∷ []) front last)
