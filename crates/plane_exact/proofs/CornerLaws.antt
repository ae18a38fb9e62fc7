-- What areas and corners mean: the area of a closed ring is the same from any origin, and the corners are the turns against it.
use Rattle.std.proofs.Common.{◌≡◌, zero, suc, ℤ, pos, ◌+ℤ◌, ◌-ℤ◌, Bool, true, false, cond, List, [], ◌∷◌, ◌++◌, All, Contains, inl, inr, refl, ap, ap₂, sym, ◌∙◌, subst, arith}
use Rattle.std.proofs.lemmas.Bool.{false≢true}
use Rattle.std.proofs.lemmas.Int.{ints}
use Rattle.std.proofs.lemmas.List.Elements.{All-head, All-tail, Contains-append_left, Contains-append_right, Contains-append_cases}
use Rattle.venue_types.specs.declared.point.Point.{Point}
use Rattle.plane_exact.specs.Plane.{side}
use Rattle.plane_exact.specs.Figure.{edges_from}
use Rattle.plane_exact.specs.Corners.{Turn, IsCorner, is_corner, cross_sum}
use Rattle.plane_exact.proofs.PolynomialLemmas.{rep, rep-add, rep-sub, rep-mul, rep-same, cross}
use Rattle.plane_exact.proofs.SegmentLemmas.{lt_decides}
use Rattle.plane_exact.proofs.TurnLemmas.{found, found_first}

-- ---- areas

-- the triangles of an edge with two origins differ by those of its ends with both
moved_products : (ox oy fx fy ax ay bx by : ℤ) → cross (ax -ℤ ox) (ay -ℤ oy) (bx -ℤ ox) (by -ℤ oy) +ℤ cross (fx -ℤ ox) (fy -ℤ oy) (ax -ℤ ox) (ay -ℤ oy) ≡ cross (ax -ℤ fx) (ay -ℤ fy) (bx -ℤ fx) (by -ℤ fy) +ℤ cross (fx -ℤ ox) (fy -ℤ oy) (bx -ℤ ox) (by -ℤ oy)
moved_products ox oy fx fy ax ay bx by =
    let step = λ (to from : ℤ). rep-sub (rep to) (rep from) in
    let a = rep-sub (rep-mul (step ax ox) (step by oy)) (rep-mul (step ay oy) (step bx ox)) in
    let b = rep-sub (rep-mul (step fx ox) (step ay oy)) (rep-mul (step fy oy) (step ax ox)) in
    let c = rep-sub (rep-mul (step ax fx) (step by fy)) (rep-mul (step ay fy) (step bx fx)) in
    let d = rep-sub (rep-mul (step fx ox) (step by oy)) (rep-mul (step fy oy) (step bx ox)) in
    rep-same (rep-add a b) (rep-add c d) (omega arith)

moved_edge : (o f a b : Point) → side o a b +ℤ side o f a ≡ side f a b +ℤ side o f b
unfolding side
moved_edge o f a b = moved_products o.x o.y f.x f.y a.x a.y b.x b.y

first_edge : (here there from to : ℤ) → here +ℤ from ≡ there +ℤ to → (here +ℤ pos 0) +ℤ from ≡ (there +ℤ pos 0) +ℤ to
first_edge here there from to e = omega (arith, ints, e)

next_edge : (here there from to rest_here rest_there end : ℤ) → here +ℤ from ≡ there +ℤ to → rest_here +ℤ to ≡ rest_there +ℤ end → (here +ℤ rest_here) +ℤ from ≡ (there +ℤ rest_there) +ℤ end
next_edge here there from to rest_here rest_there end e h = omega (arith, ints, e, h)

moved_line : (o f a : Point) (between : List Point) → cross_sum o (edges_from a (between ++ f ∷ [])) +ℤ side o f a ≡ cross_sum f (edges_from a (between ++ f ∷ [])) +ℤ side o f f
moved_line o f a [] = first_edge (side o a f) (side f a f) (side o f a) (side o f f) (moved_edge o f a f)
moved_line o f a (b ∷ between) = next_edge (side o a b) (side f a b) (side o f a) (side o f b) _ _ (side o f f) (moved_edge o f a b) (moved_line o f b between)

cancelled : (m n k : ℤ) → m +ℤ k ≡ n +ℤ k → m ≡ n
cancelled m n k e = omega (arith, ints, e)

pub area_from_any : (o f : Point) (between : List Point) → cross_sum o (edges_from f (between ++ f ∷ [])) ≡ cross_sum f (edges_from f (between ++ f ∷ []))
area_from_any o f between = cancelled _ _ (side o f f) (moved_line o f f between)

-- ---- corners

-- v is where one of the turns goes against the area
abbrev pub IsAtCorner : ℤ → List Turn → Point → Type 0
IsAtCorner area list v = (turn : Turn) × Contains list turn × IsCorner area turn × (turn.at ≡ v)

among_more : (area : ℤ) (turn : Turn) (list : List Turn) (v : Point) → IsAtCorner area list v → IsAtCorner area (turn ∷ list) v
among_more area turn list v (other, (k, within, there), corner, is) = (other, (suc k, omega arith, there), corner, is)

kept_where : (b : Bool) (x v : Point) → Contains (cond b (x ∷ []) []) v → (b ≡ true) × (x ≡ v)
kept_where true x v (zero, within, there) = (refl, there)
kept_where true x v (suc k, within, there) = absurd (omega (arith, within))
kept_where false x v (k, within, there) = absurd (omega (arith, within))

pub corner_of : (area : ℤ) (list : List Turn) (v : Point) → Contains (found area list) v → IsAtCorner area list v
corner_of area [] v (k, within, there) = absurd (omega (arith, within))
corner_of area (turn ∷ list) v h =
    let kept = cond (is_corner area turn) (turn.at ∷ []) [] in
    elim (Contains-append_cases kept (found area list) v (subst (λ (xs : List Point). Contains xs v) (found_first area turn list) h)) [
      | inl here ↦ let (corner, is) = kept_where (is_corner area turn) turn.at v here in (turn, (0, omega arith, refl), (lt_decides _ _).0 corner, is)
      | inr later ↦ among_more area turn list v (corner_of area list v later)
    ]

kept_at : (b : Bool) (x v : Point) → b ≡ true → x ≡ v → Contains (cond b (x ∷ []) []) v
kept_at true x v holds is = (0, omega arith, is)
kept_at false x v holds is = absurd (false≢true holds)

pub from_corner : (area : ℤ) (list : List Turn) (v : Point) → IsAtCorner area list v → Contains (found area list) v
from_corner area [] v (turn, (k, within, there), corner, is) = absurd (omega (arith, within))
from_corner area (first ∷ list) v (turn, (zero, within, there), corner, is) =
    let kept = cond (is_corner area first) (first.at ∷ []) [] in
    let holds : is_corner area first ≡ true = subst (λ (t : Turn). is_corner area t ≡ true) (sym there) ((lt_decides _ _).1 corner) in
    let has = Contains-append_left kept (found area list) v (kept_at (is_corner area first) first.at v holds (ap (λ (t : Turn). t.at) there ∙ is)) in
    subst (λ (xs : List Point). Contains xs v) (sym (found_first area first list)) has
from_corner area (first ∷ list) v (turn, (suc k, within, there), corner, is) =
    let kept = cond (is_corner area first) (first.at ∷ []) [] in
    let has = Contains-append_right kept (found area list) v (from_corner area list v (turn, (k, omega arith, there), corner, is)) in
    subst (λ (xs : List Point). Contains xs v) (sym (found_first area first list)) has

not_true : (b : Bool) → ¬ (b ≡ true) → b ≡ false
not_true true h = absurd (h refl)
not_true false h = refl

pub no_corner : (area : ℤ) (list : List Turn) → All (λ turn. ¬ IsCorner area turn) list → found area list ≡ []
no_corner area [] none = refl
no_corner area (turn ∷ list) none =
    let never = All-head (λ turn. ¬ IsCorner area turn) turn list none in
    let not_here = not_true (is_corner area turn) (λ holds. never ((lt_decides _ _).0 holds)) in
    found_first area turn list ∙ ap₂ (λ (b : Bool) (ys : List Point). cond b (turn.at ∷ []) [] ++ ys) not_here (no_corner area list (All-tail (λ turn. ¬ IsCorner area turn) turn list none))
