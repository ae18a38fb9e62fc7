-- A walk along a ring that passes over equal neighbours finds the corners of the ring.
use Rattle.std.proofs.Common.{◌≡◌, ℕ, zero, suc, ◌+◌, ◌-◌, ◌<◌, ◌≤◌, ℤ, pos, ◌-ℤ◌, ◌*ℤ◌, Bool, true, false, not, cond, List, [], ◌∷◌, ◌++◌, length, take, drop, get_or, Contains, refl, ap, sym, ◌∙◌, subst, append_assoc, append-nil, arith}
use mir.Val.{bool_byte}
use Rattle.std.specs.Prelude.{int_lt}
use Rattle.std.specs.List.{dedup, dedup_from}
use Rattle.std.proofs.lemmas.Int.{ints}
use Rattle.std.proofs.lemmas.Bool.{true≢false}
use Rattle.std.proofs.lemmas.Bool.Decides.{Decides-and, Decides-int_eq}
use Rattle.std.proofs.lemmas.List.{take_more, drop_all}
use Rattle.venue_types.specs.declared.point.Point.{Point}
use Rattle.venue_types.specs.declared.point.Ring.{Ring}
use Rattle.plane_exact.specs.Plane.{IsNearby, side}
use Rattle.plane_exact.specs.Figure.{AllNearby}
use Rattle.plane_exact.specs.Corners.{is_corner, is_same, turns_from, turns_round, last_but_one, point_before, before_last, line_corners, ring_corners}
use Rattle.plane_exact.proofs.ListLemmas.{drop_at}
use Rattle.plane_exact.proofs.PolynomialLemmas.{rep, rep-pos, rep-sub, rep-mul, rep-same}
use Rattle.plane_exact.proofs.NearbyLemmas.{AllNearby-fewer, AllNearby-origin, Contains-later, with_origin}
use Rattle.plane_exact.proofs.TurnLemmas.{found, found_first}

-- ---- equal points

pub same_point : (p q : Point) → is_same p q ≡ true → p ≡ q
same_point p q e =
    let (x, y) = (Decides-and _ _ (Decides-int_eq p.x q.x) (Decides-int_eq p.y q.y)).0 e in
    let make : ℤ → ℤ → Point = λ a b. record { x = a; y = b } in
    ap (λ a. make a p.y) x ∙ ap (λ b. make q.x b) y

same_self : (p : Point) → is_same p p ≡ true
same_self p = (Decides-and _ _ (Decides-int_eq p.x p.x) (Decides-int_eq p.y p.y)).1 (refl, refl)

flat : (u v : ℤ) → (u *ℤ v) -ℤ (v *ℤ u) ≡ pos 0
flat u v = rep-same (rep-sub (rep-mul (rep u) (rep v)) (rep-mul (rep v) (rep u))) (rep-pos 0) (omega arith)

flat_side : (a b : Point) → side a b b ≡ pos 0
unfolding side
flat_side a b = flat (b.x -ℤ a.x) (b.y -ℤ a.y)

none_below : (n area : ℤ) → n ≡ pos 0 → n *ℤ area ≡ pos 0
none_below n area e = rw e (omega (arith, ints))

-- between equal points one does not turn
no_turn : (area : ℤ) (a b c : Point) → c ≡ b → is_corner area (record { before = a; at = b; behind = c }) ≡ false
no_turn area a b c e = ap (λ (p : Point). int_lt (side a b p *ℤ area) (pos 0)) e ∙ ap (λ n. int_lt n (pos 0)) (none_below (side a b b) area (flat_side a b))

-- ---- the walk and the ring whose equal neighbours are taken once

-- the points of rest that differ from the one before them, that of the first being b
abbrev later : Point → List Point → List Point
later b [] = []
later b (c ∷ rest) = cond (is_same c b) (later b rest) (c ∷ later c rest)

distinct_cases : (same : Bool) (b : Point) (here there us vs : List Point) → here ≡ b ∷ us → there ≡ vs → cond same here (b ∷ there) ≡ b ∷ cond same us vs
distinct_cases true b here there us vs h k = h
distinct_cases false b here there us vs h k = ap (λ ys. b ∷ ys) k

distinct_from : (b : Point) (rest : List Point) → dedup_from is_same b rest ≡ b ∷ later b rest
distinct_from b [] = refl
distinct_from b (c ∷ rest) = distinct_cases (is_same c b) b _ _ _ _ (distinct_from b rest) (distinct_from c rest)

corners_step : (area : ℤ) (a b c : Point) (rest : List Point) (same : Bool) → is_same c b ≡ same → ((p : Point) → line_corners area p c rest ≡ found area (turns_from p c (later c rest)))
    → cond (is_corner area (record { before = a; at = b; behind = c })) (b ∷ []) [] ++ line_corners area (cond same a b) c rest ≡ found area (turns_from a b (cond same (later b rest) (c ∷ later c rest)))
corners_step area a b c rest true e h =
    ap (λ k. cond k (b ∷ []) [] ++ line_corners area a c rest) (no_turn area a b c (same_point c b e)) ∙ h a ∙ ap (λ p. found area (turns_from a p (later p rest))) (same_point c b e)
corners_step area a b c rest false e h =
    ap (λ ys. cond (is_corner area (record { before = a; at = b; behind = c })) (b ∷ []) [] ++ ys) (h b) ∙ sym (found_first area (record { before = a; at = b; behind = c }) (turns_from b c (later c rest)))

line_as_turns : (area : ℤ) (a b : Point) (rest : List Point) → line_corners area a b rest ≡ found area (turns_from a b (later b rest))
line_as_turns area a b [] = refl
line_as_turns area a b (c ∷ rest) = corners_step area a b c rest (is_same c b) refl (λ p. line_as_turns area p c rest)

before_step : (a b c : Point) (rest : List Point) (same : Bool) → is_same c b ≡ same → ((p : Point) → last_but_one p c (later c rest) ≡ before_last p c rest)
    → last_but_one a b (cond same (later b rest) (c ∷ later c rest)) ≡ before_last (cond same a b) c rest
before_step a b c rest true e h = ap (λ p. last_but_one a p (later p rest)) (sym (same_point c b e)) ∙ h a
before_step a b c rest false e h = h b

before_is : (a b : Point) (rest : List Point) → last_but_one a b (later b rest) ≡ before_last a b rest
before_is a b [] = refl
before_is a b (c ∷ rest) = before_step a b c rest (is_same c b) refl (λ p. before_is p c rest)

round_any : (first : Point) (rest : List Point) → turns_round (first ∷ rest) ≡ turns_from (last_but_one first first rest) first rest
round_any first [] = refl
round_any first (b ∷ rest) = refl

-- the walk round a ring finds its corners
pub ring_walk : (area : ℤ) (ring : Ring) (first before : Point) (rest : List Point) → before ≡ before_last first first rest → first ∷ rest ≡ ring.points → line_corners area before first rest ≡ ring_corners area ring
ring_walk area ring first before rest start e =
    ap (λ p. line_corners area p first rest) start
    ∙ line_as_turns area (before_last first first rest) first rest
    ∙ ap (λ p. found area (turns_from p first (later first rest))) (sym (before_is first first rest))
    ∙ ap (λ turns. found area turns) (sym (round_any first (later first rest)))
    ∙ ap (λ points. found area (turns_round points)) (sym (distinct_from first rest))
    ∙ ap (λ points. found area (turns_round (dedup is_same points))) e

-- ---- the last but one, from behind

same_again : (a b last : Point) (line : List Point) → before_last a b (line ++ last ∷ last ∷ []) ≡ before_last a b (line ++ last ∷ [])
same_again a b last [] = ap (λ same. cond same (point_before a b last) last) (same_self last)
same_again a b last (c ∷ line) = same_again (point_before a b c) c last line

other_before : (a b p last : Point) (line : List Point) → is_same last p ≡ false → before_last a b (line ++ p ∷ last ∷ []) ≡ p
other_before a b p last [] e = ap (λ same. cond same (point_before a b p) p) e
other_before a b p last (c ∷ line) e = other_before (point_before a b c) c p last line e

either_first : (same : Bool) (first : Point) → cond same first first ≡ first
either_first true first = refl
either_first false first = refl

shorter : (line : List Point) (i k : ℕ) (p last d : Point) → i < length line → k ≡ length line - 1 - i → get_or line k d ≡ p → take (length line - i) line ++ last ∷ [] ≡ take (length line - (i + 1)) line ++ p ∷ last ∷ []
shorter line i k p last d within e at =
    let long : length line - i ≡ k + 1 = omega (arith, e, within) in
    let short : k ≡ length line - (i + 1) = omega (arith, e) in
    ap (λ n. take n line ++ last ∷ []) long ∙ ap (λ xs. xs ++ last ∷ []) (take_more line k d (omega arith)) ∙ append_assoc (take k line) (get_or line k d ∷ []) (last ∷ []) ∙ ap (λ q. take k line ++ q ∷ last ∷ []) at ∙ ap (λ n. take n line ++ p ∷ last ∷ []) short

pub back_step : (first last total d : Point) (line : List Point) (i k : ℕ) → i < length line → k ≡ length line - 1 - i → get_or line k d ≡ last
    → before_last first first (take (length line - i) line ++ last ∷ []) ≡ total → before_last first first (take (length line - (i + 1)) line ++ last ∷ []) ≡ total
back_step first last total d line i k within e at h =
    sym (same_again first first last (take (length line - (i + 1)) line)) ∙ ap (λ xs. before_last first first xs) (sym (shorter line i k last last d within e at)) ∙ h

pub back_found : (first last total p d : Point) (line : List Point) (i k : ℕ) → i < length line → k ≡ length line - 1 - i → get_or line k d ≡ p → is_same last p ≡ false
    → before_last first first (take (length line - i) line ++ last ∷ []) ≡ total → p ≡ total
back_found first last total p d line i k within e at differs h =
    sym (other_before first first p last (take (length line - (i + 1)) line) differs) ∙ ap (λ xs. before_last first first xs) (sym (shorter line i k p last d within e at)) ∙ h

pub told_other : (told same : Bool) → told ≡ not same → told ≡ true → same ≡ false
told_other told true e h = absurd (true≢false (sym h ∙ e))
told_other told false e h = refl

pub told_same : (told same : Bool) → told ≡ not same → told ≡ false → same ≡ true
told_same told true e h = refl
told_same told false e h = absurd (true≢false (sym e ∙ h))

pub back_none : (first last total : Point) (line : List Point) (i : ℕ) → length line ≤ i → before_last first first (take (length line - i) line ++ last ∷ []) ≡ total → first ≡ total
back_none first last total line i end h =
    let none : length line - i ≡ 0 = omega (arith, end) in
    sym (either_first (is_same last first) first) ∙ ap (λ n. before_last first first (take n line ++ last ∷ [])) (sym none) ∙ h

-- ---- which points are near on the walk

-- c and what lies behind it are nearby, whether one comes from a or b
among_before : (same : Bool) (a b x : Point) (rest : List Point) → Contains (cond same a b ∷ rest) x → Contains (a ∷ b ∷ rest) x
among_before true a b x rest (zero, within, at) = (0, omega arith, at)
among_before true a b x rest (suc k, within, at) = (suc (suc k), omega arith, at)
among_before false a b x rest h = Contains-later x a (b ∷ rest) h

before_among : (a b : Point) (rest : List Point) → Contains (a ∷ b ∷ rest) (before_last a b rest)
before_among a b [] = (0, omega arith, refl)
before_among a b (c ∷ rest) = among_before (is_same c b) a b (before_last (point_before a b c) c rest) (c ∷ rest) (before_among (point_before a b c) c rest)

pub ring_near : (first : Point) (rest : List Point) → AllNearby (first ∷ rest) → AllNearby (before_last first first rest ∷ first ∷ rest)
ring_near first rest h = AllNearby-origin _ (first ∷ rest) (with_origin first (before_last first first rest) (first ∷ rest) (0, omega arith, refl) (before_among first first rest)) h

along : (a b : Point) (rest : List Point) (i : ℕ) (d : Point) → i < length rest → AllNearby (a ∷ b ∷ drop i rest) → AllNearby (a ∷ b ∷ get_or rest i d ∷ drop (i + 1) rest)
along a b rest i d within h = let P : List Point → Type 0 = λ xs. AllNearby (a ∷ b ∷ xs) in subst P (drop_at rest i (get_or rest i d) d within refl) h

pub line_step : (a b next : Point) (rest : List Point) (i : ℕ) (d : Point) → i < length rest → next ≡ point_before a b (get_or rest i d) → AllNearby (a ∷ b ∷ drop i rest) → AllNearby (next ∷ get_or rest i d ∷ drop (i + 1) rest)
line_step a b next rest i d within step h =
    let after = get_or rest i d ∷ drop (i + 1) rest in
    subst (λ (p : Point). AllNearby (p ∷ after)) (sym step) (AllNearby-fewer _ (a ∷ b ∷ after) (λ x. among_before (is_same (get_or rest i d) b) a b x after) (along a b rest i d within h))

pub line_turn : (a b : Point) (rest : List Point) (i : ℕ) (d : Point) → i < length rest → AllNearby (a ∷ b ∷ drop i rest) → IsNearby a (get_or rest i d)
line_turn a b rest i d within h = (along a b rest i d within h).near a (get_or rest i d) (0, omega arith, refl) (2, omega arith, refl)

-- ---- along a line

line_at : (area : ℤ) (a b : Point) (rest : List Point) (i : ℕ) (d : Point) (holds : Bool) → i < length rest → holds ≡ is_corner area (record { before = a; at = b; behind = get_or rest i d })
    → cond holds (b ∷ []) [] ++ line_corners area (point_before a b (get_or rest i d)) (get_or rest i d) (drop (i + 1) rest) ≡ line_corners area a b (drop i rest)
line_at area a b rest i d holds within same =
    let c = get_or rest i d in
    ap (λ k. cond k (b ∷ []) [] ++ line_corners area (point_before a b c) c (drop (i + 1) rest)) same ∙ ap (λ ys. line_corners area a b ys) (sym (drop_at rest i c d within refl))

-- one turn further
pub turn_step : (area : ℤ) (list new all : List Point) (a b next : Point) (rest : List Point) (i : ℕ) (d : Point) (holds : Bool) → i < length rest → holds ≡ is_corner area (record { before = a; at = b; behind = get_or rest i d })
    → next ≡ point_before a b (get_or rest i d) → new ≡ list ++ cond holds (b ∷ []) [] → list ++ line_corners area a b (drop i rest) ≡ all → new ++ line_corners area next (get_or rest i d) (drop (i + 1) rest) ≡ all
turn_step area list new all a b next rest i d holds within same step e h =
    let c = get_or rest i d in
    let after = line_corners area (point_before a b c) c (drop (i + 1) rest) in
    ap (λ p. new ++ line_corners area p c (drop (i + 1) rest)) step ∙ ap (λ ys. ys ++ after) e ∙ append_assoc list (cond holds (b ∷ []) []) after ∙ ap (λ ys. list ++ ys) (line_at area a b rest i d holds within same) ∙ h

-- at its end
pub line_done : (area : ℤ) (list all : List Point) (a b : Point) (rest : List Point) (i : ℕ) → length rest ≤ i → list ++ line_corners area a b (drop i rest) ≡ all → list ≡ all
line_done area list all a b rest i end h = sym (append-nil list) ∙ ap (λ ys. list ++ line_corners area a b ys) (sym (drop_all i rest end)) ∙ h

one_if : (holds : Bool) (b : Point) (list : List Point) → length (cond holds (b ∷ []) [] ++ list) ≡ bool_byte holds + length list
one_if true b list = omega arith
one_if false b list = omega arith

-- the same, counted
pub count_turn : (area : ℤ) (count all : ℕ) (a b next : Point) (rest : List Point) (i : ℕ) (d : Point) (holds : Bool) → i < length rest → holds ≡ is_corner area (record { before = a; at = b; behind = get_or rest i d })
    → next ≡ point_before a b (get_or rest i d) → count + length (line_corners area a b (drop i rest)) ≡ all → (count + bool_byte holds) + length (line_corners area next (get_or rest i d) (drop (i + 1) rest)) ≡ all
count_turn area count all a b next rest i d holds within same step h =
    let c = get_or rest i d in
    let after = line_corners area (point_before a b c) c (drop (i + 1) rest) in
    ap (λ p. (count + bool_byte holds) + length (line_corners area p c (drop (i + 1) rest))) step ∙ omega (arith, one_if holds b after, ap (λ ys. length ys) (line_at area a b rest i d holds within same), h)
