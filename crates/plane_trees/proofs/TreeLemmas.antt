-- The halves of a line, and the trees of octagons over them.
use Rattle.std.proofs.Common.{◌≡◌, ℕ, zero, suc, ◌-◌, ◌/◌, ◌≤◌, List, [], ◌∷◌, ◌++◌, length, take, drop, get_or, Contains, ◌⊎◌, inl, inr, refl, sym, ap, subst, ◌∙◌, arith}
use Rattle.std.proofs.lemmas.List.{take_all}
use Rattle.std.proofs.lemmas.List.Elements.{Contains-append_left, Contains-append_cases}
use Rattle.venue_types.specs.declared.point.Point.{Point}
use Rattle.plane_trees.specs.declared.octagons.Octagon.{Octagon}
use Rattle.plane_exact.specs.Figure.{Edge, edges_from}
use Rattle.plane_trees.specs.Line.{last_from}
use Rattle.plane_trees.specs.Octagons.{IsRound}
use Rattle.plane_trees.specs.Trees.{IsTree}
use Rattle.plane_exact.proofs.NearbyLemmas.{Contains-later}

-- ---- the end of a line

read_last : (a : Point) (rest : List Point) (d : Point) → get_or (a ∷ rest) (length rest) d ≡ last_from a rest
read_last a [] d = refl
read_last a (b ∷ rest) d = read_last b rest d

pub last_read : (start : Point) (rest : List Point) (d : Point) → 1 ≤ length rest → get_or rest (length rest - 1) d ≡ last_from start rest
last_read start [] d some = absurd (omega (arith, some))
last_read start (b ∷ rest) d some =
    let before : length (b ∷ rest) - 1 ≡ length rest = omega arith in
    ap (λ n. get_or (b ∷ rest) n d) before ∙ read_last b rest d

pub none_read : (start : Point) (rest : List Point) → length rest ≡ 0 → start ≡ last_from start rest
none_read start [] none = refl
none_read start (b ∷ rest) none = absurd (omega (arith, none))

last_contained : (a : Point) (rest : List Point) → Contains (a ∷ rest) (last_from a rest)
last_contained a [] = (0, omega arith, refl)
last_contained a (b ∷ rest) = Contains-later (last_from b rest) a (b ∷ rest) (last_contained b rest)

-- ---- two parts of a line

edges-append : (a : Point) (xs ys : List Point) → edges_from a (xs ++ ys) ≡ edges_from a xs ++ edges_from (last_from a xs) ys
edges-append a [] ys = refl
edges-append a (b ∷ xs) ys = ap (λ (list : List Edge). record { from = a; to = b } ∷ list) (edges-append b xs ys)

parts_edges : (a : Point) (rest xs ys : List Point) (middle : Point) → rest ≡ xs ++ ys → middle ≡ last_from a xs → edges_from a rest ≡ edges_from a xs ++ edges_from middle ys
parts_edges a rest xs ys middle e f = ap (edges_from a) e ∙ edges-append a xs ys ∙ ap (λ q. edges_from a xs ++ edges_from q ys) (sym f)

pub halves_edges : (a : Point) (rest front back : List Point) (middle : Point) → rest ≡ front ++ back → middle ≡ last_from a front → edges_from a rest ≡ edges_from a front ++ edges_from middle back
halves_edges a rest front back middle e f = parts_edges a rest front back middle e f

pub front_contained : (a q : Point) (rest front back : List Point) → rest ≡ front ++ back → Contains (a ∷ front) q → Contains (a ∷ rest) q
front_contained a q rest front back e h = subst (λ (xs : List Point). Contains (a ∷ xs) q) (sym e) (Contains-append_left (a ∷ front) back q h)

later_contained : (a q : Point) (front back : List Point) → Contains back q → Contains (a ∷ (front ++ back)) q
later_contained a q [] back h = Contains-later q a back h
later_contained a q (b ∷ front) back h = Contains-later q a (b ∷ (front ++ back)) (later_contained b q front back h)

from_middle : (a q middle : Point) (front back : List Point) → middle ≡ last_from a front → Contains (middle ∷ back) q → Contains (a ∷ (front ++ back)) q
from_middle a q middle front back e (zero, within, at) = subst (λ (x : Point). Contains (a ∷ (front ++ back)) x) (sym e ∙ at) (Contains-append_left (a ∷ front) back (last_from a front) (last_contained a front))
from_middle a q middle front back e (suc k, within, at) = later_contained a q front back (k, omega arith, at)

pub back_contained : (a q middle : Point) (rest front back : List Point) → rest ≡ front ++ back → middle ≡ last_from a front → Contains (middle ∷ back) q → Contains (a ∷ rest) q
back_contained a q middle rest front back e f h = subst (λ (xs : List Point). Contains (a ∷ xs) q) (sym e) (from_middle a q middle front back f h)

-- each point is one of the two parts'
pub parts_cover : (a q middle : Point) (rest front back : List Point) → rest ≡ front ++ back → Contains (a ∷ rest) q → Contains (a ∷ front) q ⊎ Contains (middle ∷ back) q
parts_cover a q middle rest front back e h = elim (Contains-append_cases (a ∷ front) back q (subst (λ (xs : List Point). Contains (a ∷ xs) q) e h)) [ inl k ↦ inl k | inr k ↦ inr (Contains-later q middle back k) ]

-- ---- the halves of a tree

-- the octagons of a tree lie round its line
pub tree_round : (depth : ℕ) (origin : Point) (octagon : Octagon) (below : List Octagon) (start : Point) (rest : List Point) → IsTree depth origin (octagon ∷ below) start rest → IsRound octagon origin (start ∷ rest)
unfolding IsTree
tree_round zero origin octagon below start rest h = h
tree_round (suc depth) origin octagon below start rest h = h.0

front_of : (depth before : ℕ) (origin : Point) (octagons : List Octagon) (start : Point) (rest : List Point) → depth ≡ suc before → 1 ≤ length octagons → IsTree depth origin octagons start rest → IsTree before origin (take (length (drop 1 octagons) / 2) (drop 1 octagons)) start (take (length rest / 2) rest)
unfolding IsTree
front_of zero before origin octagons start rest e some h = absurd (omega (arith, e))
front_of (suc depth) before origin [] start rest e some h = absurd (omega (arith, some))
front_of (suc depth) before origin (octagon ∷ below) start rest e some h =
    let same : depth ≡ before = omega (arith, e) in
    subst (λ (n : ℕ). IsTree n origin (take (length below / 2) below) start (take (length rest / 2) rest)) same h.1

back_of : (depth before : ℕ) (origin : Point) (octagons : List Octagon) (start : Point) (rest : List Point) → depth ≡ suc before → 1 ≤ length octagons → IsTree depth origin octagons start rest → IsTree before origin (drop (length (drop 1 octagons) / 2) (drop 1 octagons)) (last_from start (take (length rest / 2) rest)) (drop (length rest / 2) rest)
unfolding IsTree
back_of zero before origin octagons start rest e some h = absurd (omega (arith, e))
back_of (suc depth) before origin [] start rest e some h = absurd (omega (arith, some))
back_of (suc depth) before origin (octagon ∷ below) start rest e some h =
    let same : depth ≡ before = omega (arith, e) in
    subst (λ (n : ℕ). IsTree n origin (drop (length below / 2) below) (last_from start (take (length rest / 2) rest)) (drop (length rest / 2) rest)) same h.2

pub front_sound : (depth before : ℕ) (origin : Point) (octagons first : List Octagon) (start : Point) (rest front : List Point) → depth ≡ suc before → 1 ≤ length octagons → first ≡ take (length (drop 1 octagons) / 2) (drop 1 octagons) → front ≡ take (length rest / 2) rest → IsTree depth origin octagons start rest → IsTree before origin first start front
front_sound depth before origin octagons first start rest front e some f g h = rw (f, g) (front_of depth before origin octagons start rest e some h)

pub back_sound : (depth before : ℕ) (origin : Point) (octagons second : List Octagon) (start middle : Point) (rest front back : List Point) → depth ≡ suc before → 1 ≤ length octagons → second ≡ drop (length (drop 1 octagons) / 2) (drop 1 octagons) → front ≡ take (length rest / 2) rest → back ≡ drop (length rest / 2) rest → middle ≡ last_from start front → IsTree depth origin octagons start rest → IsTree before origin second middle back
back_sound depth before origin octagons second start middle rest front back e some f g i j h = rw (f, j, g, i) (back_of depth before origin octagons start rest e some h)

-- what a pattern leaves behind the first item
pub rest_read : {X : Type 0} (xs : List X) → take (length xs - 1) (drop 1 xs) ≡ drop 1 xs
rest_read [] = refl
rest_read (x ∷ xs) = let all : length xs ≤ length (x ∷ xs) - 1 = omega arith in take_all (length (x ∷ xs) - 1) xs all

-- the octagon that a pattern reads
pub first_round : (depth : ℕ) (origin : Point) (octagons : List Octagon) (d : Octagon) (start : Point) (rest : List Point) → 1 ≤ length octagons → IsTree depth origin octagons start rest → IsRound (get_or octagons 0 d) origin (start ∷ rest)
first_round depth origin [] d start rest some h = absurd (omega (arith, some))
first_round depth origin (octagon ∷ below) d start rest some h = tree_round depth origin octagon below start rest h
