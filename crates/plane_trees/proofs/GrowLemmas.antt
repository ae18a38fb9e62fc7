-- The tree that is grown of two halves.
use Rattle.std.proofs.Common.{◌≡◌, ℕ, zero, suc, ◌+◌, ◌/◌, ℤ, List, [], ◌∷◌, ◌++◌, length, take, drop, set, Contains, length-append, append_assoc, All, refl, sym, ap, ap₂, subst, ◌∙◌, arith}
use Rattle.std.proofs.Math.Seq.{take-append_seam, drop-append_seam}
use Rattle.std.proofs.lemmas.List.Elements.{All-tail}
use Rattle.venue_types.specs.declared.point.Point.{Point}
use Rattle.plane_trees.specs.declared.octagons.Octagon.{Octagon}
use Rattle.plane_exact.specs.Figure.{AllNearby}
use Rattle.plane_trees.specs.Line.{Direction, last_from}
use Rattle.plane_trees.specs.Octagons.{offset, band, IsInBand, IsRound}
use Rattle.plane_trees.specs.Trees.{IsTree, AddsTree, octagons_of}
use Rattle.plane_exact.proofs.NearbyLemmas.{AllNearby-fewer}
use Rattle.plane_trees.proofs.OctagonLemmas.{IsRound-wider, IsRound-append}

-- ---- halves of joined lists

half_twice : (n : ℕ) → (n + n) / 2 ≡ n
half_twice n = omega arith

half_length : {X : Type 0} (l r : List X) → length l ≡ length r → length (l ++ r) / 2 ≡ length l
half_length l r e = ap (λ n. n / 2) (length-append l r ∙ ap (λ n. length l + n) (sym e)) ∙ half_twice (length l)

pub take_half : {X : Type 0} (l r : List X) → length l ≡ length r → take (length (l ++ r) / 2) (l ++ r) ≡ l
take_half l r e = ap (λ n. take n (l ++ r)) (half_length l r e) ∙ take-append_seam l r

pub drop_half : {X : Type 0} (l r : List X) → length l ≡ length r → drop (length (l ++ r) / 2) (l ++ r) ≡ r
drop_half l r e = ap (λ n. drop n (l ++ r)) (half_length l r e) ∙ drop-append_seam l r

-- the place that was kept free is written
pub written : {X : Type 0} (old l r : List X) (free x : X) → set (((old ++ free ∷ []) ++ l) ++ r) (length old) x ≡ old ++ (x ∷ (l ++ r))
written [] l r free x = refl
written (y ∷ old) l r free x = ap (λ xs. y ∷ xs) (written old l r free x)

-- ---- trees

pub leaf_tree : (depth : ℕ) (origin start : Point) (rest : List Point) (octagon : Octagon) (old new : List Octagon) → depth ≡ 0 → IsRound octagon origin (start ∷ rest) → new ≡ old ++ octagon ∷ [] → AddsTree depth origin start rest old new
unfolding IsTree
leaf_tree zero origin start rest octagon old new e round f = (octagon ∷ [], f, refl, round)
leaf_tree (suc depth) origin start rest octagon old new e round f = absurd (omega (arith, e))

tree_of_halves : (before : ℕ) (origin start : Point) (rest : List Point) (octagon : Octagon) (l r : List Octagon) → length l ≡ octagons_of before → length r ≡ octagons_of before → IsRound octagon origin (start ∷ rest) → IsTree before origin l start (take (length rest / 2) rest) → IsTree before origin r (last_from start (take (length rest / 2) rest)) (drop (length rest / 2) rest) → IsTree (suc before) origin (octagon ∷ (l ++ r)) start rest
unfolding IsTree
tree_of_halves before origin start rest octagon l r m n round h k =
    let same : length l ≡ length r = m ∙ sym n in
    (round, rw (take_half l r same) h, rw (drop_half l r same) k)

grown : (before : ℕ) (origin start middle : Point) (rest front back : List Point) (octagon free : Octagon) (old first second l r : List Octagon) → first ≡ (old ++ free ∷ []) ++ l → second ≡ first ++ r → length l ≡ octagons_of before → length r ≡ octagons_of before → IsTree before origin l start front → IsTree before origin r middle back → front ≡ take (length rest / 2) rest → back ≡ drop (length rest / 2) rest → middle ≡ last_from start front → IsRound octagon origin (start ∷ rest) → AddsTree (suc before) origin start rest old (set second (length old) octagon)
grown before origin start middle rest front back octagon free old first second l r e f m n h k a b c round = (
  octagon ∷ (l ++ r),
  ap (λ (xs : List Octagon). set xs (length old) octagon) (f ∙ ap (λ xs. xs ++ r) e) ∙ written old l r free octagon,
  ap suc (length-append l r ∙ ap₂ (λ (i j : ℕ). i + j) m n),
  tree_of_halves before origin start rest octagon l r m n round (subst (λ (xs : List Point). IsTree before origin l start xs) a h) (subst (λ (q : Point). IsTree before origin r q (drop (length rest / 2) rest)) (c ∙ ap (last_from start) a) (subst (λ (xs : List Point). IsTree before origin r middle xs) b k)),
)

pub join_tree : (depth before place : ℕ) (origin start middle : Point) (rest front back : List Point) (octagon free : Octagon) (old pushed first second : List Octagon) → depth ≡ suc before → place ≡ length old → pushed ≡ old ++ free ∷ [] → AddsTree before origin start front pushed first → AddsTree before origin middle back first second → front ≡ take (length rest / 2) rest → back ≡ drop (length rest / 2) rest → middle ≡ last_from start front → IsRound octagon origin (start ∷ rest) → AddsTree depth origin start rest old (set second place octagon)
join_tree depth before place origin start middle rest front back octagon free old pushed first second e p q (l, e1, n1, t1) (r, e2, n2, t2) a b c round =
    let whole = grown before origin start middle rest front back octagon free old first second l r (e1 ∙ ap (λ xs. xs ++ l) q) e2 n1 n2 t1 t2 a b c round in
    subst (λ (n : ℕ). AddsTree n origin start rest old (set second place octagon)) (sym e) (subst (λ (n : ℕ). AddsTree (suc before) origin start rest old (set second n octagon)) (sym p) whole)

pub join_round : (one other both : Octagon) (origin start middle : Point) (rest front back : List Point) → rest ≡ front ++ back → ((way : Direction) (m : ℤ) → IsInBand (band way one) m → IsInBand (band way both) m) → ((way : Direction) (m : ℤ) → IsInBand (band way other) m → IsInBand (band way both) m) → IsRound one origin (start ∷ front) → IsRound other origin (middle ∷ back) → IsRound both origin (start ∷ rest)
join_round one other both origin start middle rest front back e first second h k =
    let rear : IsRound both origin back = λ way. All-tail (λ q. IsInBand (band way both) (offset way origin q)) middle back (IsRound-wider other both origin (middle ∷ back) second k way) in
    subst (λ (xs : List Point). IsRound both origin (start ∷ xs)) (sym e) (IsRound-append both origin (start ∷ front) back (IsRound-wider one both origin (start ∷ front) first h) rear)

-- the line's start as its origin
once_more : (start q : Point) (rest : List Point) → Contains (start ∷ start ∷ rest) q → Contains (start ∷ rest) q
once_more start q rest (zero, within, at) = (0, omega arith, at)
once_more start q rest (suc k, within, at) = (k, omega arith, at)

pub own_origin : (start : Point) (rest : List Point) → AllNearby (start ∷ rest) → AllNearby (start ∷ start ∷ rest)
own_origin start rest h = AllNearby-fewer (start ∷ start ∷ rest) (start ∷ rest) (λ q. once_more start q rest) h

pub whole_tree : (depth : ℕ) (origin start : Point) (rest : List Point) (old new : List Octagon) → old ≡ [] → AddsTree depth origin start rest old new → IsTree depth origin new start rest
whole_tree depth origin start rest old new e (added, f, n, h) = subst (λ (xs : List Octagon). IsTree depth origin xs start rest) (sym (f ∙ ap (λ xs. xs ++ added) e)) h
