-- How far entries reach, and the tree that is grown of two halves.
use Rattle.std.proofs.Common.{◌≡◌, ℕ, zero, suc, ◌+◌, ◌/◌, ◌<◌, ◌≤◌, ℤ, ◌≤ℤ◌, List, [], ◌∷◌, ◌++◌, length, take, drop, set, get_or, length-append, refl, sym, ap, ap₂, subst, ◌∙◌, arith, inl, inr}
use Rattle.std.specs.Prelude.{Contains}
use Rattle.std.proofs.lemmas.List.{take_all, take_more}
use Rattle.std.proofs.lemmas.List.Elements.{Contains-append_cases}
use Rattle.std.proofs.lemmas.Int.{ints}
use Rattle.venue_types.proofs.Items.{Contains-nil}
use Rattle.plane_trees.proofs.GrowLemmas.{take_half, drop_half, written}
use Rattle.opening_match.specs.declared.entries.Entry.{Entry}
use Rattle.opening_match.specs.declared.extents.Extent.{Extent}
use Rattle.opening_match.specs.Extents.{IsWithin, IsRound}
use Rattle.opening_match.specs.Trees.{IsTree, AddsTree, extents_of}

-- ---- extents

-- each side of the second is no nearer than that of the first
pub record IsWider (a b : Extent) : Type 0 where
  pub least : b.least.0 ≤ a.least.0
  pub greatest : a.greatest.0 ≤ b.greatest.0
  pub west : b.west ≤ℤ a.west
  pub east : a.east ≤ℤ b.east
  pub south : b.south ≤ℤ a.south
  pub north : a.north ≤ℤ b.north

through : (x y z : ℤ) → x ≤ℤ y → y ≤ℤ z → x ≤ℤ z
through x y z h k = omega (arith, ints)

climbs : (l m n : ℕ) → l ≤ m → m ≤ n → l ≤ n
climbs l m n h k = omega arith

pub within_wider : (a b : Extent) (e : Entry) → IsWider a b → IsWithin a e → IsWithin b e
within_wider a b e w h = record {
  least = climbs b.least.0 a.least.0 e.level.0 w.least h.least;
  greatest = climbs e.level.0 a.greatest.0 b.greatest.0 h.greatest w.greatest;
  box = record {
    west = through b.west a.west e.x w.west h.box.west;
    east = through e.x a.east b.east h.box.east w.east;
    south = through b.south a.south e.y w.south h.box.south;
    north = through e.y a.north b.north h.box.north w.north;
  };
}

pub round_none : (extent : Extent) → IsRound extent []
round_none extent e h = absurd (Contains-nil e h)

one_item : (d e : Entry) → Contains (d ∷ []) e → d ≡ e
one_item d e (zero, within, at) = at
one_item d e (suc k, within, at) = absurd (omega (arith, within))

pub round_more : (one at both : Extent) (es : List Entry) (i : ℕ) (d : Entry) → i < length es → IsWithin at (get_or es i d) → ((e : Entry) → IsWithin one e → IsWithin both e) → ((e : Entry) → IsWithin at e → IsWithin both e) → IsRound one (take i es) → IsRound both (take (i + 1) es)
round_more one at both es i d within here first second h e has = elim (Contains-append_cases (take i es) (get_or es i d ∷ []) e (subst (λ (xs : List Entry). Contains xs e) (take_more es i d within) has)) [
  | inl before ↦ first e (h e before)
  | inr last ↦ second e (subst (λ (x : Entry). IsWithin at x) (one_item (get_or es i d) e last) here)
]

pub round_all : (extent : Extent) (es : List Entry) (k : ℕ) → length es ≤ k → IsRound extent (take k es) → IsRound extent es
round_all extent es k past h = subst (λ (xs : List Entry). IsRound extent xs) (take_all k es past) h

pub round_joined : (one other both : Extent) (whole front back : List Entry) → whole ≡ front ++ back → ((e : Entry) → IsWithin one e → IsWithin both e) → ((e : Entry) → IsWithin other e → IsWithin both e) → IsRound one front → IsRound other back → IsRound both whole
round_joined one other both whole front back same first second h k e has = elim (Contains-append_cases front back e (subst (λ (xs : List Entry). Contains xs e) same has)) [
  | inl there ↦ first e (h e there)
  | inr later ↦ second e (k e later)
]

-- ---- the halves of a tree

tree_front : (depth before : ℕ) (extents : List Extent) (list : List Entry) → depth ≡ suc before → 1 ≤ length extents → IsTree depth extents list → IsTree before (take (length (drop 1 extents) / 2) (drop 1 extents)) (take (length list / 2) list)
unfolding IsTree
tree_front zero before extents list e some h = absurd (omega (arith, e))
tree_front (suc depth) before [] list e some h = absurd (omega (arith, some))
tree_front (suc depth) before (extent ∷ below) list e some h =
    let same : depth ≡ before = omega (arith, e) in
    subst (λ (n : ℕ). IsTree n (take (length below / 2) below) (take (length list / 2) list)) same h.1

tree_back : (depth before : ℕ) (extents : List Extent) (list : List Entry) → depth ≡ suc before → 1 ≤ length extents → IsTree depth extents list → IsTree before (drop (length (drop 1 extents) / 2) (drop 1 extents)) (drop (length list / 2) list)
unfolding IsTree
tree_back zero before extents list e some h = absurd (omega (arith, e))
tree_back (suc depth) before [] list e some h = absurd (omega (arith, some))
tree_back (suc depth) before (extent ∷ below) list e some h =
    let same : depth ≡ before = omega (arith, e) in
    subst (λ (n : ℕ). IsTree n (drop (length below / 2) below) (drop (length list / 2) list)) same h.2

pub front_tree : (depth before : ℕ) (extents first : List Extent) (list front : List Entry) → depth ≡ suc before → 1 ≤ length extents → first ≡ take (length (drop 1 extents) / 2) (drop 1 extents) → front ≡ take (length list / 2) list → IsTree depth extents list → IsTree before first front
front_tree depth before extents first list front e some f g h = rw (f, g) (tree_front depth before extents list e some h)

pub back_tree : (depth before : ℕ) (extents second : List Extent) (list back : List Entry) → depth ≡ suc before → 1 ≤ length extents → second ≡ drop (length (drop 1 extents) / 2) (drop 1 extents) → back ≡ drop (length list / 2) list → IsTree depth extents list → IsTree before second back
back_tree depth before extents second list back e some f g h = rw (f, g) (tree_back depth before extents list e some h)

-- the extent that a pattern reads
pub tree_round : (depth : ℕ) (extents : List Extent) (d : Extent) (list : List Entry) → 1 ≤ length extents → IsTree depth extents list → IsRound (get_or extents 0 d) list
unfolding IsTree
tree_round zero [] d list some h = absurd (omega (arith, some))
tree_round (suc depth) [] d list some h = absurd (omega (arith, some))
tree_round zero (extent ∷ below) d list some h = h
tree_round (suc depth) (extent ∷ below) d list some h = h.0

-- ---- growing

pub leaf_tree : (depth : ℕ) (list : List Entry) (extent : Extent) (old new : List Extent) → depth ≡ 0 → IsRound extent list → new ≡ old ++ extent ∷ [] → AddsTree depth list old new
unfolding IsTree
leaf_tree zero list extent old new e round f = (extent ∷ [], f, refl, round)
leaf_tree (suc depth) list extent old new e round f = absurd (omega (arith, e))

tree_of_halves : (before : ℕ) (list : List Entry) (extent : Extent) (l r : List Extent) → length l ≡ extents_of before → length r ≡ extents_of before → IsRound extent list → IsTree before l (take (length list / 2) list) → IsTree before r (drop (length list / 2) list) → IsTree (suc before) (extent ∷ (l ++ r)) list
unfolding IsTree
tree_of_halves before list extent l r m n round h k =
    let same : length l ≡ length r = m ∙ sym n in
    (round, rw (take_half l r same) h, rw (drop_half l r same) k)

pub join_tree : (depth before place : ℕ) (list front back : List Entry) (extent free : Extent) (old pushed first second : List Extent) → depth ≡ suc before → place ≡ length old → pushed ≡ old ++ free ∷ [] → AddsTree before front pushed first → AddsTree before back first second → front ≡ take (length list / 2) list → back ≡ drop (length list / 2) list → IsRound extent list → AddsTree depth list old (set second place extent)
join_tree depth before place list front back extent free old pushed first second e p q (l, e1, n1, t1) (r, e2, n2, t2) a b round =
    let whole : AddsTree (suc before) list old (set second (length old) extent) = (
      extent ∷ (l ++ r),
      ap (λ (xs : List Extent). set xs (length old) extent) (e2 ∙ ap (λ xs. xs ++ r) (e1 ∙ ap (λ xs. xs ++ l) q)) ∙ written old l r free extent,
      ap suc (length-append l r ∙ ap₂ (λ (i j : ℕ). i + j) n1 n2),
      tree_of_halves before list extent l r n1 n2 round (subst (λ (xs : List Entry). IsTree before l xs) a t1) (subst (λ (xs : List Entry). IsTree before r xs) b t2),
    ) in
    subst (λ (n : ℕ). AddsTree n list old (set second place extent)) (sym e) (subst (λ (n : ℕ). AddsTree (suc before) list old (set second n extent)) (sym p) whole)

pub whole_tree : (depth : ℕ) (list read : List Entry) (old new : List Extent) → read ≡ list → old ≡ [] → AddsTree depth read old new → IsTree depth new list
whole_tree depth list read old new is e (added, f, n, h) = subst (λ (xs : List Extent). IsTree depth xs list) (sym (f ∙ ap (λ xs. xs ++ added) e)) (subst (λ (ys : List Entry). IsTree depth added ys) is h)
