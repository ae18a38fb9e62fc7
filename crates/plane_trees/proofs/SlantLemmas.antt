-- What a line means for the ray from a position, where all its points are to one side of it.
use Rattle.std.proofs.Common.{◌≡◌, ℕ, zero, suc, neg_ℤ, ◌+◌, ◌%◌, ℤ, pos, negsuc, ◌+ℤ◌, ◌-ℤ◌, ◌*ℤ◌, ◌≤ℤ◌, ◌<ℤ◌, Bool, true, false, not, cond, List, [], ◌∷◌, All, ◌↔◌, ◌⊎◌, inl, inr, zero-add, refl, ap, sym, ◌∙◌, subst, arith}
use Rattle.std.proofs.lemmas.Int.{ints, by_lt_z}
use Rattle.std.proofs.lemmas.List.Elements.{All-head, All-tail}
use lib.Signed.{lt_z, le_z}
use Rattle.venue_types.specs.declared.point.Point.{Point}
use Rattle.plane_exact.specs.Plane.{side}
use Rattle.plane_exact.specs.Figure.{Edge, edges, edges_from, meets_ray, crossings}
use Rattle.plane_trees.specs.Line.{slant, last_from, IsBetween, IsClosed}
use Rattle.plane_exact.proofs.PolynomialLemmas.{rep, rep-add, rep-sub, rep-mul, rep-neg, rep-same}
use Rattle.plane_exact.proofs.RayLemmas.{le_true, lt_true, le_false, lt_false, meets_up, meets_down, meets_not_up, meets_not_down}
use Rattle.plane_exact.proofs.ParityLemmas.{crossings-cons}

-- ---- signs of sums of products

positive_product : (x v : ℤ) → pos 0 <ℤ x → pos 0 <ℤ v → pos 0 <ℤ (x *ℤ v)
positive_product (pos (suc x)) (pos (suc v)) h k = omega (arith, ints)
positive_product (pos zero) v h k = absurd (omega (arith, ints, h))
positive_product (negsuc x) v h k = absurd (omega (arith, ints, h))
positive_product (pos (suc x)) (pos zero) h k = absurd (omega (arith, ints, k))
positive_product (pos (suc x)) (negsuc v) h k = absurd (omega (arith, ints, k))

product_not_negative : (y u : ℤ) → pos 0 ≤ℤ y → pos 0 ≤ℤ u → pos 0 ≤ℤ (y *ℤ u)
product_not_negative (pos y) (pos u) h k = omega (arith, ints)
product_not_negative (negsuc y) u h k = absurd (omega (arith, ints, h))
product_not_negative (pos y) (negsuc u) h k = absurd (omega (arith, ints, k))

positive_sum : (m n : ℤ) → pos 0 ≤ℤ m → pos 0 <ℤ n → pos 0 <ℤ (m +ℤ n)
positive_sum m n h k = omega (arith, ints)

turned_product : (x v : ℤ) → neg_ℤ x *ℤ v ≡ neg_ℤ (x *ℤ v)
turned_product x v = rep-same (rep-mul (rep-neg (rep x)) (rep v)) (rep-neg (rep-mul (rep x) (rep v))) (omega arith)

product_turned : (x v : ℤ) → x *ℤ neg_ℤ v ≡ neg_ℤ (x *ℤ v)
product_turned x v = rep-same (rep-mul (rep x) (rep-neg (rep v))) (rep-neg (rep-mul (rep x) (rep v))) (omega arith)

-- the sign of y * u + x * v, where x and y have one sign and u and v too
sum_above : (x y u v : ℤ) → pos 0 <ℤ x → pos 0 <ℤ y → pos 0 ≤ℤ u → pos 0 <ℤ v → pos 0 <ℤ ((y *ℤ u) +ℤ (x *ℤ v))
sum_above x y u v h k l m = positive_sum _ _ (product_not_negative y u (omega (arith, ints)) l) (positive_product x v h m)

sum_below : (x y u v : ℤ) → x <ℤ pos 0 → y <ℤ pos 0 → pos 0 ≤ℤ u → pos 0 <ℤ v → ((y *ℤ u) +ℤ (x *ℤ v)) <ℤ pos 0
sum_below x y u v h k l m =
    let above : pos 0 <ℤ ((neg_ℤ y *ℤ u) +ℤ (neg_ℤ x *ℤ v)) = sum_above (neg_ℤ x) (neg_ℤ y) u v (omega (arith, ints)) (omega (arith, ints)) l m in
    let first = turned_product y u in
    let second = turned_product x v in
    omega (arith, ints)

sum_below_turned : (x y u v : ℤ) → pos 0 <ℤ x → pos 0 <ℤ y → u <ℤ pos 0 → v ≤ℤ pos 0 → ((y *ℤ u) +ℤ (x *ℤ v)) <ℤ pos 0
sum_below_turned x y u v h k l m =
    let above : pos 0 <ℤ ((x *ℤ neg_ℤ v) +ℤ (y *ℤ neg_ℤ u)) = sum_above y x (neg_ℤ v) (neg_ℤ u) k h (omega (arith, ints)) (omega (arith, ints)) in
    let first = product_turned y u in
    let second = product_turned x v in
    omega (arith, ints)

sum_above_turned : (x y u v : ℤ) → x <ℤ pos 0 → y <ℤ pos 0 → u <ℤ pos 0 → v ≤ℤ pos 0 → pos 0 <ℤ ((y *ℤ u) +ℤ (x *ℤ v))
sum_above_turned x y u v h k l m =
    let below : ((neg_ℤ y *ℤ u) +ℤ (neg_ℤ x *ℤ v)) <ℤ pos 0 = sum_below_turned (neg_ℤ x) (neg_ℤ y) u v (omega (arith, ints)) (omega (arith, ints)) l m in
    let first = turned_product y u in
    let second = turned_product x v in
    omega (arith, ints)

-- the side of p by the ways along the slant: the terms of k cancel
side_by_slant : (k ax ay bx by px py : ℤ) → ((bx -ℤ ax) *ℤ (py -ℤ ay)) -ℤ ((by -ℤ ay) *ℤ (px -ℤ ax)) ≡ (((bx -ℤ (k *ℤ by)) -ℤ (px -ℤ (k *ℤ py))) *ℤ (py -ℤ ay)) +ℤ (((ax -ℤ (k *ℤ ay)) -ℤ (px -ℤ (k *ℤ py))) *ℤ (by -ℤ py))
side_by_slant k ax ay bx by px py =
    let slanted_p = rep-sub (rep px) (rep-mul (rep k) (rep py)) in
    let slanted_a = rep-sub (rep ax) (rep-mul (rep k) (rep ay)) in
    let slanted_b = rep-sub (rep bx) (rep-mul (rep k) (rep by)) in
    rep-same
    (rep-sub (rep-mul (rep-sub (rep bx) (rep ax)) (rep-sub (rep py) (rep ay))) (rep-mul (rep-sub (rep by) (rep ay)) (rep-sub (rep px) (rep ax))))
    (rep-add (rep-mul (rep-sub slanted_b slanted_p) (rep-sub (rep py) (rep ay))) (rep-mul (rep-sub slanted_a slanted_p) (rep-sub (rep by) (rep py))))
    (omega arith)

side_slanted : (k : ℤ) (p a b : Point) → side a b p ≡ ((slant k b -ℤ slant k p) *ℤ (p.y -ℤ a.y)) +ℤ ((slant k a -ℤ slant k p) *ℤ (b.y -ℤ p.y))
unfolding side
side_slanted k p a b = side_by_slant k a.x a.y b.x b.y p.x p.y

-- ---- one edge

less_apart : (m n : ℤ) → m <ℤ n → pos 0 <ℤ (n -ℤ m)
less_apart m n h = omega (arith, ints)

more_apart : (m n : ℤ) → n <ℤ m → (n -ℤ m) <ℤ pos 0
more_apart m n h = omega (arith, ints)

at_least_apart : (m n : ℤ) → m ≤ℤ n → pos 0 ≤ℤ (n -ℤ m)
at_least_apart m n h = omega (arith, ints)

at_most_apart : (m n : ℤ) → n ≤ℤ m → (n -ℤ m) ≤ℤ pos 0
at_most_apart m n h = omega (arith, ints)

side_up_west : (k : ℤ) (p a b : Point) → slant k p <ℤ slant k a → slant k p <ℤ slant k b → a.y ≤ℤ p.y → p.y <ℤ b.y → pos 0 <ℤ side a b p
side_up_west k p a b h l m n = rw (side_slanted k p a b) (sum_above _ _ _ _ (less_apart _ _ h) (less_apart _ _ l) (at_least_apart _ _ m) (less_apart _ _ n))

side_up_east : (k : ℤ) (p a b : Point) → slant k a <ℤ slant k p → slant k b <ℤ slant k p → a.y ≤ℤ p.y → p.y <ℤ b.y → side a b p <ℤ pos 0
side_up_east k p a b h l m n = rw (side_slanted k p a b) (sum_below _ _ _ _ (more_apart _ _ h) (more_apart _ _ l) (at_least_apart _ _ m) (less_apart _ _ n))

side_down_west : (k : ℤ) (p a b : Point) → slant k p <ℤ slant k a → slant k p <ℤ slant k b → p.y <ℤ a.y → b.y ≤ℤ p.y → side a b p <ℤ pos 0
side_down_west k p a b h l m n = rw (side_slanted k p a b) (sum_below_turned _ _ _ _ (less_apart _ _ h) (less_apart _ _ l) (more_apart _ _ m) (at_most_apart _ _ n))

side_down_east : (k : ℤ) (p a b : Point) → slant k a <ℤ slant k p → slant k b <ℤ slant k p → p.y <ℤ a.y → b.y ≤ℤ p.y → pos 0 <ℤ side a b p
side_down_east k p a b h l m n = rw (side_slanted k p a b) (sum_above_turned _ _ _ _ (more_apart _ _ h) (more_apart _ _ l) (more_apart _ _ m) (at_most_apart _ _ n))

less_or_equal : (m n : ℤ) → m <ℤ n → m ≤ℤ n
less_or_equal m n h = omega (arith, ints)

pub missed_east : (k : ℤ) (p a b : Point) → slant k a <ℤ slant k p → slant k b <ℤ slant k p → meets_ray p (record { from = a; to = b }) ≡ false
missed_east k p a b h l = by_lt_z p.y a.y
    (λ above. by_lt_z p.y b.y
    (λ above_too. meets_not_down p a b above above_too)
    (λ below. sym (meets_down p a b (side a b p) above below refl) ∙ lt_false (side a b p) (pos 0) (less_or_equal _ _ (side_down_east k p a b h l above below))))
    (λ below. by_lt_z p.y b.y
    (λ above. sym (meets_up p a b (side a b p) below above refl) ∙ lt_false (pos 0) (side a b p) (less_or_equal _ _ (side_up_east k p a b h l below above)))
    (λ below_too. meets_not_up p a b below below_too))

-- 1 where a is at the height of p or below it
at_or_below : Point → Point → ℕ
at_or_below p a = cond (le_z a.y p.y) 1 0

below_counts : (p a : Point) → a.y ≤ℤ p.y → at_or_below p a ≡ 1
unfolding at_or_below
below_counts p a h = ap (λ b. cond b 1 0) (le_true a.y p.y h)

above_counts_not : (p a : Point) → p.y <ℤ a.y → at_or_below p a ≡ 0
unfolding at_or_below
above_counts_not p a h = ap (λ b. cond b 1 0) (le_false a.y p.y h)

met_west : (k : ℤ) (p a b : Point) → slant k p <ℤ slant k a → slant k p <ℤ slant k b → cond (meets_ray p (record { from = a; to = b })) 1 0 % 2 ≡ (at_or_below p a + at_or_below p b) % 2
met_west k p a b h l = by_lt_z p.y a.y
    (λ above. by_lt_z p.y b.y
    (λ above_too. rw (meets_not_down p a b above above_too, above_counts_not p a above, above_counts_not p b above_too) refl)
    (λ below. rw (sym (meets_down p a b (side a b p) above below refl) ∙ lt_true (side a b p) (pos 0) (side_down_west k p a b h l above below), above_counts_not p a above, below_counts p b below) refl))
    (λ below. by_lt_z p.y b.y
    (λ above. rw (sym (meets_up p a b (side a b p) below above refl) ∙ lt_true (pos 0) (side a b p) (side_up_west k p a b h l below above), below_counts p a below, above_counts_not p b above) refl)
    (λ below_too. rw (meets_not_up p a b below below_too, below_counts p a below, below_counts p b below_too) refl))

-- ---- a line

pub missed_line : (p a : Point) (rest : List Point) (P : Point → Type 0) → ((x y : Point) → P x → P y → meets_ray p (record { from = x; to = y }) ≡ false) → All P (a ∷ rest) → crossings p (edges_from a rest) ≡ 0
missed_line p a [] P missed all = refl
missed_line p a (b ∷ rest) P missed all =
    let tail = All-tail P a (b ∷ rest) all in
    crossings-cons p (record { from = a; to = b }) (edges_from b rest) false (missed a b (All-head P a (b ∷ rest) all) (All-head P b rest tail)) ∙ ap (λ n. 0 + n) (missed_line p b rest P missed tail)

telescope : (m n a b c : ℕ) → m % 2 ≡ (a + b) % 2 → n % 2 ≡ (b + c) % 2 → (m + n) % 2 ≡ (a + c) % 2
telescope m n a b c h k = omega arith

line_west : (k : ℤ) (p a : Point) (rest : List Point) → All (λ q. slant k p <ℤ slant k q) (a ∷ rest) → crossings p (edges_from a rest) % 2 ≡ (at_or_below p a + at_or_below p (last_from a rest)) % 2
line_west k p a [] all = twice (at_or_below p a) where
  twice : (n : ℕ) → 0 % 2 ≡ (n + n) % 2
  twice n = omega arith
line_west k p a (b ∷ rest) all =
    let P : Point → Type 0 = λ q. slant k p <ℤ slant k q in
    let tail = All-tail P a (b ∷ rest) all in
    rw (crossings-cons p (record { from = a; to = b }) (edges_from b rest) (meets_ray p (record { from = a; to = b })) refl)
    (telescope _ _ (at_or_below p a) (at_or_below p b) _ (met_west k p a b (All-head P a (b ∷ rest) all) (All-head P b rest tail)) (line_west k p b rest tail))

odd_between : (p a b : Point) → ((at_or_below p a + at_or_below p b) % 2 ≡ 1) ↔ IsBetween p a b
odd_between p a b = by_lt_z p.y a.y
    (λ above. by_lt_z p.y b.y
    (λ above_too. rw (above_counts_not p a above, above_counts_not p b above_too) (λ odd. absurd (omega (arith, odd)), λ between. elim between [ inl x ↦ absurd (omega (arith, ints, x.0)) | inr x ↦ absurd (omega (arith, ints, x.0)) ]))
    (λ below. rw (above_counts_not p a above, below_counts p b below) (λ _. inr (below, above), λ _. refl)))
    (λ below. by_lt_z p.y b.y
    (λ above. rw (below_counts p a below, above_counts_not p b above) (λ _. inl (below, above), λ _. refl))
    (λ below_too. rw (below_counts p a below, below_counts p b below_too) (λ odd. absurd (omega (arith, odd)), λ between. elim between [ inl x ↦ absurd (omega (arith, ints, x.1)) | inr x ↦ absurd (omega (arith, ints, x.1)) ])))

pub ray_west : (k : ℤ) (p a : Point) (rest : List Point) → All (λ q. slant k p <ℤ slant k q) (a ∷ rest) → (crossings p (edges_from a rest) % 2 ≡ 1) ↔ IsBetween p a (last_from a rest)
ray_west k p a rest all = rw (line_west k p a rest all) (odd_between p a (last_from a rest))

pub ray_closed : (k : ℤ) (p : Point) (points : List Point) → IsClosed points → All (λ q. slant k p <ℤ slant k q) points → crossings p (edges points) % 2 ≡ 0
ray_closed k p [] closed all = refl
ray_closed k p (a ∷ rest) closed all = line_west k p a rest all ∙ ap (λ q. (at_or_below p a + at_or_below p q) % 2) closed ∙ twice (at_or_below p a) where
  twice : (n : ℕ) → (n + n) % 2 ≡ 0
  twice n = omega arith
