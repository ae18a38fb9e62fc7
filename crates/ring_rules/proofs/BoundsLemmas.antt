-- Bounds of joined lists, and what their width says of the positions.
use Rattle.std.proofs.Common.{◌≡◌, ℕ, ◌+◌, ◌<◌, Bool, true, false, cond, ℤ, pos, neg_ℤ, ◌+ℤ◌, ◌≤ℤ◌, ◌<ℤ◌, ◌^◌, ◌-◌, ◌⊎◌, inl, inr, List, [], ◌∷◌, ◌++◌, length, get_or, take, flat_map, refl, sym, subst, ap, ◌∙◌, append_assoc, arith}
use Rattle.std.specs.Prelude.{Contains}
use Rattle.std.specs.Int.{int_min, int_max}
use Rattle.std.specs.Prelude.{int_lt}
use Rattle.std.proofs.lemmas.Int.{ints}
use Rattle.std.proofs.lemmas.List.{take_more, flat_map_more, append-nil}
use Rattle.std.proofs.lemmas.List.Elements.{Contains-append_left, Contains-append_right, Contains-append_cases}
use lib.Signed.{lt_z}
use Rattle.venue_types.specs.declared.point.Point.{Point}
use Rattle.plane_exact.specs.Plane.{IsWithin}
use Rattle.plane_exact.specs.Figure.{AllClose}
use Rattle.plane_exact.proofs.SegmentLemmas.{lt_decides}
use Rattle.ring_rules.specs.declared.bounds.Extent.{Extent}
use Rattle.ring_rules.specs.declared.bounds.Bounds.{Bounds}
use Rattle.ring_rules.specs.Bounds.{IsReached, IsExtent, AreBounds, IsWide, HaveFarPair}

-- a choice is one of the two
pub one_of : (first : Bool) (x y : ℤ) → (cond first x y ≡ x) ⊎ (cond first x y ≡ y)
one_of true x y = inl refl
one_of false x y = inr refl

pub least_of : (n x y : ℤ) → n ≡ int_min x y → (n ≡ x) ⊎ (n ≡ y)
least_of n x y e = elim (one_of (int_lt y x) y x) [ inl is ↦ inr (e ∙ is) | inr is ↦ inl (e ∙ is) ]

pub greatest_of : (n x y : ℤ) → n ≡ int_max x y → (n ≡ x) ⊎ (n ≡ y)
greatest_of n x y e = elim (one_of (int_lt y x) x y) [ inl is ↦ inl (e ∙ is) | inr is ↦ inr (e ∙ is) ]

pub true_unless : (b : Bool) → (b ≡ false → ⊥) → b ≡ true
true_unless true h = refl
true_unless false h = absurd (h refl)

reached_left : (axis : Point → ℤ) (xs ys : List Point) (n none : ℤ) → IsReached axis xs n none → IsReached axis (xs ++ ys) n none
reached_left axis xs ys n none h = elim h [ inl e ↦ inl e | inr w ↦ inr (w.0, Contains-append_left xs ys w.0 w.1, w.2) ]

reached_right : (axis : Point → ℤ) (xs ys : List Point) (n none : ℤ) → IsReached axis ys n none → IsReached axis (xs ++ ys) n none
reached_right axis xs ys n none h = elim h [ inl e ↦ inl e | inr w ↦ inr (w.0, Contains-append_right xs ys w.0 w.1, w.2) ]

reached_join : (axis : Point → ℤ) (xs ys : List Point) (n a b none : ℤ) → (n ≡ a) ⊎ (n ≡ b) → IsReached axis xs a none → IsReached axis ys b none → IsReached axis (xs ++ ys) n none
reached_join axis xs ys n a b none which h k = elim which [
  | inl e ↦ subst (λ (m : ℤ). IsReached axis (xs ++ ys) m none) (sym e) (reached_left axis xs ys a none h)
  | inr e ↦ subst (λ (m : ℤ). IsReached axis (xs ++ ys) m none) (sym e) (reached_right axis xs ys b none k)
]

-- the lesser of the least and the greater of the greatest
pub extent_join : (axis : Point → ℤ) (xs ys : List Point) (a b e : Extent)
    → (e.least ≡ a.least) ⊎ (e.least ≡ b.least) → e.least ≤ℤ a.least → e.least ≤ℤ b.least
    → (e.greatest ≡ a.greatest) ⊎ (e.greatest ≡ b.greatest) → a.greatest ≤ℤ e.greatest → b.greatest ≤ℤ e.greatest
    → IsExtent axis xs a → IsExtent axis ys b → IsExtent axis (xs ++ ys) e
extent_join axis xs ys a b e least under_a under_b greatest over_a over_b h k = record {
  above = λ p w. elim (Contains-append_cases xs ys p w) [ inl x ↦ omega (arith, ints, h.above p x) | inr y ↦ omega (arith, ints, k.above p y) ];
  below = λ p w. elim (Contains-append_cases xs ys p w) [ inl x ↦ omega (arith, ints, h.below p x) | inr y ↦ omega (arith, ints, k.below p y) ];
  least = reached_join axis xs ys e.least a.least b.least _ least h.least k.least;
  greatest = reached_join axis xs ys e.greatest a.greatest b.greatest _ greatest h.greatest k.greatest;
}

-- two positions whose numbers on the axis are far apart
record AreApart (axis : Point → ℤ) (points : List Point) : Type 0 where
  pub low : Point
  pub high : Point
  pub has_low : Contains points low
  pub has_high : Contains points high
  pub far : (axis low +ℤ pos 200000000) <ℤ axis high

apart : (axis : Point → ℤ) (points : List Point) (e : Extent) → e.greatest ≤ℤ pos (2 ^ 63 - 1) → neg_ℤ (pos (2 ^ 63)) ≤ℤ e.least → IsExtent axis points e → IsWide e → AreApart axis points
apart axis points e most fewest h wide = elim h.least [
  | inl none ↦ absurd (omega (arith, ints))
  | inr low ↦ elim h.greatest [
    | inl none ↦ absurd (omega (arith, ints))
    | inr high ↦ record { low = low.0; high = high.0; has_low = low.1; has_high = high.1; far = omega (arith, ints, low.2, high.2) }
  ]
]

-- numbers within 64 bits
pub record AreInRange (e : Extent) : Type 0 where
  pub most : e.greatest ≤ℤ pos (2 ^ 63 - 1)
  pub fewest : neg_ℤ (pos (2 ^ 63)) ≤ℤ e.least

pub spread_by_x : (points : List Point) (b : Bounds) → AreInRange b.x → AreBounds points b → IsWide b.x → HaveFarPair points
spread_by_x points b range h wide =
    let two = apart (λ (p : Point). p.x) points b.x range.most range.fewest h.x wide in
    record { one = two.low; other = two.high; has_one = two.has_low; has_other = two.has_high; apart = λ close. omega (arith, ints, two.far, close.x.below) }

pub spread_by_y : (points : List Point) (b : Bounds) → AreInRange b.y → AreBounds points b → IsWide b.y → HaveFarPair points
spread_by_y points b range h wide =
    let two = apart (λ (p : Point). p.y) points b.y range.most range.fewest h.y wide in
    record { one = two.low; other = two.high; has_one = two.has_low; has_other = two.has_high; apart = λ close. omega (arith, ints, two.far, close.y.below) }

not_above_by : (a b : ℤ) (test : Bool) → lt_z a b ≡ test → ¬ (a <ℤ b) → b ≤ℤ a
not_above_by a b true e h = absurd (h ((lt_decides a b).0 e))
not_above_by a b false e h = grind (arith, ints)

pub not_above : (a b : ℤ) → ¬ (a <ℤ b) → b ≤ℤ a
not_above a b h = not_above_by a b (lt_z a b) refl h

within : (axis : Point → ℤ) (points : List Point) (e : Extent) → IsExtent axis points e → ¬ IsWide e → (p q : Point) → Contains points p → Contains points q → IsWithin 200000000 (axis p) (axis q)
within axis points e h narrow p q has_p has_q =
    let width : e.greatest ≤ℤ (e.least +ℤ pos 200000000) = not_above _ _ narrow in
    record { above = omega (arith, ints, h.above q has_q, h.below p has_p); below = omega (arith, ints, h.above p has_p, h.below q has_q) }

-- where neither axis is wide, all positions are close
pub all_close : (points : List Point) (b : Bounds) → AreBounds points b → ¬ IsWide b.x → ¬ IsWide b.y → AllClose points
all_close points b h narrow_x narrow_y = record {
  close = λ p q has_p has_q. record {
    x = within (λ (r : Point). r.x) points b.x h.x narrow_x p q has_p has_q;
    y = within (λ (r : Point). r.y) points b.y h.y narrow_y p q has_p has_q;
  };
}

pub not_spread : (points : List Point) → AllClose points → ¬ HaveFarPair points
not_spread points all s = s.apart (all.close s.one s.other s.has_one s.has_other)

-- one item's positions more
pub flat_map_step : {X Y : Type 0} (f : X → List Y) (xs : List X) (i : ℕ) (x : X) → i < length xs → x ≡ get_or xs i x → flat_map f (take (i + 1) xs) ≡ flat_map f (take i xs) ++ f x
flat_map_step f xs i x inside is =
    ap (flat_map f) (take_more xs i x inside) ∙ ap (λ y. flat_map f (take i xs ++ y ∷ [])) (sym is) ∙ sym (flat_map_more f [] (take i xs) x)

pub regroup : (a b c d e f g h k : List Point) → (((((((a ++ b) ++ c) ++ d) ++ e) ++ f) ++ g) ++ h) ++ k ≡ (a ++ (b ++ (c ++ (d ++ (e ++ (f ++ (g ++ (h ++ [])))))))) ++ k
regroup a b c d e f g h k = simp (append_assoc, append-nil)

pub flat_map_itself : {X : Type 0} (xs : List X) → flat_map (λ x. x ∷ []) xs ≡ xs
flat_map_itself [] = refl
flat_map_itself (x ∷ xs) = ap (λ ys. x ∷ ys) (flat_map_itself xs)
