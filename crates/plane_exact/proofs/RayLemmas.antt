-- What the tests of `inside` decide, and the steps of the loops over a chain of points.
use Rattle.std.proofs.Common.{◌≡◌, ℤ, pos, ◌≤ℤ◌, ◌<ℤ◌, Bool, true, false, ◌&&◌, ◌||◌, refl, ap, sym, ◌∙◌, arith}
use Rattle.std.proofs.lemmas.Int.{ints}
use lib.Signed.{lt_z, le_z}
use Rattle.venue_types.specs.declared.point.Point.{Point}
use Rattle.plane_exact.specs.Plane.{side}
use Rattle.plane_exact.specs.Figure.{meets_ray}
use Rattle.plane_exact.proofs.SegmentLemmas.{le_decides, lt_decides}

pub le_true : (x y : ℤ) → x ≤ℤ y → le_z x y ≡ true
le_true x y h = (le_decides x y).1 h

pub lt_true : (x y : ℤ) → x <ℤ y → lt_z x y ≡ true
lt_true x y h = (lt_decides x y).1 h

pub le_false : (x y : ℤ) → y <ℤ x → le_z x y ≡ false
le_false x y h = grind (arith, ints)

pub lt_false : (x y : ℤ) → y ≤ℤ x → lt_z x y ≡ false
lt_false x y h = grind (arith, ints)

up_alone : (q r s t : Bool) → ((true && q && r) || (s && false && t)) ≡ (q && r)
up_alone true true s t = refl
up_alone true false true t = refl
up_alone true false false t = refl
up_alone false r true t = refl
up_alone false r false t = refl

-- an edge that does not start above p meets the ray exactly where it goes up
meets_upward : (p a b : Point) → a.y ≤ℤ p.y → meets_ray p (record { from = a; to = b }) ≡ (lt_z p.y b.y && lt_z (pos 0) (side a b p))
unfolding meets_ray
meets_upward p a b h =
    let starts = le_true a.y p.y h in
    let never = lt_false p.y a.y h in
    rw (starts, never) (up_alone (lt_z p.y b.y) (lt_z (pos 0) (side a b p)) (le_z b.y p.y) (lt_z (side a b p) (pos 0)))

-- one that starts above p meets it exactly where it goes down
meets_downward : (p a b : Point) → p.y <ℤ a.y → meets_ray p (record { from = a; to = b }) ≡ (le_z b.y p.y && lt_z (side a b p) (pos 0))
unfolding meets_ray
meets_downward p a b h =
    let never = le_false a.y p.y h in
    let starts = lt_true p.y a.y h in
    rw (never, starts) (down_alone (le_z b.y p.y) (lt_z (side a b p) (pos 0))) where
      down_alone : (s t : Bool) → ((s && true && t)) ≡ (s && t)
      down_alone true t = refl
      down_alone false t = refl

pub meets_up : (p a b : Point) (x : ℤ) → a.y ≤ℤ p.y → p.y <ℤ b.y → x ≡ side a b p → lt_z (pos 0) x ≡ meets_ray p (record { from = a; to = b })
meets_up p a b x h k e = ap (lt_z (pos 0)) e ∙ sym (meets_upward p a b h ∙ ap (λ t. t && lt_z (pos 0) (side a b p)) (lt_true p.y b.y k))

pub meets_not_up : (p a b : Point) → a.y ≤ℤ p.y → b.y ≤ℤ p.y → meets_ray p (record { from = a; to = b }) ≡ false
meets_not_up p a b h k = meets_upward p a b h ∙ ap (λ t. t && lt_z (pos 0) (side a b p)) (lt_false p.y b.y k)

pub meets_down : (p a b : Point) (x : ℤ) → p.y <ℤ a.y → b.y ≤ℤ p.y → x ≡ side a b p → lt_z x (pos 0) ≡ meets_ray p (record { from = a; to = b })
meets_down p a b x h k e = ap (λ n. lt_z n (pos 0)) e ∙ sym (meets_downward p a b h ∙ ap (λ t. t && lt_z (side a b p) (pos 0)) (le_true b.y p.y k))

pub meets_not_down : (p a b : Point) → p.y <ℤ a.y → p.y <ℤ b.y → meets_ray p (record { from = a; to = b }) ≡ false
meets_not_down p a b h k = meets_downward p a b h ∙ ap (λ t. t && lt_z (side a b p) (pos 0)) (le_false b.y p.y k)
