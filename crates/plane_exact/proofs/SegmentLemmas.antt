-- What the tests of `near_edge` and `crosses` decide, case by case.
use Rattle.std.proofs.Common.{◌≡◌, ℕ, ◌*◌, ℤ, pos, ◌*ℤ◌, ◌≤ℤ◌, ◌<ℤ◌, ◌↔◌, inl, inr, sym, IsTrue, arith}
use mathlib.Core.Path.{subst₂}
use Rattle.std.proofs.lemmas.Int.{ints}
use lib.Signed.{clash_ℤ, lt_z, le_z}
use Rattle.venue_types.specs.declared.point.Point.{Point}
use Rattle.plane_exact.specs.Plane.{side, along, squared_distance, square}
use Rattle.plane_exact.specs.Segment.{IsNearEdge, HaveOppositeSigns}

pub le_decides : (x y : ℤ) → IsTrue (le_z x y) ↔ (x ≤ℤ y)
le_decides x y = (λ t. omega (arith, ints), λ h. grind (arith, ints))

pub lt_decides : (x y : ℤ) → IsTrue (lt_z x y) ↔ (x <ℤ y)
lt_decides x y = (λ t. omega (arith, ints), λ h. grind (arith, ints))

-- a test of two numbers that are x and y decides their order
pub le_test : (m n x y : ℤ) → m ≡ x → n ≡ y → IsTrue (le_z m n) ↔ (x ≤ℤ y)
le_test m n x y e f = subst₂ (λ (m n : ℤ). IsTrue (le_z m n) ↔ (x ≤ℤ y)) (sym e) (sym f) (le_decides x y)

pub lt_test : (m n x y : ℤ) → m ≡ x → n ≡ y → IsTrue (lt_z m n) ↔ (x <ℤ y)
lt_test m n x y e f = subst₂ (λ (m n : ℤ). IsTrue (lt_z m n) ↔ (x <ℤ y)) (sym e) (sym f) (lt_decides x y)

pub iff_along : {A B C : Type 0} → A ↔ B → B ↔ C → A ↔ C
iff_along f g = (λ a. g.0 (f.0 a), λ c. f.1 (g.1 c))

pub near_before : (p a b : Point) (t : ℕ) → along a b p ≤ℤ pos 0 → (squared_distance a p ≤ℤ pos (t * t)) ↔ IsNearEdge p a b t
near_before p a b t h = (λ d. record { before = λ _. d; beyond = λ k _. clash_ℤ k h; beside = λ k _. clash_ℤ k h }, λ n. n.before h)

pub near_beyond : (p a b : Point) (t : ℕ) → pos 0 <ℤ along a b p → squared_distance a b ≤ℤ along a b p → (squared_distance b p ≤ℤ pos (t * t)) ↔ IsNearEdge p a b t
near_beyond p a b t h k = (λ d. record { before = λ l. clash_ℤ h l; beyond = λ _ _. d; beside = λ _ l. clash_ℤ l k }, λ n. n.beyond h k)

pub near_beside : (p a b : Point) (t : ℕ) → pos 0 <ℤ along a b p → along a b p <ℤ squared_distance a b → (square (side a b p) ≤ℤ (pos (t * t) *ℤ squared_distance a b)) ↔ IsNearEdge p a b t
near_beside p a b t h k = (λ d. record { before = λ l. clash_ℤ h l; beyond = λ _ l. clash_ℤ k l; beside = λ _ _. d }, λ n. n.beside h k)

pub opposite_above : (m n : ℤ) → m <ℤ pos 0 → (pos 0 <ℤ n) ↔ HaveOppositeSigns m n
opposite_above m n h = (λ k. inl (h, k), λ s. elim s [ inl x ↦ x.1 | inr x ↦ omega (arith, ints, x.0) ])

pub opposite_below : (m n : ℤ) → pos 0 <ℤ m → (n <ℤ pos 0) ↔ HaveOppositeSigns m n
opposite_below m n h = (λ k. inr (h, k), λ s. elim s [ inl x ↦ omega (arith, ints, x.0) | inr x ↦ x.1 ])
