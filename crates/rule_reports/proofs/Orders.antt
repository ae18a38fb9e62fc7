-- The orders are total, and what they hold equal is one and the same.
use Rattle.std.proofs.Common.{◌≡◌, ℕ, Bool, ◌&&◌, true, eqb, refl, sym, ap, ◌∙◌}
use Rattle.std.specs.declared.cmp.Ordering.{Ordering}
use Rattle.std.specs.Ordering.{ordering_then, eq_by_cmp, nat_cmp}
use Rattle.std.specs.Cmp.{IsTotalOrder, IsEquivalence, both_tied, unsigned_ties, and_equiv, on_equiv, nat_eq_equiv}
use Rattle.std.proofs.lemmas.Bool.{eqb-true}
use Rattle.std.proofs.lemmas.Cmp.{then_total, on_total, nat_cmp_total}
use Rattle.venue_types.specs.declared.finding.Finding.{Finding}
use Rattle.venue_types.specs.declared.finding.Note.{Note}
use Rattle.rule_reports.specs.Order.{finding_cmp, note_cmp}

-- ---- values that are four numbers

-- the numbers of a value, in the order in which they are compared
record Numbers (X : Type 0) : Type 0 where
  first : X → ℕ
  second : X → ℕ
  third : X → ℕ
  fourth : X → ℕ

abbrev four_cmp : {X : Type 0} → Numbers X → X → X → Ordering
four_cmp n x y = ordering_then (nat_cmp (n.first x) (n.first y)) (ordering_then (nat_cmp (n.second x) (n.second y)) (ordering_then (nat_cmp (n.third x) (n.third y)) (nat_cmp (n.fourth x) (n.fourth y))))

abbrev same_four : {X : Type 0} → Numbers X → X → X → Bool
same_four n x y = eqb (n.first x) (n.first y) && (eqb (n.second x) (n.second y) && (eqb (n.third x) (n.third y) && eqb (n.fourth x) (n.fourth y)))

four_total : {X : Type 0} (n : Numbers X) → IsTotalOrder (four_cmp n)
four_total n =
    then_total (on_total n.first nat_cmp_total)
    (then_total (on_total n.second nat_cmp_total)
    (then_total (on_total n.third nat_cmp_total) (on_total n.fourth nat_cmp_total)))

four_tied : {X : Type 0} (n : Numbers X) (x y : X) → same_four n x y ≡ eq_by_cmp (four_cmp n) x y
four_tied n x y =
    both_tied (eqb (n.first x) (n.first y)) _ (nat_cmp (n.first x) (n.first y)) _ (unsigned_ties (n.first x) (n.first y))
    (both_tied (eqb (n.second x) (n.second y)) _ (nat_cmp (n.second x) (n.second y)) _ (unsigned_ties (n.second x) (n.second y))
    (both_tied (eqb (n.third x) (n.third y)) (eqb (n.fourth x) (n.fourth y)) (nat_cmp (n.third x) (n.third y)) (nat_cmp (n.fourth x) (n.fourth y)) (unsigned_ties (n.third x) (n.third y)) (unsigned_ties (n.fourth x) (n.fourth y))))

four_equal : {X : Type 0} (n : Numbers X) → IsEquivalence (same_four n)
four_equal n =
    and_equiv (on_equiv n.first nat_eq_equiv)
    (and_equiv (on_equiv n.second nat_eq_equiv)
    (and_equiv (on_equiv n.third nat_eq_equiv) (on_equiv n.fourth nat_eq_equiv)))

both_true : (a b : Bool) → (a && b) ≡ true → (a ≡ true) × (b ≡ true)
both_true true b e = (refl, e)
both_true _ b e = cc

-- a value is nothing but its numbers
four_exact : {X : Type 0} (n : Numbers X) (of : ℕ → ℕ → ℕ → ℕ → X) → ((x : X) → of (n.first x) (n.second x) (n.third x) (n.fourth x) ≡ x) → (x y : X) → same_four n x y ≡ true → x ≡ y
four_exact n of whole x y e =
    let a = both_true _ _ e in
    let b = both_true _ _ a.1 in
    let c = both_true _ _ b.1 in
    sym (whole x)
    ∙ (ap (λ (k : ℕ). of k (n.second x) (n.third x) (n.fourth x)) (eqb-true (n.first x) (n.first y) a.0)
    ∙ ap (λ (k : ℕ). of (n.first y) k (n.third x) (n.fourth x)) (eqb-true (n.second x) (n.second y) b.0)
    ∙ ap (λ (k : ℕ). of (n.first y) (n.second y) k (n.fourth x)) (eqb-true (n.third x) (n.third y) c.0)
    ∙ ap (λ (k : ℕ). of (n.first y) (n.second y) (n.third y) k) (eqb-true (n.fourth x) (n.fourth y) c.1))
    ∙ whole y

-- ---- findings

abbrev finding_numbers : Numbers Finding
finding_numbers = record { first = λ x. x.rule; second = λ x. x.file; third = λ x. x.index; fourth = λ x. x.member }

abbrev pub same_finding : Finding → Finding → Bool
same_finding = same_four finding_numbers

pub findings_total : IsTotalOrder finding_cmp
findings_total = four_total finding_numbers

pub findings_tied : (x y : Finding) → same_finding x y ≡ eq_by_cmp finding_cmp x y
findings_tied = four_tied finding_numbers

pub findings_exact : (x y : Finding) → same_finding x y ≡ true → x ≡ y
findings_exact = four_exact finding_numbers (λ rule file index member. record { rule = rule; file = file; index = index; member = member }) (λ x. refl)

pub findings_equal : IsEquivalence same_finding
findings_equal = four_equal finding_numbers

-- ---- notes

abbrev note_numbers : Numbers Note
note_numbers = record { first = λ x. x.note; second = λ x. x.file; third = λ x. x.index; fourth = λ x. x.member }

abbrev pub same_note : Note → Note → Bool
same_note = same_four note_numbers

pub notes_total : IsTotalOrder note_cmp
notes_total = four_total note_numbers

pub notes_tied : (x y : Note) → same_note x y ≡ eq_by_cmp note_cmp x y
notes_tied = four_tied note_numbers

pub notes_exact : (x y : Note) → same_note x y ≡ true → x ≡ y
notes_exact = four_exact note_numbers (λ note file index member. record { note = note; file = file; index = index; member = member }) (λ x. refl)

pub notes_equal : IsEquivalence same_note
notes_equal = four_equal note_numbers
