-- One phase after another, and one property in place of another.
use Rattle.std.proofs.Common.{◌≡◌, ◌≢◌, ℕ, List, [], ◌∷◌, length, take, refl, sym, ap, ◌∙◌, inl, inr}
use Rattle.std.specs.declared.cmp.Ordering.{Ordering}
use Rattle.venue_types.proofs.Items.{Contains-nil, Contains-first}
use Rattle.venue_types.specs.declared.finding.Finding.{Finding}
use Rattle.venue_types.specs.declared.finding.Report.{Report}
use Rattle.rule_reports.specs.Reports.{Lists, First, Shortens}

-- where the first phase has a place, its list is that of both
pub First-stops : {A : Type 0} (cmp : A → A → Ordering) (P Q : A → Type 0) (xs : List A) → xs ≢ [] → Lists cmp P xs → Lists cmp (First P Q) xs
First-stops cmp P Q [] some all = absurd (some refl)
First-stops cmp P Q (x ∷ xs) some all = record {
  rises = all.rises;
  only = λ y h. inl (all.only y h);
  whole = λ y h. elim h [ inl here ↦ all.whole y here | inr later ↦ absurd (later.0 x (all.only x (Contains-first x xs))) ];
}

-- where it has none, the second phase's list is
pub First-goes_on : {A : Type 0} (cmp : A → A → Ordering) (P Q : A → Type 0) (xs : List A) → Lists cmp P [] → Lists cmp Q xs → Lists cmp (First P Q) xs
First-goes_on cmp P Q xs none all = record {
  rises = all.rises;
  only = λ y h. inr ((λ z here. Contains-nil z (none.whole z here)), all.only y h);
  whole = λ y h. elim h [ inl here ↦ absurd (Contains-nil y (none.whole y here)) | inr later ↦ all.whole y later.1 ];
}

-- the list of a property is that of one that holds of the same
pub Lists-same : {A : Type 0} (cmp : A → A → Ordering) (P Q : A → Type 0) (xs : List A) → ((x : A) → P x → Q x) → ((x : A) → Q x → P x) → Lists cmp P xs → Lists cmp Q xs
Lists-same cmp P Q xs into back all = record {
  rises = all.rises;
  only = λ x h. into x (all.only x h);
  whole = λ x h. all.whole x (back x h);
}

abbrev short_report : List Finding → ℕ → Report
short_report first total = record { first = first; total = total }

short_report_of : (short : Report) (first : List Finding) (total : ℕ) → short.first ≡ first → short.total ≡ total → short ≡ short_report first total
short_report_of short first total same_first same_total =
    let whole : short_report short.first short.total ≡ short = refl in
    sym whole ∙ ap (λ (xs : List Finding). short_report xs short.total) same_first ∙ ap (λ (n : ℕ). short_report first n) same_total

-- one list is shortened in one way
pub same_short : (xs ys : List Finding) (short other : Report) → xs ≡ ys → Shortens xs short → Shortens ys other → short ≡ other
same_short xs ys short other same one two =
    short_report_of short (take 500 ys) (length ys) (one.first ∙ ap (take 500) same) (one.total ∙ ap length same)
    ∙ sym (short_report_of other (take 500 ys) (length ys) two.first two.total)
