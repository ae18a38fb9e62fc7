-- The rules on an item, put together.
use Rattle.std.proofs.Common.{◌≡◌, ◌∙◌, ℕ, ◌<◌, List, Bool, true, false, ◌&&◌, nat_lt, refl, sym, ap, subst, arith, ◌⊎◌, inl, inr}
use Rattle.std.specs.Prelude.{Contains}
use Rattle.std.proofs.lemmas.Bool.{cases_Bool}
use Rattle.std.proofs.lemmas.Bool.Decides.{Decides-ltb}
use Rattle.venue_types.specs.declared.finding.Finding.{Finding}
use Rattle.exact_json.specs.Json.{Json}
use Rattle.venue_types.specs.declared.folder_file.File.{File}
use Rattle.imdf_schema.specs.Items.{is_feature}
use Rattle.imdf_schema.specs.Properties.{properties}
use Rattle.imdf_schema.specs.declared.rules.Rule.{Rule}
use Rattle.imdf_schema.specs.declared.rules.Rule.TheVariants.{C2, C3, C4, C5, C6, L1, Q1, S3, S4, G1, G2}
use Rattle.imdf_read.specs.declared.figures.Judged.{Judged}
use Rattle.imdf_read.specs.Counts.{is_judged}
use Rattle.imdf_read.specs.Broken.{ItemBreaks}
use Rattle.rule_reports.specs.Passes.{Adds}
use Rattle.imdf_schema.specs.Places.{finding_at}
use Rattle.imdf_read.specs.Gathering.{FindsBy, FindsRule, FindsInGeometry, FindsInItem, FindsMisformedOf, plain_rules}
use Rattle.imdf_read.specs.Judging.{IsJudged, IsPassed}
use Rattle.rule_reports.proofs.Adding.{Adds-same, Adds-then}

-- a test of a rule that is told of the feature itself
pub adds_one : (r : Rule) (f : File) (i : ℕ) (item : Json) (broken : Bool) (place : Finding) (old new : List Finding)
    → (broken ≡ true → ItemBreaks r f item 0) → ((n : ℕ) → ItemBreaks r f item n → (broken ≡ true) × (n ≡ 0)) → place ≡ finding_at r f i 0
    → ((P : Finding → Type 0) → (broken ≡ true → P place) → ((x : Finding) → P x → (broken ≡ true) × (x ≡ place)) → Adds P old new)
    → Adds (FindsRule f i item r) old new
adds_one r f i item broken place old new into back is adds =
    adds (FindsRule f i item r)
    (λ h. record {
      breaks = subst (λ (n : ℕ). ItemBreaks r f item n) (sym (ap (λ (z : Finding). z.member) is)) (into h);
      is = is ∙ ap (finding_at r f i) (sym (ap (λ (z : Finding). z.member) is));
    })
    (λ x h. let at = back x.member h.breaks in (at.0, h.is ∙ ap (finding_at r f i) at.1 ∙ sym is))

-- what the counts and the two flags say of a geometry
long_into : (f : File) (item : Json) (j : Judged) → IsJudged f item j → nat_lt 20000 j.longest ≡ true → ItemBreaks S3 f item 0
long_into f item j judged h = elim (cases_Bool (is_judged f item)) [
  | inl ours ↦
      let above : 20000 < j.longest = (Decides-ltb 20000 j.longest).0 h in
      (ours, subst (λ (n : ℕ). 20000 < n) (judged.read ours).longest above, refl)
  | inr passed ↦ let none : j.longest ≡ 0 = (judged.passed passed).longest in let above : 20000 < j.longest = (Decides-ltb 20000 j.longest).0 h in absurd (omega arith)
]

long_back : (f : File) (item : Json) (j : Judged) → IsJudged f item j → (n : ℕ) → ItemBreaks S3 f item n → (nat_lt 20000 j.longest ≡ true) × (n ≡ 0)
long_back f item j judged n b = ((Decides-ltb 20000 j.longest).1 (subst (λ (n : ℕ). 20000 < n) (sym (judged.read b.0).longest) b.1), b.2)

position_into : (f : File) (item : Json) (j : Judged) → IsJudged f item j → j.bad_position ≡ true → ItemBreaks G1 f item 0
position_into f item j judged h = elim (cases_Bool (is_judged f item)) [
  | inl ours ↦ (ours, (judged.read ours).bad_position.0 h, refl)
  | inr passed ↦ let none : j.bad_position ≡ false = (judged.passed passed).bad_position in cc
]

position_back : (f : File) (item : Json) (j : Judged) → IsJudged f item j → (n : ℕ) → ItemBreaks G1 f item n → (j.bad_position ≡ true) × (n ≡ 0)
position_back f item j judged n b = ((judged.read b.0).bad_position.1 b.1, b.2)

form_into : (f : File) (item : Json) (j : Judged) → IsJudged f item j → j.bad_form ≡ true → ItemBreaks G2 f item 0
form_into f item j judged h = elim (cases_Bool (is_judged f item)) [
  | inl ours ↦ (ours, (judged.read ours).bad_form.0 h, refl)
  | inr passed ↦ let none : j.bad_form ≡ false = (judged.passed passed).bad_form in cc
]

form_back : (f : File) (item : Json) (j : Judged) → IsJudged f item j → (n : ℕ) → ItemBreaks G2 f item n → (j.bad_form ≡ true) × (n ≡ 0)
form_back f item j judged n b = ((judged.read b.0).bad_form.1 b.1, b.2)

-- the three tests of a geometry
pub geometry_adds : (f : File) (i : ℕ) (item : Json) (j : Judged) (x y z : Finding) (a b c d : List Finding) → IsJudged f item j
    → x ≡ finding_at S3 f i 0 → y ≡ finding_at G1 f i 0 → z ≡ finding_at G2 f i 0
    → ((P : Finding → Type 0) → (nat_lt 20000 j.longest ≡ true → P x) → ((w : Finding) → P w → (nat_lt 20000 j.longest ≡ true) × (w ≡ x)) → Adds P a b)
    → ((P : Finding → Type 0) → (j.bad_position ≡ true → P y) → ((w : Finding) → P w → (j.bad_position ≡ true) × (w ≡ y)) → Adds P b c)
    → ((P : Finding → Type 0) → (j.bad_form ≡ true → P z) → ((w : Finding) → P w → (j.bad_form ≡ true) × (w ≡ z)) → Adds P c d)
    → Adds (FindsInGeometry f i item) a d
geometry_adds f i item j x y z a b c d judged xs ys zs one two three =
    let long = adds_one S3 f i item (nat_lt 20000 j.longest) x a b (long_into f item j judged) (long_back f item j judged) xs one in
    let position = adds_one G1 f i item j.bad_position y b c (position_into f item j judged) (position_back f item j judged) ys two in
    let form = adds_one G2 f i item j.bad_form z c d (form_into f item j judged) (form_back f item j judged) zs three in
    Adds-then (FindsInGeometry f i item) long
    (Adds-then (λ w. FindsRule f i item G1 w ⊎ FindsRule f i item G2 w) position form (λ w h. inl h) (λ w h. inr h) (λ w h. h))
    (λ w h. inl h) (λ w h. inr h) (λ w h. h)

abbrev Parts : File → ℕ → Json → Finding → Type 0
Parts f i item x = FindsBy plain_rules f i item x ⊎ (FindsMisformedOf properties f i item x ⊎ FindsInGeometry f i item x)

plain_part : (f : File) (i : ℕ) (item : Json) (r : Rule) (x : Finding) → Contains plain_rules r → FindsRule f i item r x → Parts f i item x
plain_part f i item r x listed finds = inl (record { rule = r; listed = listed; finds = finds })

-- each rule on a feature is in one of the parts
parts : (f : File) (i : ℕ) (item : Json) (x : Finding) → is_feature item ≡ true → (r : Rule) → FindsRule f i item r x → Parts f i item x
parts f i item x feature C3 h = plain_part f i item C3 x (0, omega arith, refl) h
parts f i item x feature C4 h = plain_part f i item C4 x (1, omega arith, refl) h
parts f i item x feature C5 h = plain_part f i item C5 x (2, omega arith, refl) h
parts f i item x feature L1 h = plain_part f i item L1 x (3, omega arith, refl) h
parts f i item x feature Q1 h = plain_part f i item Q1 x (4, omega arith, refl) h
parts f i item x feature S4 h = plain_part f i item S4 x (5, omega arith, refl) h
parts f i item x feature C6 h = let b = h.breaks in inr (inl (record { row = b.1.0; listed = b.1.1; finds = record { of_file = b.1.2; breaks = b.1.3; is = h.is } }))
parts f i item x feature S3 h = inr (inr (inl h))
parts f i item x feature G1 h = inr (inr (inr (inl h)))
parts f i item x feature G2 h = inr (inr (inr (inr h)))
parts f i item x feature C2 h = let b = h.breaks in let e : is_feature item ≡ false = b.0 in cc
parts f i item x feature _ h = absurd h.breaks

-- the parts of what a feature adds
pub feature_adds : (f : File) (i : ℕ) (item : Json) (a b c d : List Finding) → is_feature item ≡ true
    → Adds (FindsBy plain_rules f i item) a b → Adds (FindsMisformedOf properties f i item) b c → Adds (FindsInGeometry f i item) c d → Adds (FindsInItem f i item) a d
feature_adds f i item a b c d feature one two three =
    Adds-same (FindsInItem f i item)
    (Adds-then (Parts f i item) one (Adds-then (λ x. FindsMisformedOf properties f i item x ⊎ FindsInGeometry f i item x) two three (λ x h. inl h) (λ x h. inr h) (λ x h. h))
    (λ x h. inl h) (λ x h. inr h) (λ x h. h))
    (λ x h. elim h [
      | inl plain ↦ record { rule = plain.rule; finds = plain.finds }
      | inr rest ↦ elim rest [
        | inl bad ↦ record { rule = C6; finds = record { breaks = (feature, (bad.row, bad.listed, bad.finds.of_file, bad.finds.breaks)); is = bad.finds.is } }
        | inr figure ↦ elim figure [
          | inl long ↦ record { rule = S3; finds = long }
          | inr flags ↦ elim flags [ inl position ↦ record { rule = G1; finds = position } | inr form ↦ record { rule = G2; finds = form } ]
        ]
      ]
    ])
    (λ x h. parts f i item x feature h.rule h.finds)

-- a judged item is a feature
judged_feature : (a b : Bool) → (a && b) ≡ true → a ≡ true
judged_feature true b e = refl
judged_feature false b e = e

no_feature : (f : File) (item : Json) (r : Rule) (n : ℕ) → is_feature item ≡ false → ItemBreaks r f item n → (r ≡ C2) × (n ≡ 0)
no_feature f item C2 n not b = (refl, b.1)
no_feature f item C3 n not b = let e : is_feature item ≡ true = b.0 in cc
no_feature f item C4 n not b = let e : is_feature item ≡ true = b.0 in cc
no_feature f item C5 n not b = let e : is_feature item ≡ true = b.0 in cc
no_feature f item C6 n not b = let e : is_feature item ≡ true = b.0 in cc
no_feature f item L1 n not b = let e : is_feature item ≡ true = b.1 in cc
no_feature f item Q1 n not b = let e : is_feature item ≡ true = b.1 in cc
no_feature f item S4 n not b = let e : is_feature item ≡ true = b.1 in cc
no_feature f item S3 n not b = let e : is_feature item ≡ true = judged_feature (is_feature item) _ b.0 in cc
no_feature f item G1 n not b = let e : is_feature item ≡ true = judged_feature (is_feature item) _ b.0 in cc
no_feature f item G2 n not b = let e : is_feature item ≡ true = judged_feature (is_feature item) _ b.0 in cc
no_feature f item _ n not b = absurd b

-- what an item that is no feature adds
pub no_feature_adds : (f : File) (i : ℕ) (item : Json) (place : Finding) (old new : List Finding) → is_feature item ≡ false → place ≡ finding_at C2 f i 0
    → ((P : Finding → Type 0) → (true ≡ true → P place) → ((x : Finding) → P x → (true ≡ true) × (x ≡ place)) → Adds P old new)
    → Adds (FindsInItem f i item) old new
no_feature_adds f i item place old new not is adds =
    adds (FindsInItem f i item)
    (λ h. record { rule = C2; finds = record { breaks = (not, ap (λ (z : Finding). z.member) is); is = is ∙ ap (finding_at C2 f i) (sym (ap (λ (z : Finding). z.member) is)) } })
    (λ x h. let at = no_feature f item h.rule x.member not h.finds.breaks in
    (refl, h.finds.is ∙ ap (λ (r : Rule). finding_at r f i x.member) at.0 ∙ ap (finding_at C2 f i) at.1 ∙ sym is))

-- nothing was read of it
pub no_feature_judged : (f : File) (item : Json) (j : Judged) → is_feature item ≡ false → IsPassed j → IsJudged f item j
no_feature_judged f item j not passed = record {
  read = λ e. let t : is_feature item ≡ true = judged_feature (is_feature item) _ e in absurd (let c : true ≡ false = sym t ∙ not in cc);
  passed = λ e. passed;
}
