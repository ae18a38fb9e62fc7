-- The rules of one test, put together.
use Rattle.std.proofs.Common.{◌≡◌, ◌∙◌, ℕ, ℤ, ◌+◌, ◌<◌, suc, List, ◌∷◌, Bool, true, false, not, ◌&&◌, length, get_or, drop, drop-cons, IsTrue, ◌↔◌, refl, sym, ap, subst, arith, codes}
use Rattle.std.specs.List.{list_all}
use Rattle.venue_types.proofs.Items.{at_member, member_at}
use Rattle.venue_types.specs.declared.finding.Finding.{Finding}
use Rattle.exact_json.specs.Json.{Json}
use Rattle.venue_types.specs.declared.folder_file.File.{File}
use Rattle.venue_types.specs.declared.folder_file.File.TheVariants as file
use Rattle.imdf_schema.specs.Items.{is_feature, unlisted_property}
use Rattle.imdf_rows.specs.Fields.{IsOrdinal}
use Rattle.imdf_schema.specs.declared.rules.Rule.{Rule}
use Rattle.imdf_schema.specs.declared.rules.Rule.TheVariants.{C3, C4, C5, L1, Q1, S4}
use Rattle.imdf_read.specs.Broken.{ItemBreaks}
use Rattle.rule_reports.specs.Passes.{Adds}
use Rattle.imdf_schema.specs.Places.{finding_at}
use Rattle.imdf_read.specs.Gathering.{FindsBy, FindsRule, is_plain}
use Rattle.rule_reports.proofs.Adding.{Adds-same, Among}

-- a plain rule is broken by the feature itself
at_zero : (r : Rule) (f : File) (item : Json) (place : ℕ) → is_plain r ≡ true → ItemBreaks r f item place → (place ≡ 0) × ItemBreaks r f item 0
at_zero C3 f item place p b = (b.2, (b.0, b.1, refl))
at_zero C4 f item place p b = (b.2, (b.0, b.1, refl))
at_zero C5 f item place p b = (b.2, (b.0, b.1, refl))
at_zero L1 f item place p b = (b.3, (b.0, b.1, b.2, refl))
at_zero Q1 f item place p b = (b.3, (b.0, b.1, b.2, refl))
at_zero S4 f item place p b = (b.3, (b.0, b.1, b.2, refl))
at_zero _ f item place p b = cc

pub adds_rule : (r : Rule) (f : File) (i : ℕ) (item : Json) (broken : Bool) (place : Finding) (old new : List Finding) → is_plain r ≡ true
    → (IsTrue broken ↔ ItemBreaks r f item 0) → place ≡ finding_at r f i 0
    → ((P : Finding → Type 0) → (broken ≡ true → P place) → ((x : Finding) → P x → (broken ≡ true) × (x ≡ place)) → Adds P old new)
    → Adds (FindsRule f i item r) old new
adds_rule r f i item broken place old new plain decides is adds =
    adds (FindsRule f i item r)
    (λ h. record {
      breaks = subst (λ (n : ℕ). ItemBreaks r f item n) (sym (ap (λ (z : Finding). z.member) is)) (decides.0 h);
      is = is ∙ ap (finding_at r f i) (sym (ap (λ (z : Finding). z.member) is));
    })
    (λ x h. let at = at_zero r f item x.member plain h.breaks in
    (decides.1 at.1, h.is ∙ ap (finding_at r f i) at.0 ∙ sym is))

pub finds_by : (rules : List Rule) (f : File) (i : ℕ) (item : Json) (a b : List Finding) → Adds (Among (λ k r. FindsRule f i item r) rules) a b → Adds (FindsBy rules f i item) a b
finds_by rules f i item a b adds = Adds-same (FindsBy rules f i item) adds
    (λ x h. record { rule = h.item; listed = member_at rules h.place h.item h.there; finds = h.holds })
    (λ x h. let at = at_member rules h.rule h.listed in record { place = at.0; item = h.rule; there = at.1; holds = h.finds })

first_both : (a b : Bool) → (a && b) ≡ true → a ≡ true
first_both true b e = refl
first_both false b e = e

second_both : (a b : Bool) → (a && b) ≡ true → b ≡ true
second_both true b e = e
second_both false b e = cc

-- the rule that comes is plain, and so are those behind it
pub next_plain : (rules : List Rule) (i : ℕ) (d : Rule) → i < length rules → list_all is_plain (drop i rules) ≡ true → (is_plain (get_or rules i d) ≡ true) × (list_all is_plain (drop (i + 1) rules) ≡ true)
next_plain rules i d within all =
    let step : list_all is_plain (get_or rules i d ∷ drop (suc i) rules) ≡ true = ap (list_all is_plain) (sym (drop-cons rules i d within)) ∙ all in
    let more : suc i ≡ i + 1 = omega arith in
    (first_both (is_plain (get_or rules i d)) _ step, ap (λ (n : ℕ). list_all is_plain (drop n rules)) (sym more) ∙ second_both (is_plain (get_or rules i d)) _ step)

not_true : (b : Bool) → not b ≡ true → b ≡ false
not_true true e = cc
not_true false e = refl

-- the rule on ordinals, where the file is that of the levels
pub ordinal_rule : (f : File) (item v : Json) (fits : Bool) → f ≡ file.Level → is_feature item ≡ true → v ≡ unlisted_property item (codes "ordinal") → (IsTrue fits ↔ ((n : ℤ) × IsOrdinal v n))
    → IsTrue (not fits) ↔ ItemBreaks L1 f item 0
ordinal_rule f item v true own feature is decides =
    let P : Json → Type 0 = λ w. (n : ℤ) × IsOrdinal w n in
    ((λ h. cc), (λ b. let o = subst P is (decides.0 refl) in absurd (b.2 o.0 o.1)))
ordinal_rule f item v false own feature is decides =
    let P : Json → Type 0 = λ w. (n : ℤ) × IsOrdinal w n in
    ((λ h. (own, feature, (λ n o. let e : false ≡ true = decides.1 (subst P (sym is) (n, o)) in cc), refl)), (λ b. refl))
