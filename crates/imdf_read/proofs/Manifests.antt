-- The rules on the manifest, put together.
use Rattle.std.proofs.Common.{◌≡◌, ◌∙◌, List, Bool, true, false, not, ◌&&◌, ◌||◌, refl, sym, ap, subst, ◌⊎◌, inl, inr, codes}
use Rattle.venue_types.specs.declared.finding.Finding.{Finding}
use Rattle.venue_types.specs.declared.files.Slot.{Slot}
use Rattle.venue_types.specs.declared.files.Slot.TheVariants.{Absent}
use Rattle.exact_json.specs.Json.{Json, member}
use Rattle.venue_types.specs.declared.folder_file.File.TheVariants as file
use Rattle.imdf_schema.specs.Values.{is_null, is_object, is_text, is_word}
use Rattle.imdf_schema.specs.Contents.{HasValue, IsLarge, IsNoText, IsDeep}
use Rattle.imdf_schema.specs.declared.rules.Rule.{Rule}
use Rattle.imdf_schema.specs.declared.rules.Rule.TheVariants.{F1, F2, F3, F4, M1, M2, M3, C1, V1}
use Rattle.imdf_read.specs.Broken.{FileBreaks}
use Rattle.rule_reports.specs.Passes.{Adds}
use Rattle.imdf_schema.specs.Places.{finding_at}
use Rattle.imdf_read.specs.Gathering.{FindsInSlot}
use Rattle.imdf_read.specs.Taking.{HasOnlyValue, HasFault}
use Rattle.rule_reports.proofs.Adding.{Adds-same, Adds-then}
use Rattle.imdf_read.proofs.Slots.{Whole, adds_whole, text_of, not_absent, not_large, some_text, not_deep, fault_value, fault_there, large_text, large_deep, text_deep}

abbrev One : Slot → Rule → Finding → Type 0
One slot r x = Whole file.Manifest slot r x

-- the rules on a manifest that has a value
value_rules : (slot : Slot) (v : Json) → HasOnlyValue slot v → (r : Rule) → FileBreaks r file.Manifest slot → (r ≡ M1) ⊎ ((r ≡ M2) ⊎ (r ≡ M3))
value_rules slot v known M1 b = inl refl
value_rules slot v known M2 b = inr (inl refl)
value_rules slot v known M3 b = inr (inr refl)
value_rules slot v known F1 b = absurd (not_absent slot v known.has b.1)
value_rules slot v known F2 b = absurd (not_large slot v known.has b)
value_rules slot v known F3 b = absurd (some_text slot v known.has b)
value_rules slot v known F4 b = absurd (not_deep slot v known.has known.only b)
value_rules slot v known C1 b = absurd (b.0 refl)
value_rules slot v known V1 b = let e : file.Manifest ≡ file.Venue = b.0 in cc
value_rules slot v known _ b = absurd b

-- what may be broken by a manifest that has no value
none_rules : (slot : Slot) → ((v : Json) → ¬ HasValue slot v) → (r : Rule) → FileBreaks r file.Manifest slot
    → ((r ≡ F1) × (slot ≡ Absent)) ⊎ (((r ≡ F2) × IsLarge slot) ⊎ (((r ≡ F3) × IsNoText slot) ⊎ ((r ≡ F4) × IsDeep slot)))
none_rules slot none F1 b = inl (refl, b.1)
none_rules slot none F2 b = inr (inl (refl, b))
none_rules slot none F3 b = inr (inr (inl (refl, b)))
none_rules slot none F4 b = inr (inr (inr (refl, b)))
none_rules slot none M1 b = absurd (none b.1.0 b.1.1)
none_rules slot none M2 b = absurd (none b.1.0 b.1.1)
none_rules slot none M3 b = absurd (none b.1.0 b.1.1)
none_rules slot none C1 b = absurd (b.0 refl)
none_rules slot none V1 b = let e : file.Manifest ≡ file.Venue = b.0 in cc
none_rules slot none _ b = absurd b

one_alone : (slot : Slot) (r : Rule) (a b : List Finding) → ((q : Rule) → FileBreaks q file.Manifest slot → q ≡ r) → Adds (One slot r) a b → Adds (FindsInSlot file.Manifest slot) a b
one_alone slot r a b one adds = Adds-same (FindsInSlot file.Manifest slot) adds
    (λ x h. record { rule = r; breaks = h.0; is = h.1 })
    (λ x h. let e = one h.rule h.breaks in (subst (λ (q : Rule). FileBreaks q file.Manifest slot) e h.breaks, h.is ∙ ap (λ (q : Rule). finding_at q file.Manifest 0 0) e))

pub absent_adds : (place : Finding) (a b : List Finding) → place ≡ finding_at F1 file.Manifest 0 0
    → ((P : Finding → Type 0) → (true ≡ true → P place) → ((x : Finding) → P x → (true ≡ true) × (x ≡ place)) → Adds P a b)
    → Adds (FindsInSlot file.Manifest Absent) a b
absent_adds place a b is adds = one_alone Absent F1 a b
    (λ q h. elim (none_rules Absent (λ v e. e) q h) [
      | inl absent ↦ absent.0
      | inr rest ↦ elim rest [ inl large ↦ absurd large.1 | inr more ↦ elim more [ inl text ↦ absurd text.1 | inr deep ↦ absurd deep.1 ] ]
    ])
    (adds_whole file.Manifest Absent F1 true place a b (λ h. (refl, refl)) (λ h. refl) is adds)

-- the cause of a fault is broken, and no other rule
fault_breaks : (slot : Slot) (r : Rule) → HasFault r slot → FileBreaks r file.Manifest slot × ((q : Rule) → FileBreaks q file.Manifest slot → q ≡ r)
fault_breaks slot F2 fault = (
  fault,
  (λ q b. elim (none_rules slot (fault_value F2 slot fault) q b) [
    | inl absent ↦ absurd (fault_there F2 slot fault absent.1)
    | inr rest ↦ elim rest [ inl large ↦ large.0 | inr more ↦ elim more [ inl text ↦ absurd (large_text slot fault text.1) | inr deep ↦ absurd (large_deep slot fault deep.1) ] ]
  ]),
)
fault_breaks slot F3 fault = (
  fault,
  (λ q b. elim (none_rules slot (fault_value F3 slot fault) q b) [
    | inl absent ↦ absurd (fault_there F3 slot fault absent.1)
    | inr rest ↦ elim rest [ inl large ↦ absurd (large_text slot large.1 fault) | inr more ↦ elim more [ inl text ↦ text.0 | inr deep ↦ absurd (text_deep slot fault deep.1) ] ]
  ]),
)
fault_breaks slot F4 fault = (
  fault.0,
  (λ q b. elim (none_rules slot (fault_value F4 slot fault) q b) [
    | inl absent ↦ absurd (fault_there F4 slot fault absent.1)
    | inr rest ↦ elim rest [ inl large ↦ absurd (large_deep slot large.1 fault.0) | inr more ↦ elim more [ inl text ↦ absurd (text_deep slot text.1 fault.0) | inr deep ↦ deep.0 ] ]
  ]),
)
fault_breaks slot _ fault = absurd fault

pub fault_adds : (slot : Slot) (r : Rule) (place : Finding) (a b : List Finding) → HasFault r slot → place ≡ finding_at r file.Manifest 0 0
    → ((P : Finding → Type 0) → (true ≡ true → P place) → ((x : Finding) → P x → (true ≡ true) × (x ≡ place)) → Adds P a b)
    → Adds (FindsInSlot file.Manifest slot) a b
fault_adds slot r place a b fault is adds =
    let known = fault_breaks slot r fault in
    one_alone slot r a b known.1 (adds_whole file.Manifest slot r true place a b (λ h. known.0) (λ h. refl) is adds)

not_true : (b : Bool) → not b ≡ true → b ≡ false
not_true true e = cc
not_true false e = refl

first_true : (a b : Bool) → (a && b) ≡ true → a ≡ true
first_true true b e = refl
first_true false b e = e

second_true : (a b : Bool) → (a && b) ≡ true → b ≡ true
second_true true b e = e
second_true false b e = cc

both_true : (a b : Bool) → a ≡ true → b ≡ false → (a && not b) ≡ true
both_true a b p q = ap (λ (x : Bool). x && not b) p ∙ ap not q

abbrev Test : Finding → List Finding → List Finding → Bool → Type 1
Test place a b holds = (P : Finding → Type 0) → (holds ≡ true → P place) → ((x : Finding) → P x → (holds ≡ true) × (x ≡ place)) → Adds P a b

part : (slot : Slot) (w : Finding) (h : FindsInSlot file.Manifest slot w) → (h.rule ≡ M1) ⊎ ((h.rule ≡ M2) ⊎ (h.rule ≡ M3)) → One slot M1 w ⊎ (One slot M2 w ⊎ One slot M3 w)
part slot w h (inl e) = inl (subst (λ (q : Rule). FileBreaks q file.Manifest slot) e h.breaks, h.is ∙ ap (λ (q : Rule). finding_at q file.Manifest 0 0) e)
part slot w h (inr (inl e)) = inr (inl (subst (λ (q : Rule). FileBreaks q file.Manifest slot) e h.breaks, h.is ∙ ap (λ (q : Rule). finding_at q file.Manifest 0 0) e))
part slot w h (inr (inr e)) = inr (inr (subst (λ (q : Rule). FileBreaks q file.Manifest slot) e h.breaks, h.is ∙ ap (λ (q : Rule). finding_at q file.Manifest 0 0) e))

-- the three tests of a manifest's members
pub value_adds : (slot : Slot) (v : Json) (x y z : Finding) (a b c d : List Finding) (version created language : Bool) → HasOnlyValue slot v
    → x ≡ finding_at M1 file.Manifest 0 0 → y ≡ finding_at M2 file.Manifest 0 0 → z ≡ finding_at M3 file.Manifest 0 0
    → version ≡ not (is_word (member v (codes "version")) (codes "1.0.0"))
    → created ≡ (is_object v && not (is_text (member v (codes "created"))))
    → language ≡ (is_object v && not (is_null (member v (codes "language")) || is_text (member v (codes "language"))))
    → Test x a b version → Test y b c created → Test z c d language
    → Adds (FindsInSlot file.Manifest slot) a d
value_adds slot v x y z a b c d version created language known xs ys zs version_is created_is language_is one two three =
    let speaks : Json → Bool = λ w. is_null (member w (codes "language")) || is_text (member w (codes "language")) in
    let same : (w : Json) → HasValue slot w → w ≡ v = λ w h. known.only w (text_of slot w h) in
    let first = adds_whole file.Manifest slot M1 version x a b
    (λ h. (refl, (v, known.has, not_true (is_word (member v (codes "version")) (codes "1.0.0")) (sym version_is ∙ h))))
    (λ h. version_is ∙ ap not (ap (λ (w : Json). is_word (member w (codes "version")) (codes "1.0.0")) (sym (same h.1.0 h.1.1)) ∙ h.1.2)) xs one in
    let second = adds_whole file.Manifest slot M2 created y b c
    (λ h. let e = sym created_is ∙ h in (refl, (v, known.has, first_true (is_object v) _ e, not_true (is_text (member v (codes "created"))) (second_true (is_object v) _ e))))
    (λ h. created_is ∙ both_true (is_object v) (is_text (member v (codes "created")))
    (ap is_object (sym (same h.1.0 h.1.1)) ∙ h.1.2) (ap (λ (w : Json). is_text (member w (codes "created"))) (sym (same h.1.0 h.1.1)) ∙ h.1.3)) ys two in
    let third = adds_whole file.Manifest slot M3 language z c d
    (λ h. let e = sym language_is ∙ h in (refl, (v, known.has, first_true (is_object v) _ e, not_true (speaks v) (second_true (is_object v) _ e))))
    (λ h. language_is ∙ both_true (is_object v) (speaks v)
    (ap is_object (sym (same h.1.0 h.1.1)) ∙ h.1.2) (ap speaks (sym (same h.1.0 h.1.1)) ∙ h.1.3)) zs three in
    Adds-same (FindsInSlot file.Manifest slot)
    (Adds-then (λ w. One slot M1 w ⊎ (One slot M2 w ⊎ One slot M3 w)) first (Adds-then (λ w. One slot M2 w ⊎ One slot M3 w) second third (λ w h. inl h) (λ w h. inr h) (λ w h. h))
    (λ w h. inl h) (λ w h. inr h) (λ w h. h))
    (λ w h. elim h [
      | inl m1 ↦ record { rule = M1; breaks = m1.0; is = m1.1 }
      | inr rest ↦ elim rest [ inl m2 ↦ record { rule = M2; breaks = m2.0; is = m2.1 } | inr m3 ↦ record { rule = M3; breaks = m3.0; is = m3.1 } ]
    ])
    (λ w h. part slot w h (value_rules slot v known h.rule h.breaks))
