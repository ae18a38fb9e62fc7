-- What is found at references, and the report of all.
use Rattle.std.proofs.Common.{◌≡◌, ◌≢◌, ◌∙◌, ℕ, ◌+◌, ◌*◌, List, [], Option, Some, None, Bool, true, false, not, ◌&&◌, refl, sym, ap, subst, ◌⊎◌, inl, inr, ◌↔◌}
use Rattle.std.specs.Prelude.{Contains, slice_get}
use Rattle.std.proofs.lemmas.Option.{same_Some}
use Rattle.venue_types.proofs.Items.{Contains-nil}
use Rattle.venue_types.specs.declared.feature_id.FeatureId.{FeatureId}
use Rattle.venue_types.specs.declared.features.Features.{Features}
use Rattle.venue_types.specs.declared.finding.Finding.{Finding}
use Rattle.venue_types.specs.declared.folder_file.File.{File}
use Rattle.venue_types.specs.FolderFiles.{file_number}
use Rattle.imdf_schema.specs.Rules.{rule_number}
use Rattle.imdf_schema.specs.Properties.{property_number, properties}
use Rattle.feature_rows.specs.Rows.{IsFeature}
use Rattle.rule_reports.specs.Passes.{Adds}
use Rattle.imdf_refs.specs.declared.known.Known.{Known}
use Rattle.imdf_schema.specs.declared.rules.Rule.{Rule}
use Rattle.imdf_schema.specs.declared.rules.Rule.TheVariants.{C7, X1, X2}
use Rattle.imdf_refs.specs.References.{references_in, file_named}
use Rattle.imdf_refs.specs.Rules.{ReferenceBreaks, BreaksInId, BreaksInReference, IsMisnamed}
use Rattle.imdf_refs.specs.Index.{has_id, has_typed, HasAll}
use Rattle.imdf_refs.specs.Gathering.{place_of, Dangles, DanglesInTable, Repeats}

true_or_false : (b : Bool) → (b ≡ true) ⊎ (b ≡ false)
true_or_false true = inl refl
true_or_false false = inr refl

not_true : (b : Bool) → not b ≡ true → b ≡ true → ⊥
not_true true p q = cc
not_true false p q = cc

is_not : (b : Bool) → (b ≡ true → ⊥) → not b ≡ true
is_not true h = absurd (h refl)
is_not false h = refl

both : (a b : Bool) → (a && b) ≡ true → (a ≡ true) × (b ≡ true)
both true b e = (refl, e)
both false b e = cc

of_both : (a b : Bool) → a ≡ true → b ≡ true → (a && b) ≡ true
of_both true b p q = q
of_both false b p q = absurd (let e : false ≡ true = p in cc)

-- no feature of the identifier is of the file that is asked for
abbrev NoneOf : Features → FeatureId → Option ℕ → Type 0
NoneOf features id o = (g : File) (j : ℕ) → IsFeature features g j id → o ≢ Some (file_number g)

none_of : (features : Features) (known : Known) (id : FeatureId) (o : Option ℕ) → HasAll features known → not (has_typed known id o) ≡ true → NoneOf features id o
none_of features known id None has h = λ g j there e. cc
none_of features known id (Some f) has h = λ g j there e.
    not_true (has_typed known id (Some f)) h ((has.typed id f).1 (record { source = g; place = j; there = there; of_file = sym (same_Some f (file_number g) e) }))

is_none_of : (features : Features) (known : Known) (id : FeatureId) (o : Option ℕ) → HasAll features known → NoneOf features id o → not (has_typed known id o) ≡ true
is_none_of features known id None has none = refl
is_none_of features known id (Some f) has none = is_not (has_typed known id (Some f)) (λ h.
    let at = (has.typed id f).0 h in
    none at.source at.place at.there (ap (λ (n : ℕ). Some n) (sym at.of_file)))

abbrev finding : ℕ → ℕ → ℕ → ℕ → Finding
finding rule f k member = record { rule = rule; file = f; index = k; member = member }

-- a finding is its numbers
finding_of : (x : Finding) (r f m : ℕ) → x.rule ≡ r → x.file ≡ f → x.member ≡ m → x ≡ finding r f x.index m
finding_of x r f m rule file member =
    let whole : x ≡ finding x.rule x.file x.index x.member = refl in
    whole ∙ ap (λ (n : ℕ). finding n x.file x.index x.member) rule ∙ ap (λ (n : ℕ). finding r n x.index x.member) file ∙ ap (λ (n : ℕ). finding r f x.index n) member

-- what dangles by the index breaks a rule on references
module _ (features : Features) (known : Known) (has : HasAll features known) where
  from_dangling : (x : Finding) → DanglesInTable known features properties x → IsMisnamed features x
  from_dangling x h =
      let row = h.row in
      let k = h.dangles.index in
      let all = h.dangles.references in
      let at = h.dangles.dangles in
      let r = at.reference in
      let broken = λ (rule : Rule) (breaks : ReferenceBreaks rule features row r) (is : x ≡ finding (rule_number rule) (file_number row.file) k (property_number row.property + 64 * at.place)).
      let same : k ≡ x.index = sym (ap (λ (z : Finding). z.index) is) in
      let misnamed : IsMisnamed features x = record {
        rule = rule;
        number = ap (λ (z : Finding). z.rule) is;
        breaks = inr (record {
          row = row;
          place = at.place;
          reference = r;
          there = record { listed = h.listed; all = all; feature = subst (λ (n : ℕ). slice_get (references_in features row.file row.property) n ≡ Some all) same h.dangles.there; there = at.there };
          breaks = breaks;
          in_file = ap (λ (z : Finding). z.file) is;
          at_member = ap (λ (z : Finding). z.member) is;
        });
      } in
      misnamed in
      elim at.dangles [
        | inl d ↦ broken X1 (λ named. not_true (has_id known r.id) d.0 ((has.ids r.id).1 named)) d.1
        | inr d ↦
            let two = both (has_id known r.id) (not (has_typed known r.id (file_named row.names r))) d.0 in
            broken X2 ((has.ids r.id).0 two.0, none_of features known r.id (file_named row.names r) has two.1) d.1
      ]

  -- where a rule on references is broken, it dangles by the index
  into_dangling : (rule : Rule) (x : Finding) → x.rule ≡ rule_number rule → BreaksInReference features rule x → DanglesInTable known features properties x
  into_dangling rule x number b = record {
    row = b.row;
    listed = b.there.listed;
    dangles = record { index = x.index; references = b.there.all; there = b.there.feature; dangles = record { place = b.place; reference = b.reference; there = b.there.there; dangles = by_rule rule number b.breaks } };
  }
    where
      by_rule : (q : Rule) → x.rule ≡ rule_number q → ReferenceBreaks q features b.row b.reference → Dangles known (place_of b.row.file x.index) (property_number b.row.property + 64 * b.place) b.reference.id (file_named b.row.names b.reference) x
      by_rule X1 n breaks = inl (is_not (has_id known b.reference.id) (λ h. breaks ((has.ids b.reference.id).0 h)), finding_of x (rule_number X1) (file_number b.row.file) (property_number b.row.property + 64 * b.place) n b.in_file b.at_member)
      by_rule X2 n breaks =
          inr (
            of_both (has_id known b.reference.id) (not (has_typed known b.reference.id (file_named b.row.names b.reference))) ((has.ids b.reference.id).1 breaks.0) (is_none_of features known b.reference.id (file_named b.row.names b.reference) has breaks.1),
            finding_of x (rule_number X2) (file_number b.row.file) (property_number b.row.property + 64 * b.place) n b.in_file b.at_member,
          )
      by_rule _ n breaks = absurd breaks

from_repeats : (features : Features) (x : Finding) → Repeats features x → IsMisnamed features x
from_repeats features x h = record {
  rule = C7;
  number = ap (λ (z : Finding). z.rule) h.repeats.is;
  breaks = inl (
    refl,
    record {
      source = h.source;
      repeats = h.repeats.repeats;
      in_file = ap (λ (z : Finding). z.file) h.repeats.is;
      at_member = ap (λ (z : Finding). z.member) h.repeats.is;
    },
  );
}

into_repeats : (features : Features) (rule : Rule) (x : Finding) → rule ≡ C7 → x.rule ≡ rule_number rule → BreaksInId features x → Repeats features x
into_repeats features rule x is_c7 number b = record {
  source = b.source;
  repeats = record { repeats = b.repeats; is = finding_of x (rule_number C7) (file_number b.source) 0 (number ∙ ap rule_number is_c7) b.in_file b.at_member };
}

into : (features : Features) (known : Known) → HasAll features known → (x : Finding) → IsMisnamed features x → Repeats features x ⊎ DanglesInTable known features properties x
into features known has x h = elim h.breaks [
  | inl b ↦ inl (into_repeats features h.rule x b.0 h.number b.1)
  | inr b ↦ inr (into_dangling features known has h.rule x h.number b)
]

-- what was gathered is what is misnamed
pub misnamed : (features : Features) (known : Known) (first gathered : List Finding) → HasAll features known → Adds (Repeats features) [] first
    → Adds (DanglesInTable known features properties) first gathered → (x : Finding) → Contains gathered x ↔ IsMisnamed features x
misnamed features known first gathered has repeats dangling x = (
  (λ h. elim (dangling.only x h) [
    | inl front ↦ elim (repeats.only x front) [ inl none ↦ absurd (Contains-nil x none) | inr r ↦ from_repeats features x r ]
    | inr d ↦ from_dangling features known has x d
  ]),
  (λ h. elim (into features known has x h) [
    | inl r ↦ dangling.kept x (repeats.whole x r)
    | inr d ↦ dangling.whole x d
  ]),
)
