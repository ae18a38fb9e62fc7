-- The rules, put together from what each pass adds.
use Rattle.std.proofs.Common.{◌≡◌, ◌∙◌, ℕ, ◌<◌, ◌≤◌, List, length, get_or, Bool, true, IsTrue, ◌↔◌, refl, sym, ap, subst, ◌⊎◌, inl, inr}
use Rattle.std.specs.Prelude.{slice_get, Some}
use Rattle.std.proofs.lemmas.Option.{slice_get_read, slice_get-get_or}
use Rattle.venue_types.specs.declared.features.Features.{Features}
use Rattle.venue_types.specs.declared.finding.Finding.{Finding}
use Rattle.venue_types.specs.declared.folder_file.File.{File}
use Rattle.venue_types.specs.FolderFiles.{file_number}
use Rattle.rule_reports.specs.Passes.{Adds}
use Rattle.rule_reports.proofs.Adding.{Adds-same, Adds-then, Among}
use Rattle.imdf_schema.specs.declared.rules.Rule.{Rule}
use Rattle.imdf_schema.specs.declared.rules.Rule.TheVariants.{K1, K2, K3, K4}
use Rattle.imdf_schema.specs.Places.{finding_at}
use Rattle.imdf_schema.specs.Rules.{rule_number}
use Rattle.contain_rules.specs.Rules.{BreaksHold, HoldBreaks, UnitLeaves, AnchorLeaves, AmenityLeaves, OpeningLeaves, file_judged}
use Rattle.contain_rules.specs.Judging.{BreaksIn, hold_finding}

-- the row at hand, of a list that is seen as a slice
pub row_there : {R : Type 0} (xs rows : List R) (k : ℕ) (row : R) → xs ≡ rows → k < length xs → row ≡ get_or xs k row → slice_get rows k ≡ Some row
row_there {R} xs rows k row same within is = subst (λ (ys : List R). slice_get ys k ≡ Some row) same (slice_get_read xs (length xs) k row refl within is)

pub copy_there : {R : Type 0} (xs rows : List R) (k : ℕ) (d : R) → xs ≡ rows → k < length xs → slice_get rows k ≡ Some (get_or xs k d)
copy_there {R} xs rows k d same within = subst (λ (ys : List R). slice_get ys k ≡ Some (get_or xs k d)) same (slice_get-get_or xs k d within)

pub all_past : {R : Type 0} (xs rows : List R) (k : ℕ) → xs ≡ rows → length xs ≤ k → length rows ≤ k
all_past {R} xs rows k same past = subst (λ (ys : List R). length ys ≤ k) same past

-- the feature at this place leaves what is to hold it, which is told of it
abbrev pub LeavesAt : {R : Type 0} → (R → Type 0) → Rule → ℕ → R → Finding → Type 0
LeavesAt Leaves rule k row x = Leaves row × (x ≡ hold_finding rule k)

-- the finding of this rule at the file that it judges
pub finding_held : (told rule : Rule) (f : File) (k : ℕ) (x : Finding) → told ≡ rule → f ≡ file_judged rule → x ≡ finding_at told f k 0 → x ≡ hold_finding rule k
finding_held told rule f k x by of is = is ∙ (ap (λ (r : Rule). finding_at r f k 0) by ∙ ap (λ (g : File). finding_at rule g k 0) of)

pub adds_row : {R : Type 0} (Leaves : R → Type 0) (rule : Rule) (k : ℕ) (row : R) (leaves : Bool) (place : Finding) (old new : List Finding)
    → (IsTrue leaves ↔ Leaves row) → place ≡ hold_finding rule k
    → ((P : Finding → Type 0) → (leaves ≡ true → P place) → ((x : Finding) → P x → (leaves ≡ true) × (x ≡ place)) → Adds P old new)
    → Adds (LeavesAt Leaves rule k row) old new
adds_row Leaves rule k row leaves place old new decides is adds =
    adds (LeavesAt Leaves rule k row) (λ h. (decides.0 h, is)) (λ x h. (decides.1 h.0, h.1 ∙ sym is))

-- a rule, from what its rows add
pub adds_rule : {R : Type 0} (Leaves : R → Type 0) (rows : List R) (rule : Rule) (a b : List Finding) → Adds (Among (λ k row. LeavesAt Leaves rule k row) rows) a b → Adds (BreaksIn Leaves rows rule) a b
adds_rule {R} Leaves rows rule a b adds = Adds-same (BreaksIn Leaves rows rule) adds
    (λ x h.
    let at : h.place ≡ x.index = sym (ap (λ (z : Finding). z.index) h.holds.1) in
    record {
      row = h.item;
      there = subst (λ (k : ℕ). slice_get rows k ≡ Some h.item) at h.there;
      leaves = h.holds.0;
      is = h.holds.1 ∙ ap (hold_finding rule) at;
    })
    (λ x h. record { place = x.index; item = h.row; there = h.there; holds = (h.leaves, h.is) })

abbrev finding : ℕ → ℕ → ℕ → ℕ → Finding
finding rule file index member = record { rule = rule; file = file; index = index; member = member }

finding_is : (x : Finding) (r f m : ℕ) → x.rule ≡ r → x.file ≡ f → x.member ≡ m → x ≡ finding r f x.index m
finding_is x r f m rule file member =
    ap (λ (n : ℕ). finding n x.file x.index x.member) rule ∙ ap (λ (n : ℕ). finding r n x.index x.member) file ∙ ap (λ (n : ℕ). finding r f x.index n) member

into_hold : (rule : Rule) (features : Features) (t : ℕ) (x : Finding) → HoldBreaks rule features t x.index → x ≡ hold_finding rule x.index → BreaksHold features t x
into_hold rule features t x breaks is = record {
  rule = rule;
  number = ap (λ (z : Finding). z.rule) is;
  breaks = breaks;
  in_file = ap (λ (z : Finding). z.file) is;
  at_member = ap (λ (z : Finding). z.member) is;
}

-- the rule on units, on anchors, on amenities and on openings
abbrev Units : Features → ℕ → Finding → Type 0
Units features t x = BreaksIn (UnitLeaves features t) features.units K1 x

abbrev Anchors : Features → ℕ → Finding → Type 0
Anchors features t x = BreaksIn (AnchorLeaves features t) features.anchors K2 x

abbrev Amenities : Features → ℕ → Finding → Type 0
Amenities features t x = BreaksIn (AmenityLeaves features t) features.amenities K3 x

abbrev Openings : Features → ℕ → Finding → Type 0
Openings features t x = BreaksIn (OpeningLeaves features t) features.openings K4 x

abbrev Parts : Features → ℕ → Finding → Type 0
Parts features t x = Units features t x ⊎ (Anchors features t x ⊎ (Amenities features t x ⊎ Openings features t x))

part : (rule : Rule) (features : Features) (t : ℕ) (x : Finding) → HoldBreaks rule features t x.index → x ≡ hold_finding rule x.index → Parts features t x
part K1 features t x h e = inl (record { row = h.0; there = h.1; leaves = h.2; is = e })
part K2 features t x h e = inr (inl (record { row = h.0; there = h.1; leaves = h.2; is = e }))
part K3 features t x h e = inr (inr (inl (record { row = h.0; there = h.1; leaves = h.2; is = e })))
part K4 features t x h e = inr (inr (inr (record { row = h.0; there = h.1; leaves = h.2; is = e })))
part _ features t x h e = absurd h

pub four_rules : (features : Features) (t : ℕ) (a b c d e : List Finding) → Adds (Units features t) a b → Adds (Anchors features t) b c → Adds (Amenities features t) c d → Adds (Openings features t) d e
    → Adds (BreaksHold features t) a e
four_rules features t a b c d e one two three four = Adds-then (BreaksHold features t) one
    (Adds-then (λ x. Anchors features t x ⊎ (Amenities features t x ⊎ Openings features t x)) two
    (Adds-then (λ x. Amenities features t x ⊎ Openings features t x) three four (λ x h. inl h) (λ x h. inr h) (λ x h. h))
    (λ x h. inl h) (λ x h. inr h) (λ x h. h))
    (λ x h. into_hold K1 features t x (h.row, h.there, h.leaves) h.is)
    (λ x h. elim h [
      | inl second ↦ into_hold K2 features t x (second.row, second.there, second.leaves) second.is
      | inr rest ↦ elim rest [
        | inl third ↦ into_hold K3 features t x (third.row, third.there, third.leaves) third.is
        | inr fourth ↦ into_hold K4 features t x (fourth.row, fourth.there, fourth.leaves) fourth.is
      ]
    ])
    (λ x h. part h.rule features t x h.breaks (finding_is x (rule_number h.rule) (file_number (file_judged h.rule)) 0 h.number h.in_file h.at_member))
