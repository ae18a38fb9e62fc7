-- The rule on properties, put together from its tests.
use Rattle.std.proofs.Common.{◌≡◌, ◌∙◌, ℕ, ◌+◌, ◌*◌, List, [], Some, None, Bool, true, false, not, refl, sym, ap, subst, inl, inr, ◌↔◌, IsTrue}
use Rattle.std.specs.Prelude.{slice_get}
use Rattle.venue_types.proofs.Items.{at_member, member_at}
use Rattle.venue_types.specs.declared.finding.Finding.{Finding}
use Rattle.exact_json.specs.Json.{Json}
use Rattle.venue_types.specs.declared.folder_file.File.{File}
use Rattle.imdf_schema.specs.declared.table.PropertyRow.{PropertyRow}
use Rattle.imdf_schema.specs.Properties.{property_number}
use Rattle.imdf_schema.specs.Forms.{Fits, items_of, item_fits}
use Rattle.imdf_schema.specs.Items.{property}
use Rattle.imdf_schema.specs.declared.rules.Rule.TheVariants.{C6}
use Rattle.rule_reports.specs.Passes.{Adds}
use Rattle.imdf_schema.specs.Places.{finding_at}
use Rattle.imdf_read.specs.Gathering.{FindsBadItem, FindsMisformed, FindsMisformedOf}
use Rattle.rule_reports.proofs.Adding.{Adds-same, Adds-then, Among, Adds-none}

-- an item of the list at this place in it isn't of its form
abbrev pub BadItem : PropertyRow → File → ℕ → ℕ → Json → Finding → Type 0
BadItem row f i k item y = (item_fits row.form item ≡ false) × (y ≡ finding_at C6 f i (property_number row.property + 64 * k))

not_true : (b : Bool) → not b ≡ true → b ≡ false
not_true true e = cc
not_true false e = refl

pub adds_bad_item : (row : PropertyRow) (f : File) (i k : ℕ) (item : Json) (fit : Bool) (place : Finding) (old new : List Finding)
    → fit ≡ item_fits row.form item → place ≡ finding_at C6 f i (property_number row.property + 64 * k)
    → ((P : Finding → Type 0) → (not fit ≡ true → P place) → ((x : Finding) → P x → (not fit ≡ true) × (x ≡ place)) → Adds P old new)
    → Adds (BadItem row f i k item) old new
adds_bad_item row f i k item fit place old new fits is adds =
    adds (BadItem row f i k item) (λ h. (sym fits ∙ not_true fit h, is)) (λ x h. (ap not (fits ∙ h.0), h.1 ∙ sym is))

pub bad_items : (row : PropertyRow) (f : File) (i : ℕ) (items : List Json) (a b : List Finding) → Adds (Among (BadItem row f i) items) a b → Adds (FindsBadItem row f i items) a b
bad_items row f i items a b adds = Adds-same (FindsBadItem row f i items) adds
    (λ x h. record { place = h.place; item = h.item; there = h.there; unfit = h.holds.0; is = h.holds.1 })
    (λ x h. record { place = h.place; item = h.item; there = h.there; holds = (h.unfit, h.is) })

-- the property as a whole isn't of its form
abbrev pub BadWhole : PropertyRow → File → ℕ → Json → Finding → Type 0
BadWhole row f i v y = (¬ Fits row.form v) × (y ≡ finding_at C6 f i (property_number row.property))

pub adds_bad_whole : (row : PropertyRow) (f : File) (i : ℕ) (v : Json) (fit : Bool) (place : Finding) (old new : List Finding)
    → (IsTrue fit ↔ Fits row.form v) → place ≡ finding_at C6 f i (property_number row.property)
    → ((P : Finding → Type 0) → (not fit ≡ true → P place) → ((x : Finding) → P x → (not fit ≡ true) × (x ≡ place)) → Adds P old new)
    → Adds (BadWhole row f i v) old new
adds_bad_whole row f i v fit place old new fits is adds =
    adds (BadWhole row f i v) (λ h. ((λ fine. let t : fit ≡ true = fits.1 fine in let e : fit ≡ false = not_true fit h in cc), is)) (λ x h. (unfit fit h.0 fits, h.1 ∙ sym is))
  where
    unfit : (b : Bool) → ¬ Fits row.form v → (IsTrue b ↔ Fits row.form v) → not b ≡ true
    unfit true bad both = absurd (bad (both.0 refl))
    unfit false bad both = refl

-- the whole, then the items
pub misformed : (row : PropertyRow) (f : File) (i : ℕ) (item : Json) (js : List Json) (a b c : List Finding) → row.file ≡ f → items_of row.form (property item row.property) ≡ js
    → Adds (BadWhole row f i (property item row.property)) a b → Adds (FindsBadItem row f i js) b c → Adds (FindsMisformed f i item row) a c
misformed row f i item js a b c own list one other = Adds-then (FindsMisformed f i item row) one other
    (λ x h. record { of_file = own; breaks = inl (h.0, ap (λ (z : Finding). z.member) h.1); is = h.1 ∙ ap (finding_at C6 f i) (sym (ap (λ (z : Finding). z.member) h.1)) })
    (λ x h. record {
      of_file = own;
      breaks = inr (h.place, h.item, subst (λ (xs : List Json). slice_get xs h.place ≡ Some h.item) (sym list) h.there, h.unfit, ap (λ (z : Finding). z.member) h.is);
      is = h.is ∙ ap (finding_at C6 f i) (sym (ap (λ (z : Finding). z.member) h.is));
    })
    (λ x h. elim h.breaks [
      | inl whole ↦ inl (whole.0, h.is ∙ ap (finding_at C6 f i) whole.1)
      | inr bad ↦ inr (record {
        place = bad.0;
        item = bad.1;
        there = subst (λ (xs : List Json). slice_get xs bad.0 ≡ Some bad.1) list bad.2;
        unfit = bad.3;
        is = h.is ∙ ap (finding_at C6 f i) bad.4;
      })
    ])

-- no items
pub no_items : (row : PropertyRow) (f : File) (i : ℕ) (a : List Finding) → Adds (FindsBadItem row f i []) a a
no_items row f i a = Adds-same (FindsBadItem row f i []) (Adds-none a) (λ x h. absurd h) (λ x h. let e : None ≡ Some h.item = h.there in cc)

-- another file's property
pub not_ours : (row : PropertyRow) (f : File) (i : ℕ) (item : Json) (a : List Finding) → (row.file ≡ f → ⊥) → Adds (FindsMisformed f i item row) a a
not_ours row f i item a other = Adds-same (FindsMisformed f i item row) (Adds-none a) (λ x h. absurd h) (λ x h. absurd (other h.of_file))

pub misformed_of : (rows : List PropertyRow) (f : File) (i : ℕ) (item : Json) (a b : List Finding) → Adds (Among (λ k row. FindsMisformed f i item row) rows) a b → Adds (FindsMisformedOf rows f i item) a b
misformed_of rows f i item a b adds = Adds-same (FindsMisformedOf rows f i item) adds
    (λ x h. record { row = h.item; listed = member_at rows h.place h.item h.there; finds = h.holds })
    (λ x h. let at = at_member rows h.row h.listed in record { place = at.0; item = h.row; there = at.1; holds = h.finds })
