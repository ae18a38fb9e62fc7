-- The notes on an item, put together.
use Rattle.std.proofs.Common.{◌≡◌, ◌∙◌, ℕ, List, [], ◌∷◌, Bool, true, false, IsTrue, ◌↔◌, refl, sym, arith}
use Rattle.std.specs.Prelude.{Contains}
use Rattle.venue_types.proofs.Items.{at_member, member_at}
use Rattle.venue_types.specs.declared.finding.Note.{Note}
use Rattle.exact_json.specs.Json.{Json}
use Rattle.venue_types.specs.declared.folder_file.File.{File}
use Rattle.imdf_schema.specs.Items.{is_feature}
use Rattle.imdf_schema.specs.declared.rules.NoteKind.{NoteKind}
use Rattle.imdf_schema.specs.declared.rules.NoteKind.TheVariants.{N1, N2, N5}
use Rattle.imdf_read.specs.Noted.{ItemNotes}
use Rattle.rule_reports.specs.Passes.{Adds}
use Rattle.imdf_schema.specs.Places.{note_at}
use Rattle.imdf_read.specs.Gathering.{NotesBy, NotesInItem}
use Rattle.rule_reports.proofs.Adding.{Adds-same, Adds-none, Among}

-- a note of this kind is due
abbrev pub Due : File → ℕ → Json → NoteKind → Note → Type 0
Due f i item kind x = ItemNotes kind f item × (x ≡ note_at kind f i 0)

pub adds_note : (kind : NoteKind) (f : File) (i : ℕ) (item : Json) (due : Bool) (place : Note) (old new : List Note)
    → (IsTrue due ↔ ItemNotes kind f item) → place ≡ note_at kind f i 0
    → ((P : Note → Type 0) → (due ≡ true → P place) → ((x : Note) → P x → (due ≡ true) × (x ≡ place)) → Adds P old new)
    → Adds (Due f i item kind) old new
adds_note kind f i item due place old new decides is adds =
    adds (Due f i item kind) (λ h. (decides.0 h, is)) (λ x h. (decides.1 h.0, h.1 ∙ sym is))

pub notes_by : (kinds : List NoteKind) (f : File) (i : ℕ) (item : Json) (a b : List Note) → Adds (Among (λ k kind. Due f i item kind) kinds) a b → Adds (NotesBy kinds f i item) a b
notes_by kinds f i item a b adds = Adds-same (NotesBy kinds f i item) adds
    (λ x h. record { kind = h.item; listed = member_at kinds h.place h.item h.there; due = h.holds.0; is = h.holds.1 })
    (λ x h. let at = at_member kinds h.kind h.listed in record { place = at.0; item = h.kind; there = at.1; holds = (h.due, h.is) })

abbrev all_kinds : List NoteKind
all_kinds = N1 ∷ N2 ∷ N5 ∷ []

is_listed : (kind : NoteKind) (f : File) (item : Json) → ItemNotes kind f item → Contains all_kinds kind
is_listed N1 f item due = (0, omega arith, refl)
is_listed N2 f item due = (1, omega arith, refl)
is_listed N5 f item due = (2, omega arith, refl)
is_listed _ f item due = absurd due

pub feature_notes : (f : File) (i : ℕ) (item : Json) (a b : List Note) → is_feature item ≡ true → Adds (NotesBy (N1 ∷ N2 ∷ N5 ∷ []) f i item) a b → Adds (NotesInItem f i item) a b
feature_notes f i item a b feature adds = Adds-same (NotesInItem f i item) adds
    (λ x h. record { kind = h.kind; sound = feature; due = h.due; is = h.is })
    (λ x h. record { kind = h.kind; listed = is_listed h.kind f item h.due; due = h.due; is = h.is })

pub no_notes : (f : File) (i : ℕ) (item : Json) (a : List Note) → is_feature item ≡ false → Adds (NotesInItem f i item) a a
no_notes f i item a not = Adds-same (NotesInItem f i item) (Adds-none a) (λ x h. absurd h) (λ x h. let e : is_feature item ≡ true = h.sound in absurd (let c : true ≡ false = sym e ∙ not in cc))
