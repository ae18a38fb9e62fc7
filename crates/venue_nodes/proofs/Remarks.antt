-- What the pass over notes adds, from what its parts add.
use Rattle.std.proofs.Common.{◌≡◌, ℕ, zero, suc, ◌+◌, ◌*◌, ◌<◌, ◌≤◌, Bool, true, false, not, List, [], ◌∷◌, ◌++◌, length, map, get_or, Option, Some, None, refl, sym, ap, subst, ◌∙◌, ◌⊎◌, inl, inr, arith}
use Rattle.std.specs.Prelude.{Contains, slice_get, IsSome, is_some}
use Rattle.std.specs.List.{enumerate_from}
use Rattle.std.proofs.lemmas.List.{get_or_default}
use Rattle.std.proofs.lemmas.Option.{slice_get_within, slice_get_read, same_Some}
use Rattle.std.proofs.lemmas.List.Elements.{Contains-append_left, Contains-append_right, Contains-append_cases}
use Rattle.venue_types.proofs.Items.{Contains-nil, Contains-first, Contains-later, Contains-cons_cases}
use Rattle.venue_types.specs.declared.feature_id.FeatureId.{FeatureId}
use Rattle.venue_types.specs.declared.features.Features.{Features}
use Rattle.venue_types.specs.declared.features.Ref.{Ref}
use Rattle.venue_types.specs.declared.features.RelationshipRow.{RelationshipRow}
use Rattle.venue_types.specs.declared.finding.Note.{Note}
use Rattle.venue_types.specs.declared.link.Touches.{Touches}
use Rattle.imdf_schema.specs.declared.table.Property.{Property}
use Rattle.imdf_schema.specs.declared.table.Property.TheVariants as property
use Rattle.venue_types.specs.FolderFiles.{file_number}
use Rattle.imdf_schema.specs.Properties.{property_number}
use Rattle.plane_exact.specs.Opening.{AreTouches}
use Rattle.rule_reports.specs.Passes.{found, Adds}
use Rattle.rule_reports.proofs.Adding.{Below, Adds-step, Adds-end, Adds-found, Adds-same, Adds-then}
use Rattle.venue_nodes.specs.declared.notes.PlaceNote.{PlaceNote}
use Rattle.venue_nodes.specs.declared.notes.PlaceNote.TheVariants.{N3, N4}
use Rattle.venue_nodes.specs.declared.nodes.Nodes.{Nodes}
use Rattle.venue_nodes.specs.Nodes.{place_of}
use Rattle.venue_nodes.specs.Noting.{place_note, LacksNode, LackNodes, LeavesElement, LeaveElements, IsEmptyRow, AreEmpty}
use Rattle.imdf_schema.specs.Rules.{note_number}
use Rattle.venue_nodes.specs.Unplaced.{Element, element_at, one_or_none, elements, note_of, file_noted, PlaceNotes, IsUnplaced}
use Rattle.venue_nodes.specs.Views.{find_place}
use Rattle.venue_nodes.proofs.Spread.{from_map}
use Rattle.venue_nodes.proofs.Judged.{Contains-map}

-- ---- one test

none_of : {X : Type 0} (o : Option X) (b : Bool) → is_some o ≡ not b → b ≡ true → o ≡ None
none_of None b e h = refl
none_of (Some x) true e h = cc
none_of (Some x) false e h = cc

of_none : {X : Type 0} (o : Option X) (b : Bool) → is_some o ≡ not b → o ≡ None → b ≡ true
of_none None true e h = refl
of_none None false e h = cc
of_none (Some x) b e h = cc

-- ---- references of a property

pub reference_step : (find : FeatureId → Option ℕ) (index : ℕ) (p : Property) (refs : List Ref) (k : ℕ) (d : Ref) (o : Option ℕ) (nowhere : Bool) (number : ℕ) (note : Note) (a b c : List Note)
    → k < length refs → o ≡ find (get_or refs k d).id → is_some o ≡ not nowhere → number ≡ property_number p → note ≡ place_note N3 index (number + 64 * k) → c ≡ b ++ found nowhere note
    → Adds (Below (LacksNode find index p) refs k) a b → Adds (Below (LacksNode find index p) refs (k + 1)) a c
reference_step find index p refs k d o nowhere number note a b c within looked tested numbered is more before =
    let r = get_or refs k d in
    let there : slice_get refs k ≡ Some r = slice_get_read refs (length refs) k r refl within (get_or_default refs k d r within) in
    let told : note ≡ place_note N3 index (property_number p + 64 * k) = is ∙ ap (λ (n : ℕ). place_note N3 index (n + 64 * k)) numbered in
    Adds-step (LacksNode find index p) refs k r there before
    (Adds-found (LacksNode find index p k r) nowhere note b c more
    (λ h. record { nowhere = sym looked ∙ none_of o nowhere tested h; is = told })
    (λ x h. (of_none o nowhere tested (looked ∙ h.nowhere), h.is ∙ sym told)))

pub references_end : (find : FeatureId → Option ℕ) (index : ℕ) (p : Property) (refs : List Ref) (k : ℕ) (a b : List Note) → length refs ≤ k → Adds (Below (LacksNode find index p) refs k) a b → Adds (LackNodes find index p refs) a b
references_end find index p refs k a b past adds = Adds-same (LackNodes find index p refs) (Adds-end (LacksNode find index p) refs k past adds)
    (λ x h. record { place = h.place; reference = h.item; there = h.there; lacks = h.holds })
    (λ x h. record { place = h.place; item = h.reference; there = h.there; holds = h.lacks })

-- ---- elements of a relationship

enumerated : {X : Type 0} (n k : ℕ) (xs : List X) (x : X) → slice_get xs k ≡ Some x → Contains (enumerate_from n xs) (n + k, x)
enumerated n k [] x e = cc
enumerated {X} n zero (y ∷ ys) x e =
    let same : y ≡ x = same_Some y x e in
    let none : n ≡ n + 0 = omega arith in
    subst (λ (i : ℕ). Contains (enumerate_from n (y ∷ ys)) (i, x)) none (subst (λ (z : X). Contains (enumerate_from n (y ∷ ys)) (n, z)) same (Contains-first (n, y) (enumerate_from (n + 1) ys)))
enumerated {X} n (suc k) (y ∷ ys) x e =
    let moved : n + 1 + k ≡ n + suc k = omega arith in
    subst (λ (i : ℕ). Contains (enumerate_from n (y ∷ ys)) (i, x)) moved (Contains-later (n, y) (enumerate_from (n + 1) ys) (n + 1 + k, x) (enumerated (n + 1) k ys x e))

from_enumerated : {X : Type 0} (n : ℕ) (xs : List X) (row : ℕ × X) → Contains (enumerate_from n xs) row → (k : ℕ) × (x : X) × (slice_get xs k ≡ Some x) × (row ≡ (n + k, x))
from_enumerated n [] row h = absurd (Contains-nil row h)
from_enumerated {X} n (y ∷ ys) row h = elim (Contains-cons_cases (n, y) (enumerate_from (n + 1) ys) row h) [
  | inl here ↦ let none : n ≡ n + 0 = omega arith in (0, y, refl, sym here ∙ ap (λ (i : ℕ). (i, y)) none)
  | inr there ↦
      let rest = from_enumerated (n + 1) ys row there in
      let moved : n + 1 + rest.0 ≡ n + suc rest.0 = omega arith in
      (suc rest.0, rest.1, rest.2, rest.3 ∙ ap (λ (i : ℕ). (i, rest.1)) moved)
]

-- the elements of a property
abbrev part : Property → List Ref → List Element
part p refs = map (element_at p) (enumerate_from 0 refs)

-- one of these elements has no node
record LacksIn (find : FeatureId → Option ℕ) (index : ℕ) (list : List Element) (x : Note) : Type 0 where
  element : Element
  has : Contains list element
  nowhere : find element.reference.id ≡ None
  is : x ≡ place_note N3 index element.member

into_part : (find : FeatureId → Option ℕ) (index : ℕ) (p : Property) (refs : List Ref) (x : Note) → LackNodes find index p refs x → LacksIn find index (part p refs) x
into_part find index p refs x h =
    let none : 0 + h.place ≡ h.place = omega arith in
    let row : Contains (enumerate_from 0 refs) (h.place, h.reference) = subst (λ (i : ℕ). Contains (enumerate_from 0 refs) (i, h.reference)) none (enumerated 0 h.place refs h.reference h.there) in
    record {
      element = element_at p (h.place, h.reference);
      has = Contains-map (element_at p) (enumerate_from 0 refs) (h.place, h.reference) row;
      nowhere = h.lacks.nowhere;
      is = h.lacks.is;
    }

from_part : (find : FeatureId → Option ℕ) (index : ℕ) (p : Property) (refs : List Ref) (x : Note) → LacksIn find index (part p refs) x → LackNodes find index p refs x
from_part find index p refs x h =
    let at = from_map (element_at p) (enumerate_from 0 refs) h.element h.has in
    let row = from_enumerated 0 refs at.0 at.1 in
    let none : 0 + row.0 ≡ row.0 = omega arith in
    let same : element_at p (row.0, row.1) ≡ h.element = ap (λ (i : ℕ). element_at p (i, row.1)) (sym none) ∙ ap (element_at p) (sym row.3) ∙ at.2 in
    record {
      place = row.0;
      reference = row.1;
      there = row.2;
      lacks = record {
        nowhere = ap (λ (e : Element). find e.reference.id) same ∙ h.nowhere;
        is = h.is ∙ ap (λ (e : Element). place_note N3 index e.member) (sym same);
      };
    }

split_parts : (find : FeatureId → Option ℕ) (index : ℕ) (xs ys : List Element) (x : Note) → LacksIn find index (xs ++ ys) x → LacksIn find index xs x ⊎ LacksIn find index ys x
split_parts find index xs ys x h = elim (Contains-append_cases xs ys h.element h.has) [
  | inl left ↦ inl (record { element = h.element; has = left; nowhere = h.nowhere; is = h.is })
  | inr right ↦ inr (record { element = h.element; has = right; nowhere = h.nowhere; is = h.is })
]

in_left : (find : FeatureId → Option ℕ) (index : ℕ) (xs ys : List Element) (x : Note) → LacksIn find index xs x → LacksIn find index (xs ++ ys) x
in_left find index xs ys x h = record { element = h.element; has = Contains-append_left xs ys h.element h.has; nowhere = h.nowhere; is = h.is }

in_right : (find : FeatureId → Option ℕ) (index : ℕ) (xs ys : List Element) (x : Note) → LacksIn find index ys x → LacksIn find index (xs ++ ys) x
in_right find index xs ys x h = record { element = h.element; has = Contains-append_right xs ys h.element h.has; nowhere = h.nowhere; is = h.is }

pub elements_added : (find : FeatureId → Option ℕ) (index : ℕ) (row : RelationshipRow) (between : List Ref) (a b c d : List Note) → IsSome row.kind → between ≡ row.between
    → Adds (LackNodes find index property.Origin (one_or_none row.origin)) a b → Adds (LackNodes find index property.Intermediary between) b c → Adds (LackNodes find index property.Destination (one_or_none row.destination)) c d
    → Adds (LeavesElement find index row) a d
elements_added find index row between a b c d passage same one two three =
    let origin = part property.Origin (one_or_none row.origin) in
    let middle = part property.Intermediary row.between in
    let destination = part property.Destination (one_or_none row.destination) in
    let second : Adds (LackNodes find index property.Intermediary row.between) b c = subst (λ (refs : List Ref). Adds (LackNodes find index property.Intermediary refs) b c) same two in
    let first_two : Adds (LacksIn find index (origin ++ middle)) a c = Adds-then (LacksIn find index (origin ++ middle)) one second
    (λ x h. in_left find index origin middle x (into_part find index property.Origin (one_or_none row.origin) x h))
    (λ x h. in_right find index origin middle x (into_part find index property.Intermediary row.between x h))
    (λ x h. elim (split_parts find index origin middle x h) [
      | inl left ↦ inl (from_part find index property.Origin (one_or_none row.origin) x left)
      | inr right ↦ inr (from_part find index property.Intermediary row.between x right)
    ]) in
    let all : Adds (LacksIn find index (elements row)) a d = Adds-then (LacksIn find index (elements row)) first_two three
    (λ x h. in_left find index (origin ++ middle) destination x h)
    (λ x h. in_right find index (origin ++ middle) destination x (into_part find index property.Destination (one_or_none row.destination) x h))
    (λ x h. elim (split_parts find index (origin ++ middle) destination x h) [
      | inl left ↦ inl left
      | inr right ↦ inr (from_part find index property.Destination (one_or_none row.destination) x right)
    ]) in
    Adds-same (LeavesElement find index row) all
    (λ x h. record { passage = passage; element = h.element; has = h.has; nowhere = h.nowhere; is = h.is })
    (λ x h. record { element = h.element; has = h.has; nowhere = h.nowhere; is = h.is })

-- ---- relationships

pub relationship_step : (find : FeatureId → Option ℕ) (rows : List RelationshipRow) (k : ℕ) (row : RelationshipRow) (a b c : List Note) → k < length rows → row ≡ get_or rows k row
    → Adds (Below (LeavesElement find) rows k) a b → Adds (LeavesElement find k row) b c → Adds (Below (LeavesElement find) rows (k + 1)) a c
relationship_step find rows k row a b c within at before here = Adds-step (LeavesElement find) rows k row (slice_get_read rows (length rows) k row refl within at) before here

pub relationships_end : (find : FeatureId → Option ℕ) (rows : List RelationshipRow) (k : ℕ) (a b : List Note) → length rows ≤ k → Adds (Below (LeavesElement find) rows k) a b → Adds (LeaveElements find rows) a b
relationships_end find rows k a b past adds = Adds-same (LeaveElements find rows) (Adds-end (LeavesElement find) rows k past adds)
    (λ x h. record { index = h.place; row = h.item; there = h.there; leaves = h.holds })
    (λ x h. record { place = h.index; item = h.row; there = h.there; holds = h.leaves })

-- ---- openings

pub opening_step : (rows : List (List ℕ)) (k : ℕ) (row : List ℕ) (empty : Bool) (note : Note) (a b c : List Note) → k < length rows → row ≡ get_or rows k row
    → (empty ≡ true → row ≡ []) → (row ≡ [] → empty ≡ true) → note ≡ place_note N4 k 0 → c ≡ b ++ found empty note
    → Adds (Below IsEmptyRow rows k) a b → Adds (Below IsEmptyRow rows (k + 1)) a c
opening_step rows k row empty note a b c within at into back is more before =
    Adds-step IsEmptyRow rows k row (slice_get_read rows (length rows) k row refl within at) before
    (Adds-found (IsEmptyRow k row) empty note b c more (λ h. record { empty = into h; is = is }) (λ x h. (back h.empty, h.is ∙ sym is)))

pub openings_end : (rows : List (List ℕ)) (k : ℕ) (a b : List Note) → length rows ≤ k → Adds (Below IsEmptyRow rows k) a b → Adds (AreEmpty rows) a b
openings_end rows k a b past adds = Adds-same (AreEmpty rows) (Adds-end IsEmptyRow rows k past adds)
    (λ x h. record { index = h.place; row = h.item; there = h.there; is = h.holds })
    (λ x h. record { place = h.index; item = h.row; there = h.there; holds = h.is })

-- ---- all of it

there_at : {X : Type 0} (xs : List X) (k : ℕ) → k < length xs → (x : X) × (slice_get xs k ≡ Some x)
there_at [] k h = absurd (omega (arith, h))
there_at (x ∷ xs) zero h = (x, refl)
there_at (x ∷ xs) (suc k) h = there_at xs k (omega arith)

some_there : {X : Type 0} (o : Option X) (x : X) → o ≡ Some x → IsSome o
some_there o x e = subst IsSome (sym e) refl

value_of : {X : Type 0} (o : Option X) → IsSome o → (x : X) × (o ≡ Some x)
value_of (Some x) h = (x, refl)
value_of None h = cc

note_is : (x : Note) (note : PlaceNote) → x.note ≡ note_number (note_of note) → x.file ≡ file_number (file_noted note) → (member : ℕ) → x.member ≡ member → x ≡ place_note note x.index member
note_is x note number in_file member at = ap (λ (n : ℕ). told n x.file x.member) number ∙ ap (λ (n : ℕ). told (note_number (note_of note)) n x.member) in_file ∙ ap (λ (n : ℕ). told (note_number (note_of note)) (file_number (file_noted note)) n) at where
  told : ℕ → ℕ → ℕ → Note
  told n f m = record { note = n; file = f; index = x.index; member = m }

-- a row without units is that of an opening that touches none
no_units : (row : List ℕ) → ((u : ℕ) → ¬ Contains row u) → row ≡ []
no_units [] none = refl
no_units (u ∷ us) none = absurd (none u (Contains-first u us))

empty_leads : (features : Features) (border_tol : ℕ) (touches : Touches) (x : Note) → AreTouches border_tol features touches → AreEmpty touches.rows x → PlaceNotes N4 features border_tol x.index x.member
empty_leads features border_tol touches x are h =
    let at : x.index ≡ h.index = ap (λ (n : Note). n.index) h.is.is in
    let within : h.index < length touches.rows = slice_get_within touches.rows h.index h.row h.there in
    let same = are.rows in
    let there = there_at features.openings h.index (omega arith) in
    subst (λ (i : ℕ). PlaceNotes N4 features border_tol i x.member) (sym at) (record {
      there = some_there (slice_get features.openings h.index) there.0 there.1;
      alone = λ u touch. Contains-nil u (subst (λ (row : List ℕ). Contains row u) h.is.empty ((are.exact h.index u h.row h.there).1 touch));
      at_member = ap (λ (n : Note). n.member) h.is.is;
    })

leads_empty : (features : Features) (border_tol : ℕ) (touches : Touches) (x : Note) → AreTouches border_tol features touches → x.note ≡ 4 → x.file ≡ 12 → PlaceNotes N4 features border_tol x.index x.member → AreEmpty touches.rows x
leads_empty features border_tol touches x are number in_file h =
    let opening = value_of (slice_get features.openings x.index) h.there in
    let within : x.index < length features.openings = slice_get_within features.openings x.index opening.0 opening.1 in
    let same = are.rows in
    let row = there_at touches.rows x.index (omega arith) in
    record {
      index = x.index;
      row = row.0;
      there = row.1;
      is = record {
        empty = no_units row.0 (λ u has. h.alone u ((are.exact x.index u row.0 row.1).0 has));
        is = note_is x N4 number in_file 0 h.at_member;
      };
    }

pub all_added : (features : Features) (border_tol : ℕ) (touches : Touches) (nodes : Nodes) (a b c : List Note) → ((id : FeatureId) → find_place nodes id ≡ place_of features id) → AreTouches border_tol features touches
    → Adds (LeaveElements (find_place nodes) features.relationships) a b → Adds (AreEmpty touches.rows) b c → Adds (IsUnplaced features border_tol) a c
all_added features border_tol touches nodes a b c are touch one two = Adds-then (IsUnplaced features border_tol) one two
    (λ x h. let at : x.index ≡ h.index = ap (λ (n : Note). n.index) h.leaves.is in
    record {
      note = N3;
      number = ap (λ (n : Note). n.note) h.leaves.is;
      in_file = ap (λ (n : Note). n.file) h.leaves.is;
      is = record {
        relationship = h.row;
        there = subst (λ (i : ℕ). slice_get features.relationships i ≡ Some h.row) (sym at) h.there;
        passage = h.leaves.passage;
        element = h.leaves.element;
        has = h.leaves.has;
        nowhere = sym (are h.leaves.element.reference.id) ∙ h.leaves.nowhere;
        at_member = ap (λ (n : Note). n.member) h.leaves.is;
      };
    })
    (λ x h. record { note = N4; number = ap (λ (n : Note). n.note) h.is.is; in_file = ap (λ (n : Note). n.file) h.is.is; is = empty_leads features border_tol touches x touch h })
    (λ x h. parted x h.note h.number h.in_file h.is) where
      parted : (x : Note) (note : PlaceNote) → x.note ≡ note_number (note_of note) → x.file ≡ file_number (file_noted note) → PlaceNotes note features border_tol x.index x.member → LeaveElements (find_place nodes) features.relationships x ⊎ AreEmpty touches.rows x
      parted x N3 number in_file h = inl (record {
        index = x.index;
        row = h.relationship;
        there = h.there;
        leaves = record { passage = h.passage; element = h.element; has = h.has; nowhere = are h.element.reference.id ∙ h.nowhere; is = note_is x N3 number in_file h.element.member h.at_member };
      })
      parted x N4 number in_file h = inr (leads_empty features border_tol touches x touch number in_file h)
