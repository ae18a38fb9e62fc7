-- The notes on the items of two folders of the same rows are the same, less those on the text of a restriction; and the fixed form has none of these.
use Rattle.std.proofs.Common.{◌≡◌, ◌≢◌, ◌∙◌, ℕ, List, Option, Some, None, Bool, true, false, refl, sym, ap, subst, arith, codes}
use Rattle.std.specs.Prelude.{slice_get}
use Rattle.exact_json.specs.Json.{Json, text, text_bytes}
use Rattle.venue_types.specs.declared.features.Features.{Features}
use Rattle.venue_types.specs.declared.features.UnitRow.{UnitRow}
use Rattle.venue_types.specs.declared.files.Files.{Files}
use Rattle.venue_types.specs.declared.finding.Note.{Note}
use Rattle.venue_types.specs.declared.folder_file.File.{File}
use Rattle.venue_types.specs.declared.folder_file.File.TheVariants as file
use Rattle.venue_types.specs.FolderFiles.{file_number}
use Rattle.venue_types.proofs.Items.{from_map}
use Rattle.imdf_access.specs.Categories.{is_known_unit, passage_of}
use Rattle.imdf_schema.specs.declared.table.Property.TheVariants as property
use Rattle.imdf_schema.specs.Rules.{note_number}
use Rattle.imdf_schema.specs.Items as item
use Rattle.imdf_schema.specs.Contents.{HasContent, content_items}
use Rattle.imdf_rows.specs.Rows.{IsUnitRow, IsRelationshipRow}
use Rattle.imdf_rows.specs.Folder.{AreFeatures}
use Rattle.imdf_write.specs.Values.{if_so}
use Rattle.imdf_write.specs.Rows.{unit_feature}
use Rattle.imdf_write.specs.Folder.{features_of}
use Rattle.imdf_schema.specs.declared.rules.NoteKind.{NoteKind}
use Rattle.imdf_schema.specs.declared.rules.NoteKind.TheVariants.{N1, N2, N5}
use Rattle.imdf_read.specs.Noted.{ItemNotes, IsNoted}
use Rattle.writing_law.specs.Written.{written, content_of, FindsNothing}
use Rattle.writing_law.proofs.Files.{items_there}
use Rattle.writing_law.proofs.KeptFiles.{HasOneJson}
use Rattle.writing_law.proofs.KeptFolder.{one_content}
use Rattle.writing_law.proofs.ReadRows.{item_keeps}
use Rattle.writing_law.proofs.Twins.{twin_of, is_one, unit_text, relationship_text, field_is}

-- a note on an item of the one folder is due to its twin in the other
module _ (one : HasOneJson) (files again : Files) (features : Features) (are : AreFeatures files features) (others : AreFeatures again features) (none : FindsNothing again) where
  of_kind : (note : NoteKind) → note ≢ N5 → (x : Note) → x.note ≡ note_number note → (source : File) (content : Option Json) (v : Json) → HasContent files source content
      → slice_get (content_items content) x.index ≡ Some v → ItemNotes note source v → x.file ≡ file_number source → x.member ≡ 0 → IsNoted again x
  of_kind N1 kept x number source content v held there notes at_file at_member =
      let unit : HasContent files file.Unit content = subst (λ (f : File). HasContent files f content) notes.0 held in
      let twin = twin_of one IsUnitRow files again file.Unit features.units are.units others.units content x.index v unit there in
      let keeps = item_keeps again features none file.Unit twin.content (λ e. cc) twin.held x.index twin.twin twin.there in
      let found = unit_text twin.twin keeps in
      let old : twin.row.category ≡ notes.1.0 = twin.is.category ∙ field_is (item.property v property.Category) notes.1.0 notes.1.1 in
      let new : twin.row.category ≡ found.0 = twin.is_again.category ∙ field_is (item.property twin.twin property.Category) found.0 found.1 in
      let same : notes.1.0 ≡ found.0 = sym old ∙ new in
      record {
        kind = N1;
        number = number;
        source = file.Unit;
        content = twin.content;
        held = twin.held;
        feature = twin.twin;
        there = twin.there;
        sound = is_one file.Unit twin.twin keeps;
        notes = (refl, (found.0, found.1, subst (λ (c : List ℕ). is_known_unit c ≡ false) same notes.1.2));
        at_file = at_file ∙ ap file_number notes.0;
        at_member = at_member;
      }
  of_kind N2 kept x number source content v held there notes at_file at_member =
      let relationship : HasContent files file.Relationship content = subst (λ (f : File). HasContent files f content) notes.0 held in
      let twin = twin_of one IsRelationshipRow files again file.Relationship features.relationships are.relationships others.relationships content x.index v relationship there in
      let keeps = item_keeps again features none file.Relationship twin.content (λ e. cc) twin.held x.index twin.twin twin.there in
      let found = relationship_text twin.twin keeps in
      let old : twin.row.kind ≡ passage_of notes.1.0 = twin.is.kind ∙ ap passage_of (field_is (item.property v property.Category) notes.1.0 notes.1.1) in
      let new : twin.row.kind ≡ passage_of found.0 = twin.is_again.kind ∙ ap passage_of (field_is (item.property twin.twin property.Category) found.0 found.1) in
      let no_passage : passage_of found.0 ≡ None = sym new ∙ old ∙ notes.1.2 in
      record {
        kind = N2;
        number = number;
        source = file.Relationship;
        content = twin.content;
        held = twin.held;
        feature = twin.twin;
        there = twin.there;
        sound = is_one file.Relationship twin.twin keeps;
        notes = (refl, (found.0, found.1, no_passage));
        at_file = at_file ∙ ap file_number notes.0;
        at_member = at_member;
      }
  of_kind N5 kept x number source content v held there notes at_file at_member = absurd (kept refl)
  of_kind _ kept x number source content v held there notes at_file at_member = absurd notes

  pub noted_again : (x : Note) → x.note ≢ 5 → IsNoted files x → IsNoted again x
  noted_again x kept noted =
      of_kind noted.kind (λ e. kept (noted.number ∙ ap note_number e)) x noted.number noted.source noted.content noted.feature noted.held noted.there noted.notes noted.at_file noted.at_member

-- what is written of a restriction is no other text
restricted_text : (holds : Bool) (bytes : List ℕ) → text_bytes (if_so holds (text (codes "restricted"))) ≡ Some bytes → bytes ≡ codes "restricted"
restricted_text true bytes e = sym (some_same (codes "restricted") bytes e)
  where
    some_same : (a b : List ℕ) → Some a ≡ Some b → a ≡ b
    some_same a b e = cc
restricted_text false bytes e = absurd (let no : None ≡ Some bytes = e in cc)

-- a written unit has no note on its restriction
unit_plain : (row : UnitRow) → ¬ ItemNotes N5 file.Unit (unit_feature file.Unit row)
unit_plain row notes = notes.1.3 (restricted_text row.restricted notes.1.0 notes.1.1)

module _ (one : HasOneJson) (features : Features) (held : HasContent (written features) file.Unit (content_of (features_of file.Unit features))) where
  none_of_kind : (note : NoteKind) (source : File) (content : Option Json) (k : ℕ) (v : Json) → HasContent (written features) source content → slice_get (content_items content) k ≡ Some v
      → ItemNotes note source v → note_number note ≢ 5
  none_of_kind N5 source content k v is there notes e =
      let unit : HasContent (written features) file.Unit content = subst (λ (f : File). HasContent (written features) f content) notes.0 is in
      let same : content ≡ content_of (features_of file.Unit features) = one_content one (written features) file.Unit content (content_of (features_of file.Unit features)) unit held in
      let at : slice_get (content_items (content_of (features_of file.Unit features))) k ≡ Some v = subst (λ (c : Option Json). slice_get (content_items c) k ≡ Some v) same there in
      let row = from_map (unit_feature file.Unit) features.units k v (subst (λ (vs : List Json). slice_get vs k ≡ Some v) (items_there (features_of file.Unit features)) at) in
      unit_plain row.0 (subst (λ (w : Json). ItemNotes N5 file.Unit w) (sym row.2) (refl, notes.1))
  none_of_kind _ source content k v is there notes e = omega arith

  pub none_on_restrictions : (x : Note) → IsNoted (written features) x → x.note ≢ 5
  none_on_restrictions x noted e = none_of_kind noted.kind noted.source noted.content x.index noted.feature noted.held noted.there noted.notes (sym noted.number ∙ e)
