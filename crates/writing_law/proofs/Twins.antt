-- Two folders of the same rows, in which the first phase finds nothing: an item of one and its twin in the other.
use Rattle.std.proofs.Common.{◌≡◌, ℕ, zero, suc, List, [], ◌∷◌, Option, Some, None, unwrap_or, is_some, Bool, true, false, refl, ap, subst, inl, arith}
use Rattle.std.specs.Prelude.{Contains, slice_get}
use Rattle.std.specs.List.{AllZip}
use Rattle.exact_json.specs.Json.{Json, text_bytes}
use Rattle.venue_types.specs.declared.files.Files.{Files}
use Rattle.venue_types.specs.declared.folder_file.File.{File}
use Rattle.venue_types.specs.declared.folder_file.File.TheVariants as file
use Rattle.imdf_schema.specs.declared.forms.Form.{Form}
use Rattle.imdf_schema.specs.declared.forms.Form.TheVariants as form
use Rattle.imdf_schema.specs.declared.table.Property.TheVariants as property
use Rattle.imdf_schema.specs.declared.table.PropertyRow.{PropertyRow}
use Rattle.imdf_schema.specs.declared.table.ReferenceTarget.TheVariants as target
use Rattle.imdf_schema.specs.Values.{is_text}
use Rattle.imdf_schema.specs.Forms.{Fits}
use Rattle.imdf_schema.specs.Properties.{properties, property_number}
use Rattle.imdf_schema.specs.Items as item
use Rattle.imdf_schema.specs.Items.{is_feature}
use Rattle.imdf_schema.specs.Contents.{HasContent, content_items}
use Rattle.imdf_rows.specs.Fields.{text_field}
use Rattle.imdf_rows.specs.Folder.{AreRows}
use Rattle.imdf_schema.specs.declared.rules.Rule.TheVariants.{C2, C6}
use Rattle.writing_law.proofs.Zipped.{twin_at}
use Rattle.writing_law.proofs.Keeps.{BreaksNone}
use Rattle.writing_law.proofs.KeptFiles.{HasOneJson}
use Rattle.writing_law.proofs.KeptFolder.{one_content}
use Rattle.writing_law.proofs.ReadRows.{true_of}

-- ---- items and rows

-- the item of the row at a place
item_at : {A B : Type 0} (R : A → B → Type 0) (xs : List A) (ys : List B) (k : ℕ) (y : B) → AllZip R xs ys → slice_get ys k ≡ Some y → (x : A) × (slice_get xs k ≡ Some x) × R x y
item_at R xs [] k y zip at = absurd (let no : None ≡ Some y = at in cc)
item_at R [] (b ∷ ys) k y zip at = absurd zip
item_at R (a ∷ xs) (b ∷ ys) zero y zip at = let same : b ≡ y = cc in (a, refl, subst (λ z. R a z) same zip.0)
item_at R (a ∷ xs) (b ∷ ys) (suc k) y zip at = item_at R xs ys k y zip.1 at

-- the item of the other folder at the place of this one, and the row of both
pub record Twin {Row : Type 0} (IsRow : Json → Row → Type 0) (again : Files) (f : File) (k : ℕ) (v : Json) : Type 0 where
  pub row : Row
  pub is : IsRow v row
  pub content : Option Json
  pub held : HasContent again f content
  pub twin : Json
  pub there : slice_get (content_items content) k ≡ Some twin
  pub is_again : IsRow twin row

pub twin_of : HasOneJson → {Row : Type 0} (IsRow : Json → Row → Type 0) (files again : Files) (f : File) (rows : List Row) → AreRows IsRow files f rows → AreRows IsRow again f rows
    → (content : Option Json) (k : ℕ) (v : Json) → HasContent files f content → slice_get (content_items content) k ≡ Some v → Twin IsRow again f k v
twin_of one {Row} IsRow files again f rows are other content k v held there =
    let same : content ≡ are.content = one_content one files f content are.content held are.held in
    let at : slice_get (content_items are.content) k ≡ Some v = subst (λ (c : Option Json). slice_get (content_items c) k ≡ Some v) same there in
    let row = twin_at IsRow (content_items are.content) rows k v are.each at in
    let twin = item_at IsRow (content_items other.content) rows k row.0 other.each row.1 in
    record { row = row.0; is = row.2; content = other.content; held = other.held; twin = twin.0; there = twin.1; is_again = twin.2 }

-- ---- items that break no rule

not_both : (b : Bool) → b ≡ true → b ≡ false → ⊥
not_both b p q = cc

pub is_one : (f : File) (v : Json) → BreaksNone f v → is_feature v ≡ true
is_one f v keeps = true_of (is_feature v) (λ e. keeps C2 0 (e, refl))

some_bytes : (o : Option (List ℕ)) → is_some o ≡ true → (bytes : List ℕ) × (o ≡ Some bytes)
some_bytes None e = absurd (cc)
some_bytes (Some bytes) e = (bytes, refl)

-- a property that is to be a text is one
text_there : (p : PropertyRow) (v : Json) → Contains properties p → p.form ≡ form.Text → BreaksNone p.file v → (bytes : List ℕ) × (text_bytes (item.property v p.property) ≡ Some bytes)
text_there p v there text keeps =
    some_bytes (text_bytes (item.property v p.property))
    (true_of (is_text (item.property v p.property)) (λ e.
    keeps C6 (property_number p.property)
    (is_one p.file v keeps, (p, there, refl, inl ((λ fits. not_both (is_text (item.property v p.property)) (subst (λ (f : Form). Fits f (item.property v p.property)) text fits) e), refl)))))

-- the rows of the table on categories
unit_category : PropertyRow
unit_category = record { property = property.Category; file = file.Unit; form = form.Text; names = target.Nothing }

relationship_category : PropertyRow
relationship_category = record { property = property.Category; file = file.Relationship; form = form.Text; names = target.Nothing }

pub unit_text : (v : Json) → BreaksNone file.Unit v → (bytes : List ℕ) × (text_bytes (item.property v property.Category) ≡ Some bytes)
unfolding unit_category
unit_text v keeps = text_there unit_category v (20, omega arith, refl) refl keeps

pub relationship_text : (v : Json) → BreaksNone file.Relationship v → (bytes : List ℕ) × (text_bytes (item.property v property.Category) ≡ Some bytes)
unfolding relationship_category
relationship_text v keeps = text_there relationship_category v (22, omega arith, refl) refl keeps

-- the text that a field is
pub field_is : (v : Json) (bytes : List ℕ) → text_bytes v ≡ Some bytes → text_field v ≡ bytes
field_is v bytes e = ap (λ (o : Option (List ℕ)). unwrap_or o []) e
