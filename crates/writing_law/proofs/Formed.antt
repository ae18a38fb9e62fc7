-- The values of the fixed form are of the forms that the table of properties asks for.
use Rattle.std.proofs.Common.{◌≡◌, ◌∙◌, ℕ, zero, suc, ◌≤◌, List, [], ◌∷◌, length, map, Option, Some, None, is_some, unwrap_or, Bool, true, false, ◌&&◌, cond, refl, sym, ap, subst, inl, inr, arith}
use Rattle.std.specs.Prelude.{All, IfSome, slice_get}
use Rattle.std.specs.List.{AllByRecursion, list_all}
use Rattle.std.specs.Str.{bytes_eq}
use Rattle.std.proofs.lemmas.List.Elements.{All-contains}
use Rattle.std.proofs.lemmas.Slice.Eq.{bytes_eq-Decides}
use Rattle.exact_json.specs.Json.{Json, null, text, object, items_list, members_list, member, last_member, first_of_two}
use Rattle.venue_types.specs.declared.feature_id.FeatureId.{FeatureId}
use Rattle.venue_types.specs.declared.features.Label.{Label}
use Rattle.venue_types.specs.declared.features.Ref.{Ref}
use Rattle.venue_types.specs.declared.point.Point.{Point}
use Rattle.venue_types.proofs.Items.{from_map, member_at}
use Rattle.imdf_schema.specs.declared.forms.Form.{Form}
use Rattle.imdf_schema.specs.declared.forms.Form.TheVariants as form
use Rattle.imdf_schema.specs.Values.{is_id, is_text}
use Rattle.imdf_schema.specs.Forms.{type_of, is_reference, Fits, items_of, item_fits}
use Rattle.imdf_write.specs.Values.{list_value, or_null, if_so, id_value, point_value, label_pairs, name_value, word_list, door_of, type_numbered, reference_value}
use Rattle.imdf_write.specs.Values.{items_of as written_items}
use Rattle.imdf_read.specs.Sound.{IsOnEarth}
use Rattle.writing_law.specs.Fit.{FitsId, FitsRef}
use Rattle.writing_law.proofs.Lists.{items_back}
use Rattle.writing_law.proofs.Ids.{id_back}
use Rattle.writing_law.proofs.Refs.{type_back}
use Rattle.writing_law.proofs.Figures.{point_back}

-- the value is of the form, and so is each item where it is a list
pub record IsFormed (f : Form) (v : Json) : Type 0 where
  pub fits : Fits f v
  pub items : (k : ℕ) (item : Json) → slice_get (items_of f v) k ≡ Some item → item_fits f item ≡ true

not_there : (k : ℕ) (item : Json) → slice_get [] k ≡ Some item → ⊥
not_there k item at = let no : None ≡ Some item = at in cc

list_fits : {A : Type 0} (Fit : A → Type 0) (test : Json → Bool) (value : A → Json) → ((x : A) → Fit x → test (value x) ≡ true) → (xs : List A) → All Fit xs
    → (k : ℕ) (item : Json) → slice_get (items_list (written_items (map value xs))) k ≡ Some item → test item ≡ true
list_fits Fit test value each xs fits k item at =
    let there : slice_get (map value xs) k ≡ Some item = subst (λ (vs : List Json). slice_get vs k ≡ Some item) (items_back (map value xs)) at in
    let found = from_map value xs k item there in
    subst (λ (v : Json). test v ≡ true) found.2 (each found.0 (All-contains Fit xs found.0 fits (member_at xs k found.0 found.1)))

id_is : (id : FeatureId) → FitsId id → is_id (id_value id) ≡ true
id_is id fits = ap (λ (o : Option FeatureId). is_some o) (id_back id fits)

pub id_formed : (id : FeatureId) → FitsId id → IsFormed form.Id (id_value id)
id_formed id fits = record { fits = id_is id fits; items = λ k item at. absurd (not_there k item at) }

pub id_or_null_formed : (id : Option FeatureId) → IfSome id FitsId → IsFormed form.IdOrNull (or_null id_value id)
id_or_null_formed None fits = record { fits = refl; items = λ k item at. absurd (not_there k item at) }
id_or_null_formed (Some id) fits = record { fits = id_is id fits; items = λ k item at. absurd (not_there k item at) }

pub ids_formed : (ids : List FeatureId) → 1 ≤ length ids → All FitsId ids → IsFormed form.Ids (list_value id_value ids)
ids_formed [] one fits = absurd (omega arith)
ids_formed (id ∷ ids) one fits = record { fits = refl; items = list_fits FitsId is_id id_value id_is (id ∷ ids) fits }

pub ids_or_null_formed : (ids : List FeatureId) → All FitsId ids → IsFormed form.IdsOrNull (list_value id_value ids)
ids_or_null_formed ids fits = record { fits = refl; items = list_fits FitsId is_id id_value id_is ids fits }

ref_is : (r : Ref) → FitsRef r → is_reference (reference_value r) ≡ true
ref_is r fits =
    ap (λ b. b && is_some (type_of (text (type_numbered r.feature_type)))) (id_is r.id fits.id)
    ∙ ap (λ n. is_some (type_of (text (type_numbered n)))) fits.number
    ∙ ap is_some (type_back fits.target fits.features)

pub ref_formed : (r : Option Ref) → IfSome r FitsRef → IsFormed form.Reference (or_null reference_value r)
ref_formed None fits = record { fits = refl; items = λ k item at. absurd (not_there k item at) }
ref_formed (Some r) fits = record { fits = ref_is r fits; items = λ k item at. absurd (not_there k item at) }

pub refs_formed : (rs : List Ref) → All FitsRef rs → IsFormed form.References (list_value reference_value rs)
refs_formed rs fits = record { fits = refl; items = list_fits FitsRef is_reference reference_value ref_is rs fits }

pub text_formed : (s : List ℕ) → IsFormed form.Text (text s)
text_formed s = record { fits = refl; items = λ k item at. absurd (not_there k item at) }

pub text_or_null_formed : (holds : Bool) (s : List ℕ) → IsFormed form.TextOrNull (if_so holds (text s))
text_or_null_formed true s = record { fits = refl; items = λ k item at. absurd (not_there k item at) }
text_or_null_formed false s = record { fits = refl; items = λ k item at. absurd (not_there k item at) }

only_text : (word : List ℕ) (k : ℕ) (item : Json) → slice_get (text word ∷ []) k ≡ Some item → is_text item ≡ true
only_text word zero item at = let same : text word ≡ item = cc in ap is_text (sym same)
only_text word (suc k) item at = absurd (not_there k item at)

pub word_list_formed : (holds : Bool) (word : List ℕ) → IsFormed form.TextsOrNull (word_list holds word)
word_list_formed true word = record { fits = refl; items = only_text word }
word_list_formed false word = record { fits = refl; items = λ k item at. absurd (not_there k item at) }

pub door_formed : (revolving turnstile : Bool) → IsFormed form.Door (door_of revolving turnstile)
door_formed true turnstile = record { fits = refl; items = λ k item at. absurd (not_there k item at) }
door_formed false true = record { fits = refl; items = λ k item at. absurd (not_there k item at) }
door_formed false false = record { fits = refl; items = λ k item at. absurd (not_there k item at) }

pub display_formed : (display : Option Point) → IfSome display IsOnEarth → IsFormed form.DisplayPoint (or_null point_value display)
display_formed None earth = record { fits = inl refl; items = λ k item at. absurd (not_there k item at) }
display_formed (Some p) earth = record { fits = inr (refl, (p, point_back p earth)); items = λ k item at. absurd (not_there k item at) }

-- ---- names

-- the last value of a tag of a name is a text
abbrev last_of : List ℕ → List Label → Json
last_of tag labels = unwrap_or (last_member tag (label_pairs labels)) null

found_text : (o : Option Json) (b : Bool) (s : List ℕ) → IfSome o (λ j. is_text j ≡ true) → IfSome (first_of_two o (cond b (Some (text s)) None)) (λ j. is_text j ≡ true)
found_text (Some j) b s h = h
found_text None true s h = refl
found_text None false s h = tt

any_text : (tag : List ℕ) (labels : List Label) → IfSome (last_member tag (label_pairs labels)) (λ j. is_text j ≡ true)
any_text tag [] = tt
any_text tag (x ∷ labels) = found_text (last_member tag (label_pairs labels)) (bytes_eq x.tag tag) x.text (any_text tag labels)

first_text : (o : Option Json) (b : Bool) (s : List ℕ) → b ≡ true → IfSome o (λ j. is_text j ≡ true) → is_text (unwrap_or (first_of_two o (cond b (Some (text s)) None)) null) ≡ true
first_text (Some j) b s e h = h
first_text None true s e h = refl
first_text None false s e h = absurd (cc)

later_text : (o : Option Json) (b : Bool) (s : List ℕ) → is_text (unwrap_or o null) ≡ true → is_text (unwrap_or (first_of_two o (cond b (Some (text s)) None)) null) ≡ true
later_text (Some j) b s h = h
later_text None b s h = absurd (cc)

later_texts : (x : Label) (labels ys : List Label) → AllByRecursion (λ (y : Label). is_text (last_of y.tag labels) ≡ true) ys → AllByRecursion (λ (y : Label). is_text (last_of y.tag (x ∷ labels)) ≡ true) ys
later_texts x labels [] h = tt
later_texts x labels (y ∷ ys) h = (later_text (last_member y.tag (label_pairs labels)) (bytes_eq x.tag y.tag) x.text h.0, later_texts x labels ys h.1)

each_text : (labels : List Label) → AllByRecursion (λ (y : Label). is_text (last_of y.tag labels) ≡ true) labels
each_text [] = tt
each_text (x ∷ labels) = (
  first_text (last_member x.tag (label_pairs labels)) (bytes_eq x.tag x.tag) x.text ((bytes_eq-Decides x.tag x.tag).1 refl) (any_text x.tag labels),
  later_texts x labels labels (each_text labels),
)

all_texts : (all ys : List Label) → AllByRecursion (λ (y : Label). is_text (last_of y.tag all) ≡ true) ys → list_all (λ p. is_text (member (object (label_pairs all)) p.0)) (members_list (label_pairs ys)) ≡ true
all_texts all [] h = refl
all_texts all (y ∷ ys) h = ap (λ b. b && list_all (λ p. is_text (member (object (label_pairs all)) p.0)) (members_list (label_pairs ys))) h.0 ∙ all_texts all ys h.1

pub name_formed : (labels : List Label) → IsFormed form.Name (name_value labels)
name_formed [] = record { fits = refl; items = λ k item at. absurd (not_there k item at) }
name_formed (x ∷ labels) = record { fits = all_texts (x ∷ labels) (x ∷ labels) (each_text (x ∷ labels)); items = λ k item at. absurd (not_there k item at) }
