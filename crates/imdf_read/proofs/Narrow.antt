-- What is narrow has narrow members and items.
use Rattle.std.proofs.Common.{◌≡◌, ◌∙◌, ℕ, ◌≤◌, zero, suc, List, Option, Some, None, Bool, true, false, cond, length, map, unwrap_or, sym, ap, subst, arith}
use Rattle.std.specs.Prelude.{slice_get}
use Rattle.std.specs.Str.{bytes_eq}
use Rattle.std.proofs.lemmas.List.{length-map}
use Rattle.exact_json.specs.Json.{Json, null, boolean, number, text, items, object, Items, no_items, item, Members, no_pairs, pair, items_list, last_member, first_of_two, member, members_list, IsNarrow, AreNarrow, HasNarrow, HasTexts, ItemsHaveTexts, MembersHaveTexts}
use Rattle.exact_json.specs.View.{tree_view}
use Rattle.exact_json.specs.declared.tree.Tree.{Tree}
use Rattle.imdf_schema.specs.declared.forms.Form.{Form}
use Rattle.imdf_schema.specs.declared.forms.Form.TheVariants as form
use Rattle.imdf_schema.specs.Values.{listed}
use Rattle.imdf_schema.specs.Forms.{items_of}
use Rattle.imdf_schema.specs.Items.{property}
use Rattle.imdf_schema.specs.Properties.{property_name}
use Rattle.imdf_schema.specs.declared.table.Property.{Property}

le_through : (a b c : ℕ) → a ≤ b → b ≤ c → a ≤ c
le_through a b c p q = omega arith

narrow_choice : (n : ℕ) (o : Option Json) (b : Bool) (j : Json) → IsNarrow n (unwrap_or o null) → IsNarrow n j → IsNarrow n (unwrap_or (first_of_two o (cond b (Some j) None)) null)
narrow_choice n (Some w) b j last here = last
narrow_choice n None true j last here = here
narrow_choice n None false j last here = tt

narrow_last : (n : ℕ) (ms : Members) (name : List ℕ) → HasNarrow n ms → IsNarrow n (unwrap_or (last_member name ms) null)
narrow_last n no_pairs name h = tt
narrow_last n (pair k j ms) name h = narrow_choice n (last_member name ms) (bytes_eq k name) j (narrow_last n ms name h.1) h.0

pub narrow_member : (n : ℕ) (v : Json) (name : List ℕ) → IsNarrow n v → IsNarrow n (member v name)
narrow_member n null name h = tt
narrow_member n (boolean b) name h = tt
narrow_member n (number t) name h = tt
narrow_member n (text s) name h = tt
narrow_member n (items js) name h = tt
narrow_member n (object ms) name h = narrow_last n ms name h.1

pub narrow_listed : (n : ℕ) (v : Json) → IsNarrow n v → length (listed v) ≤ n
narrow_listed n null h = omega arith
narrow_listed n (boolean b) h = omega arith
narrow_listed n (number t) h = omega arith
narrow_listed n (text s) h = omega arith
narrow_listed n (items js) h = h.0
narrow_listed n (object ms) h = omega arith

narrow_in : (n : ℕ) (js : Items) (k : ℕ) (x : Json) → AreNarrow n js → slice_get (items_list js) k ≡ Some x → IsNarrow n x
narrow_in n no_items k x h at = cc
narrow_in n (item j js) zero x h at = let same : j ≡ x = cc in subst (IsNarrow n) same h.0
narrow_in n (item j js) (suc k) x h at = narrow_in n js k x h.1 at

pub narrow_item : (n : ℕ) (v : Json) (k : ℕ) (x : Json) → IsNarrow n v → slice_get (listed v) k ≡ Some x → IsNarrow n x
narrow_item n null k x h at = cc
narrow_item n (boolean b) k x h at = cc
narrow_item n (number t) k x h at = cc
narrow_item n (text s) k x h at = cc
narrow_item n (items js) k x h at = narrow_in n js k x h.1 at
narrow_item n (object ms) k x h at = cc

narrow_form : (n : ℕ) (f : Form) (v : Json) → IsNarrow n v → length (items_of f v) ≤ n
narrow_form n form.Ids v h = narrow_listed n v h
narrow_form n form.IdsOrNull v h = narrow_listed n v h
narrow_form n form.References v h = narrow_listed n v h
narrow_form n form.TextsOrNull v h = narrow_listed n v h
narrow_form n form.Id v h = omega arith
narrow_form n form.IdOrNull v h = omega arith
narrow_form n form.Reference v h = omega arith
narrow_form n form.Text v h = omega arith
narrow_form n form.TextOrNull v h = omega arith
narrow_form n form.Door v h = omega arith
narrow_form n form.DisplayPoint v h = omega arith
narrow_form n form.Name v h = omega arith

pub narrow_property : (n : ℕ) (v : Json) (p : Property) → IsNarrow n v → IsNarrow n (property v p)
narrow_property n v p h = narrow_member n _ (property_name p) (narrow_member n v _ h)

-- the items of a property's list are few
pub few_items : (n : ℕ) (f : Form) (v w : Json) (trees : List Tree) → IsNarrow n v → w ≡ v → map tree_view trees ≡ items_of f w → length trees ≤ n
few_items n f v w trees h same is =
    subst (λ (k : ℕ). k ≤ n) (length-map trees tree_view) (subst (λ (xs : List Json). length xs ≤ n) (sym (is ∙ ap (items_of f) same)) (narrow_form n f v h))

-- what is narrow is so for a greater number
mutual
  widen : (n m : ℕ) (v : Json) → n ≤ m → IsNarrow n v → IsNarrow m v
  widen n m null le h = tt
  widen n m (boolean b) le h = tt
  widen n m (number t) le h = tt
  widen n m (text s) le h = tt
  widen n m (items js) le h = (le_through (length (items_list js)) n m h.0 le, widen_items n m js le h.1)
  widen n m (object ms) le h = (le_through (length (members_list ms)) n m h.0 le, widen_members n m ms le h.1)

  widen_items : (n m : ℕ) (js : Items) → n ≤ m → AreNarrow n js → AreNarrow m js
  widen_items n m no_items le h = tt
  widen_items n m (item j js) le h = (widen n m j le h.0, widen_items n m js le h.1)

  widen_members : (n m : ℕ) (ms : Members) → n ≤ m → HasNarrow n ms → HasNarrow m ms
  widen_members n m no_pairs le h = tt
  widen_members n m (pair k j ms) le h = (widen n m j le h.0, widen_members n m ms le h.1)

pub wider : (n m : ℕ) (v : Json) → n ≤ m → IsNarrow n v → IsNarrow m v
wider n m v le h = widen n m v le h

-- what has texts in UTF-8 has members and items that have
texts_choice : (o : Option Json) (b : Bool) (j : Json) → HasTexts (unwrap_or o null) → HasTexts j → HasTexts (unwrap_or (first_of_two o (cond b (Some j) None)) null)
texts_choice (Some w) b j last here = last
texts_choice None true j last here = here
texts_choice None false j last here = tt

texts_last : (ms : Members) (name : List ℕ) → MembersHaveTexts ms → HasTexts (unwrap_or (last_member name ms) null)
texts_last no_pairs name h = tt
texts_last (pair k j ms) name h = texts_choice (last_member name ms) (bytes_eq k name) j (texts_last ms name h.2) h.1

pub texts_member : (v : Json) (name : List ℕ) → HasTexts v → HasTexts (member v name)
texts_member null name h = tt
texts_member (boolean b) name h = tt
texts_member (number t) name h = tt
texts_member (text s) name h = tt
texts_member (items js) name h = tt
texts_member (object ms) name h = texts_last ms name h

texts_in : (js : Items) (k : ℕ) (x : Json) → ItemsHaveTexts js → slice_get (items_list js) k ≡ Some x → HasTexts x
texts_in no_items k x h at = cc
texts_in (item j js) zero x h at = let same : j ≡ x = cc in subst HasTexts same h.0
texts_in (item j js) (suc k) x h at = texts_in js k x h.1 at

pub texts_item : (v : Json) (k : ℕ) (x : Json) → HasTexts v → slice_get (listed v) k ≡ Some x → HasTexts x
texts_item null k x h at = cc
texts_item (boolean b) k x h at = cc
texts_item (number t) k x h at = cc
texts_item (text s) k x h at = cc
texts_item (items js) k x h at = texts_in js k x h at
texts_item (object ms) k x h at = cc
