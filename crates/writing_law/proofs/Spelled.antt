-- What is made of values that their compact text spells is spelled too.
use Rattle.std.proofs.Common.{ℕ, suc, ◌≤◌, Bool, true, false, List, [], ◌∷◌, map, Option, Some, None, refl, arith, codes}
use Rattle.std.specs.Prelude.{All, IfSome}
use Rattle.std.specs.Str.{IsUtf8}
use Rattle.std.proofs.lemmas.List.Elements.{All-head, All-tail}
use Rattle.exact_json.specs.Json.{Json, null, number, text, items, object, Items, no_items, item, Members, no_pairs, pair}
use Rattle.exact_json.specs.Number.{IsNumber}
use Rattle.imdf_schema.specs.declared.table.Property.{Property}
use Rattle.imdf_schema.specs.declared.table.Property.TheVariants as property
use Rattle.imdf_schema.specs.Properties.{property_name}
use Rattle.imdf_write.specs.Values.{items_of, list_value, or_null, if_so}
use Rattle.imdf_write.specs.Rows.{with}
use Rattle.writing_law.specs.Spelled.{IsSpelled, AreSpelled, HasSpelled}
use Rattle.writing_law.proofs.Ascii.{word_utf8}

pub deeper : (m n : ℕ) (v : Json) → m ≤ n → IsSpelled m v → IsSpelled n v
deeper m n v le h = let deep = h.deep in record { numbers = h.numbers; texts = h.texts; deep = omega arith }

pub null_spelled : (n : ℕ) → IsSpelled n null
null_spelled n = record { numbers = tt; texts = tt; deep = omega arith }

pub text_spelled : (n : ℕ) (s : List ℕ) → IsUtf8 s → IsSpelled n (text s)
text_spelled n s h = record { numbers = tt; texts = h; deep = omega arith }

pub number_spelled : (n : ℕ) (t : List ℕ) → IsNumber t → IsSpelled n (number t)
number_spelled n t h = record { numbers = h; texts = tt; deep = omega arith }

pub no_items_spelled : (n : ℕ) → AreSpelled n no_items
no_items_spelled n = record { numbers = tt; texts = tt; deep = omega arith }

pub item_spelled : (n : ℕ) (v : Json) (js : Items) → IsSpelled n v → AreSpelled n js → AreSpelled n (item v js)
item_spelled n v js h k =
    let left = h.deep in
    let right = k.deep in
    record { numbers = (h.numbers, k.numbers); texts = (h.texts, k.texts); deep = omega arith }

pub items_spelled : (n : ℕ) (js : Items) → AreSpelled n js → IsSpelled (suc n) (items js)
items_spelled n js h = let deep = h.deep in record { numbers = h.numbers; texts = h.texts; deep = omega arith }

pub no_pairs_spelled : (n : ℕ) → HasSpelled n no_pairs
no_pairs_spelled n = record { numbers = tt; texts = tt; deep = omega arith }

pub pair_spelled : (n : ℕ) (k : List ℕ) (v : Json) (ms : Members) → IsUtf8 k → IsSpelled n v → HasSpelled n ms → HasSpelled n (pair k v ms)
pair_spelled n k v ms name h rest =
    let left = h.deep in
    let right = rest.deep in
    record { numbers = (h.numbers, rest.numbers); texts = (name, h.texts, rest.texts); deep = omega arith }

pub object_spelled : (n : ℕ) (ms : Members) → HasSpelled n ms → IsSpelled (suc n) (object ms)
object_spelled n ms h = let deep = h.deep in record { numbers = h.numbers; texts = h.texts; deep = omega arith }

values_spelled : {A : Type 0} (Fit : A → Type 0) (n : ℕ) (value : A → Json) → ((x : A) → Fit x → IsSpelled n (value x)) → (xs : List A) → All Fit xs → AreSpelled n (items_of (map value xs))
values_spelled Fit n value each [] fits = no_items_spelled n
values_spelled Fit n value each (x ∷ xs) fits = item_spelled n (value x) (items_of (map value xs)) (each x (All-head Fit x xs fits)) (values_spelled Fit n value each xs (All-tail Fit x xs fits))

pub list_spelled : {A : Type 0} (Fit : A → Type 0) (n : ℕ) (value : A → Json) → ((x : A) → Fit x → IsSpelled n (value x)) → (xs : List A) → All Fit xs → IsSpelled (suc n) (list_value value xs)
list_spelled Fit n value each xs fits = items_spelled n (items_of (map value xs)) (values_spelled Fit n value each xs fits)

pub or_null_spelled : {A : Type 0} (Fit : A → Type 0) (n : ℕ) (value : A → Json) → ((x : A) → Fit x → IsSpelled n (value x)) → (o : Option A) → IfSome o Fit → IsSpelled n (or_null value o)
or_null_spelled Fit n value each None fits = null_spelled n
or_null_spelled Fit n value each (Some x) fits = each x fits

pub if_so_spelled : (n : ℕ) (holds : Bool) (v : Json) → IsSpelled n v → IsSpelled n (if_so holds v)
if_so_spelled n true v h = h
if_so_spelled n false v h = null_spelled n

property_name_utf8 : (p : Property) → IsUtf8 (property_name p)
property_name_utf8 property.AddressId = word_utf8 (codes "address_id") refl
property_name_utf8 property.BuildingIds = word_utf8 (codes "building_ids") refl
property_name_utf8 property.LevelId = word_utf8 (codes "level_id") refl
property_name_utf8 property.UnitId = word_utf8 (codes "unit_id") refl
property_name_utf8 property.UnitIds = word_utf8 (codes "unit_ids") refl
property_name_utf8 property.AnchorId = word_utf8 (codes "anchor_id") refl
property_name_utf8 property.Origin = word_utf8 (codes "origin") refl
property_name_utf8 property.Intermediary = word_utf8 (codes "intermediary") refl
property_name_utf8 property.Destination = word_utf8 (codes "destination") refl
property_name_utf8 property.Category = word_utf8 (codes "category") refl
property_name_utf8 property.Restriction = word_utf8 (codes "restriction") refl
property_name_utf8 property.Accessibility = word_utf8 (codes "accessibility") refl
property_name_utf8 property.AccessControl = word_utf8 (codes "access_control") refl
property_name_utf8 property.Door = word_utf8 (codes "door") refl
property_name_utf8 property.DisplayPoint = word_utf8 (codes "display_point") refl
property_name_utf8 property.Name = word_utf8 (codes "name") refl

pub with_spelled : (n : ℕ) (p : Property) (v : Json) (others : Members) → IsSpelled n v → HasSpelled n others → HasSpelled n (with p v others)
with_spelled n p v others h rest = pair_spelled n (property_name p) v others (property_name_utf8 p) h rest
