-- In a value whose texts are UTF-8, so are those of each part of it.
use Rattle.std.proofs.Common.{ℕ, Bool, true, false, cond, List, [], Option, Some, None, IfSome, unwrap_or}
use Rattle.std.specs.List.{AllByRecursion}
use Rattle.std.specs.Str.{bytes_eq, IsUtf8}
use Rattle.std.proofs.lemmas.Str.{IsUtf8-nil}
use Rattle.exact_json.specs.Json as json
use Rattle.exact_json.specs.Json.{Json, Items, Members, no_items, item, no_pairs, pair, first_of_two, last_member, member, members_list, object_members, items_list, list_values, text_bytes, HasTexts, ItemsHaveTexts, MembersHaveTexts}
use Rattle.imdf_schema.specs.Values.{listed, pairs_of}
use Rattle.imdf_rows.specs.Laws.{PairHasTexts}

either_has : (o p : Option Json) → IfSome o HasTexts → IfSome p HasTexts → IfSome (first_of_two o p) HasTexts
either_has (Some j) p a b = a
either_has None p a b = b

chosen_has : (b : Bool) (j : Json) → HasTexts j → IfSome (cond b (Some j) None) HasTexts
chosen_has true j h = h
chosen_has false j h = tt

last_has : (name : List ℕ) (ms : Members) → MembersHaveTexts ms → IfSome (last_member name ms) HasTexts
last_has name no_pairs h = tt
last_has name (pair k j ms) h = either_has (last_member name ms) (cond (bytes_eq k name) (Some j) None) (last_has name ms h.2) (chosen_has (bytes_eq k name) j h.1)

or_null : (o : Option Json) → IfSome o HasTexts → HasTexts (unwrap_or o json.null)
or_null None h = tt
or_null (Some j) h = h

pub member_has : (v : Json) (name : List ℕ) → HasTexts v → HasTexts (member v name)
member_has json.null name h = tt
member_has (json.boolean b) name h = tt
member_has (json.number t) name h = tt
member_has (json.text s) name h = tt
member_has (json.items js) name h = tt
member_has (json.object ms) name h = or_null (last_member name ms) (last_has name ms h)

pub text_has : (v : Json) → HasTexts v → IsUtf8 (unwrap_or (text_bytes v) [])
text_has json.null h = IsUtf8-nil
text_has (json.boolean b) h = IsUtf8-nil
text_has (json.number t) h = IsUtf8-nil
text_has (json.text s) h = h
text_has (json.items js) h = IsUtf8-nil
text_has (json.object ms) h = IsUtf8-nil

items_have : (js : Items) → ItemsHaveTexts js → AllByRecursion HasTexts (items_list js)
items_have no_items h = tt
items_have (item j js) h = (h.0, items_have js h.1)

pub listed_has : (v : Json) → HasTexts v → AllByRecursion HasTexts (listed v)
listed_has json.null h = tt
listed_has (json.boolean b) h = tt
listed_has (json.number t) h = tt
listed_has (json.text s) h = tt
listed_has (json.items js) h = items_have js h
listed_has (json.object ms) h = tt

members_have : (ms : Members) → MembersHaveTexts ms → AllByRecursion PairHasTexts (members_list ms)
members_have no_pairs h = tt
members_have (pair k j ms) h = ((h.0, h.1), members_have ms h.2)

pub pairs_have : (v : Json) → HasTexts v → AllByRecursion PairHasTexts (pairs_of v)
pairs_have json.null h = tt
pairs_have (json.boolean b) h = tt
pairs_have (json.number t) h = tt
pairs_have (json.text s) h = tt
pairs_have (json.items js) h = tt
pairs_have (json.object ms) h = members_have ms h
