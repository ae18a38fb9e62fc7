-- Each number in a value has the token of a number.
use Rattle.std.proofs.Common.{List, ℕ}
use Rattle.exact_json.specs.Json.{Json, null, boolean, number, text, items, object, Items, no_items, item, Members, no_pairs, pair, AllNumbers, AllItemNumbers, AllMemberNumbers}
use Rattle.exact_json.specs.Number.{IsNumber}
use Rattle.exact_json.specs.Grammar.{MoreElements, Elements, Spells, spellings, pair_spellings, IsJson}

mutual
  numbers : (j : Json) (b : List ℕ) → Spells j b → AllNumbers IsNumber j
  numbers null b h = tt
  numbers (boolean t) b h = tt
  numbers (number t) b h = h.1
  numbers (text s) b h = tt
  numbers (items js) b h = item_numbers js h.0 h.2
  numbers (object ms) b h = member_numbers ms h.0 h.2

  item_numbers : (js : Items) (b : List ℕ) → Elements (spellings js) b → AllItemNumbers IsNumber js
  item_numbers no_items b h = tt
  item_numbers (item j js) b h = (numbers j h.3.1 h.3.5, more_item_numbers js h.1 h.4)

  more_item_numbers : (js : Items) (b : List ℕ) → MoreElements (spellings js) b → AllItemNumbers IsNumber js
  more_item_numbers no_items b h = tt
  more_item_numbers (item j js) b h = (numbers j h.3.1 h.3.5, more_item_numbers js h.1 h.4)

  member_numbers : (ms : Members) (b : List ℕ) → Elements (pair_spellings ms) b → AllMemberNumbers IsNumber ms
  member_numbers no_pairs b h = tt
  member_numbers (pair k j ms) b h = (numbers j h.3.5.3 h.3.5.8, more_member_numbers ms h.1 h.4)

  more_member_numbers : (ms : Members) (b : List ℕ) → MoreElements (pair_spellings ms) b → AllMemberNumbers IsNumber ms
  more_member_numbers no_pairs b h = tt
  more_member_numbers (pair k j ms) b h = (numbers j h.3.5.3 h.3.5.8, more_member_numbers ms h.1 h.4)

pub numbers_of : (b : List ℕ) (j : Json) → IsJson b j → AllNumbers IsNumber j
numbers_of b j h = numbers j h.1.1 h.1.5
