-- A property of every number in a value that another follows from.
use Rattle.std.proofs.Common.{ℕ, List}
use Rattle.exact_json.specs.Json.{Json, null, boolean, number, text, items, object, Items, no_items, item, Members, no_pairs, pair, AllNumbers, AllItemNumbers, AllMemberNumbers}

module _ (P Q : List ℕ → Type 0) (follows : (t : List ℕ) → P t → Q t) where
  mutual
    pub all_numbers : (j : Json) → AllNumbers P j → AllNumbers Q j
    all_numbers null h = tt
    all_numbers (boolean b) h = tt
    all_numbers (number t) h = follows t h
    all_numbers (text s) h = tt
    all_numbers (items js) h = all_item_numbers js h
    all_numbers (object ms) h = all_member_numbers ms h

    all_item_numbers : (js : Items) → AllItemNumbers P js → AllItemNumbers Q js
    all_item_numbers no_items h = tt
    all_item_numbers (item j js) h = (all_numbers j h.0, all_item_numbers js h.1)

    all_member_numbers : (ms : Members) → AllMemberNumbers P ms → AllMemberNumbers Q ms
    all_member_numbers no_pairs h = tt
    all_member_numbers (pair k j ms) h = (all_numbers j h.0, all_member_numbers ms h.1)
