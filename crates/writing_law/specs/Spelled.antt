-- Values that their compact text spells.
use Rattle.std.specs.Prelude.{ℕ, ◌≤◌}
use Rattle.exact_json.specs.Json.{Json, Items, Members, depth, items_depth, members_depth, HasTexts, ItemsHaveTexts, MembersHaveTexts, AllNumbers, AllItemNumbers, AllMemberNumbers}
use Rattle.exact_json.specs.Number.{IsNumber}

-- its numbers are number tokens, its texts are UTF-8, and it nests at most n deep
pub record IsSpelled (n : ℕ) (v : Json) : Type 0 where
  pub numbers : AllNumbers IsNumber v
  pub texts : HasTexts v
  pub deep : depth v ≤ n

-- the same of the items of a list
pub record AreSpelled (n : ℕ) (js : Items) : Type 0 where
  pub numbers : AllItemNumbers IsNumber js
  pub texts : ItemsHaveTexts js
  pub deep : items_depth js ≤ n

-- the same of the members of an object, with their names
pub record HasSpelled (n : ℕ) (ms : Members) : Type 0 where
  pub numbers : AllMemberNumbers IsNumber ms
  pub texts : MembersHaveTexts ms
  pub deep : members_depth ms ≤ n
