-- The value that a tree stands for.
use Rattle.std.specs.Prelude.{ℕ, List, [], ◌∷◌, map}
use Rattle.exact_json.specs.Json.{Json, null, boolean, number, text, items, object, Items, no_items, item, Members, no_pairs, pair}
use Rattle.exact_json.specs.declared.tree.JsonText.{JsonText}
use Rattle.exact_json.specs.declared.tree.JsonText.TheVariants.{Plain, Made}
use Rattle.exact_json.specs.declared.tree.Tree.{Tree, fold-Tree}
use Rattle.exact_json.specs.declared.tree.Tree.TheOpen.{Tree-F}
use Rattle.exact_json.specs.declared.tree.Pair.{Pair}
use Rattle.exact_json.specs.declared.tree.Members.{Members as ObjectMembers, out-Members}

-- its bytes
abbrev pub text_view : JsonText → List ℕ
text_view (Plain s) = s.now
text_view (Made s) = s.now

abbrev pub items_of : List Json → Items
items_of [] = no_items
items_of (j ∷ js) = item j (items_of js)

abbrev pub members_of : List (List ℕ × Json) → Members
members_of [] = no_pairs
members_of (p ∷ ps) = pair p.0 p.1 (members_of ps)

-- one level, with each tree inside already seen as its value
abbrev pub tree_step : Tree-F Json Members (List ℕ × Json) → Json
tree_step Tree-F.Null = null
tree_step (Tree-F.Bool b) = boolean b
tree_step (Tree-F.Number s) = number s.now
tree_step (Tree-F.Plain s) = text s.now
tree_step (Tree-F.Made s) = text s.now
tree_step (Tree-F.Items v) = items (items_of v.now)
tree_step (Tree-F.Object v) = object v

-- the value that a tree stands for
abbrev pub tree_view : Tree → Json
tree_view = fold-Tree Json Members (List ℕ × Json) tree_step (λ x. members_of x.pairs.now) (λ x. (text_view x.name, x.value))

abbrev pub pair_view : Pair → List ℕ × Json
pair_view p = (text_view p.name, tree_view p.value)

abbrev pub items_view : List Tree → Items
items_view ts = items_of (map tree_view ts)

abbrev pub members_view : List Pair → Members
members_view ps = members_of (map pair_view ps)

-- the pairs of an object in order
abbrev pub pairs_in : ObjectMembers → List Pair
pairs_in m = (out-Members m).pairs.now

-- the members that an object's `Members` stand for
abbrev pub object_view : ObjectMembers → Members
object_view m = members_view (pairs_in m)
