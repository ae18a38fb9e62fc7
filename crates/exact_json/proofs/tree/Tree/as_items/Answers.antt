use Rattle.exact_json.specs.Json.{list_items}
use Rattle.exact_json.specs.View.{tree_view}
use Rattle.exact_json.proofs.Trees.{values_seen}
use Rattle.exact_json.proofs.tree.Tree.as_items.Goals as goal

pub returns : goal.returns
returns c = values_seen c.as_list.result (list_items (tree_view c.args.self.now)) c.as_list.ensures
