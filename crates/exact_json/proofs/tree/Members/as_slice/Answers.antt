use Rattle.std.proofs.Common.{map, sym, ap, ◌∙◌}
use Rattle.exact_json.specs.View.{pair_view, pairs_in}
use Rattle.exact_json.proofs.Trees.{list_of_members}
use Rattle.exact_json.proofs.tree.Members.as_slice.Goals as goal

pub returns : goal.returns
returns c = ap (map pair_view) c.pairs.ensures ∙ sym (list_of_members (map pair_view (pairs_in c.args.self.now)))
