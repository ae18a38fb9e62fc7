use Rattle.exact_json.proofs.Walks.{depth_nests}
use Rattle.exact_json.proofs.laws.nesting_law.Goals as goal

pub returns : goal.returns
returns c = depth_nests
