use Rattle.exact_json.proofs.Document.{one_value}
use Rattle.exact_json.proofs.laws.one_json_law.Goals as goal

pub returns : goal.returns
returns c = one_value
