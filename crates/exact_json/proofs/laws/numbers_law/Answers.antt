use Rattle.exact_json.proofs.Tokens.{numbers_of}
use Rattle.exact_json.proofs.laws.numbers_law.Goals as goal

pub returns : goal.returns
returns c = numbers_of
