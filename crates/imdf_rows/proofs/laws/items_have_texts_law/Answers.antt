use Rattle.std.proofs.Common.{codes}
use Rattle.exact_json.specs.Json.{member}
use Rattle.imdf_rows.proofs.Texts.{member_has, listed_has}
use Rattle.imdf_rows.proofs.laws.items_have_texts_law.Goals as goal

pub returns : goal.returns
returns c = λ v h. listed_has (member v (codes "features")) (member_has v (codes "features") h)
