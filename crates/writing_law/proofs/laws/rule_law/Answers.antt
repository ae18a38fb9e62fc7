use Rattle.writing_law.proofs.NothingBroken.{nothing_broken}
use Rattle.writing_law.proofs.laws.rule_law.Goals as goal

pub returns : goal.returns
returns c features fits limit = nothing_broken c.compact_law.ensures c.one_json_law.ensures c.one_point_law.ensures c.same_numbers_law.ensures features fits limit
