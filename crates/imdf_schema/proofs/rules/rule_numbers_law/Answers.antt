use Rattle.imdf_schema.proofs.RuleNumbers.{rule_at, note_at}
use Rattle.imdf_schema.proofs.rules.rule_numbers_law.Goals as goal

pub returns-clause-rules : goal.returns-clause-rules
returns-clause-rules c = rule_at

pub returns-clause-notes : goal.returns-clause-notes
returns-clause-notes c = note_at
