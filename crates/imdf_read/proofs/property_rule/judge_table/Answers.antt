use Rattle.std.proofs.Common.{arith}
use Rattle.std.proofs.lemmas.Option.{slice_get-get_or}
use Rattle.rule_reports.proofs.Adding.{Adds-start, Adds-step, Adds-end}
use Rattle.imdf_read.proofs.PropertyRule.{misformed_of}
use Rattle.imdf_read.proofs.property_rule.judge_table.Goals as goal

pub loop-row-init : goal.loop-row-init
loop-row-init c = Adds-start _ _ _

pub loop-row-preserved : goal.loop-row-preserved
loop-row-preserved c = Adds-step _ _ _ _ (slice_get-get_or c.args.table.now c.loop-row.row-index _ (omega arith)) c.loop-row.invariant c.in_ok-judge_property.ensures

pub returns : goal.returns
returns c = misformed_of _ _ _ _ _ _ (Adds-end _ c.args.table.now c.loop-row.row-index c.loop-row-test.false c.loop-row.invariant)
