use Rattle.rule_reports.specs.Order.{finding_cmp}
use Rattle.rule_reports.proofs.Phases.{First-stops, First-goes_on}
use Rattle.rule_reports.proofs.laws.phase_after_phase.Goals as goal

pub returns-clause-stops : goal.returns-clause-stops
returns-clause-stops g c findings some all = First-stops finding_cmp g.P.Phase.breaks g.Q.Phase.breaks findings some all

pub returns-clause-goes_on : goal.returns-clause-goes_on
returns-clause-goes_on g c findings none all = First-goes_on finding_cmp g.P.Phase.breaks g.Q.Phase.breaks findings none all
