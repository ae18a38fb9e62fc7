use Rattle.rule_reports.proofs.Adding.{on_ok}
use Rattle.imdf_refs.proofs.Dangling.{at_one}
use Rattle.imdf_refs.proofs.rule_checks.judge.Goals as goal

pub returns : goal.returns
returns c = on_ok c.add-2.result _ _ c.add-2.ensures.ok (λ more.
    at_one c.args.known.now c.args.place c.args.member c.args.id c.args.file c.has-named.result c.has_typed-right.result c.finding.result c.finding-2.result c.args.findings.now.items c.add.new.places.items c.add-2.new.places.items c.has-named.ensures c.has_typed-right.ensures c.finding.ensures
    c.finding-2.ensures c.in_ok-add.ensures.ok more)
