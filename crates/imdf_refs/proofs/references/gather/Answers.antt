use Rattle.std.proofs.Common.{List, [], subst}
use Rattle.venue_types.specs.declared.finding.Finding.{Finding}
use Rattle.imdf_schema.specs.declared.table.PropertyRow.{PropertyRow}
use Rattle.imdf_schema.specs.Properties.{properties}
use Rattle.rule_reports.specs.Passes.{Adds}
use Rattle.imdf_refs.specs.Gathering.{DanglesInTable, Repeats}
use Rattle.imdf_refs.proofs.Misnaming.{misnamed}
use Rattle.imdf_refs.proofs.references.gather.Goals as goal

pub returns : goal.returns
returns c =
    let features = c.args.features.now in
    let known = c.in_ok-known.known in
    let first = c.judge_identifiers.new.findings.items in
    let gathered = c.judge_properties.new.findings.items in
    let repeats : Adds (Repeats features) [] first = subst (λ (xs : List Finding). Adds (Repeats features) xs first) c.new-findings.ensures.items c.in_ok-known.ensures.findings in
    let dangling : Adds (DanglesInTable known features properties) first gathered =
    subst (λ (table : List PropertyRow). Adds (DanglesInTable known features table) first gathered) c.properties.ensures c.in_ok-judge_properties.ensures in
    misnamed features known first gathered c.in_ok-known.ensures.known repeats dangling
