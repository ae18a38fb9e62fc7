use Rattle.std.proofs.Common.{ℕ, ◌<◌, length}
use Rattle.std.proofs.lemmas.Option.{slice_get-get_or}
use Rattle.imdf_schema.specs.declared.table.PropertyRow.{PropertyRow}
use Rattle.rule_reports.proofs.Adding.{Adds-start, Adds-step, Adds-end}
use Rattle.imdf_refs.specs.Gathering.{DanglesInProperty}
use Rattle.imdf_refs.proofs.Dangling.{in_table}
use Rattle.imdf_refs.proofs.rule_checks.judge_properties.Goals as goal

pub loop-row-init : goal.loop-row-init
loop-row-init c = Adds-start _ _ _

pub returns : goal.returns
returns c =
    let known = c.args.known.now in
    let features = c.args.features.now in
    let table = c.args.table.now in
    in_table known features table c.args.findings.now.items c.loop-row.findings.items
    (Adds-end (λ (i : ℕ) (row : PropertyRow). DanglesInProperty known features row) table c.loop-row.row-index c.loop-row-test.false c.loop-row.invariant)

pub loop-row-preserved : goal.loop-row-preserved
loop-row-preserved c =
    let table = c.args.table.now in
    let i = c.loop-row.row-index in
    let within : i < length table = c.loop-row-test.true in
    Adds-step (λ (j : ℕ) (row : PropertyRow). DanglesInProperty c.args.known.now c.args.features.now row) table i _ (slice_get-get_or table i _ within) c.loop-row.invariant c.in_ok-judge_property.ensures
