use Rattle.std.proofs.Common.{◌<◌, List, length, map, refl, subst, arith}
use Rattle.std.proofs.lemmas.List.{length-map}
use Rattle.std.proofs.lemmas.Option.{slice_get_read}
use Rattle.venue_types.proofs.Items.{at_map}
use Rattle.rule_reports.specs.Passes.{Adds}
use Rattle.rule_reports.proofs.Adding.{Adds-start, Adds-step, Adds-end}
use Rattle.imdf_refs.specs.References.{Reference}
use Rattle.imdf_refs.specs.Gathering.{DanglesAmong}
use Rattle.imdf_refs.proofs.Dangling.{in_all}
use Rattle.imdf_refs.proofs.rule_checks.judge_rows.Goals as goal

pub loop-k-init : goal.loop-k-init
loop-k-init g c = Adds-start _ _ _

pub loop-k-preserved : goal.loop-k-preserved
loop-k-preserved g c =
    let known = c.args.known.now in
    let row = c.args.row.now in
    let view = g.R.HasReferences.references_of row.property in
    let features = c.args.features.now in
    let k = c.loop-k.k in
    let feature = c.index-features-k.result in
    let within : k < length features = omega arith in
    let at = at_map view features k feature (slice_get_read features (length features) k feature refl within c.index-features-k.is) in
    Adds-step (DanglesAmong known row) (map view features) k (view feature) at c.loop-k.invariant
    (subst (λ (rs : List Reference). Adds (DanglesAmong known row k rs) c.loop-k.findings.items c.judge_references.new.findings.items) c.references-references.ensures c.in_ok-judge_references.ensures)

pub returns : goal.returns
returns g c =
    let known = c.args.known.now in
    let row = c.args.row.now in
    let rows = map (g.R.HasReferences.references_of row.property) c.args.features.now in
    in_all known row rows c.args.findings.now.items c.loop-k.findings.items
    (Adds-end (DanglesAmong known row) rows c.loop-k.k (rw length-map c.loop-k-test.false) c.loop-k.invariant)
