use Rattle.std.proofs.Common.{◌<◌, length, map, refl, subst, arith}
use Rattle.std.proofs.lemmas.List.{length-map}
use Rattle.std.proofs.lemmas.Option.{slice_get_read}
use Rattle.venue_types.proofs.Items.{at_map}
use Rattle.venue_types.specs.declared.point.Shape.{Shape}
use Rattle.rule_reports.proofs.Beginnings.{begins_then}
use Rattle.rule_reports.specs.Passes.{Adds}
use Rattle.rule_reports.proofs.Adding.{Adds-step, Adds-end}
use Rattle.ring_rules.specs.Rings.{placed_rings}
use Rattle.ring_rules.specs.Findings.{FindsFrom}
use Rattle.ring_rules.proofs.FindingLemmas.{in_shapes}
use Rattle.ring_rules.proofs.ring_findings.add_rows.Goals as goal

pub returns-clause-adds : goal.returns-clause-adds
returns-clause-adds g c =
    let shapes = map g.R.HasShape.shape_of c.args.rows.now in
    in_shapes c.args.file shapes c.args.findings.now.items c.loop-k.findings.items
    (Adds-end (λ k shape. FindsFrom c.args.file k 0 (placed_rings shape)) shapes c.loop-k.k (rw length-map c.loop-k-test.false) c.loop-k.invariant.adds)

pub loop-k-preserved : goal.loop-k-preserved
loop-k-preserved g c =
    let rows = c.args.rows.now in
    let k = c.loop-k.k in
    let row = c.index-rows-k.result in
    let within : k < length rows = omega arith in
    let at = at_map g.R.HasShape.shape_of rows k row (slice_get_read rows (length rows) k row refl within c.index-rows-k.is) in
    record {
      adds = Adds-step (λ n shape. FindsFrom c.args.file n 0 (placed_rings shape)) (map g.R.HasShape.shape_of rows) k (g.R.HasShape.shape_of row) at c.loop-k.invariant.adds
          (subst (λ (shape : Shape). Adds (FindsFrom c.args.file k 0 (placed_rings shape)) c.loop-k.findings.items c.add_shape.new.findings.items) c.shape.ensures c.in_ok-add_shape.ensures.adds);
      begins = begins_then c.args.findings.now.items c.loop-k.findings.items c.add_shape.new.findings.items c.loop-k.invariant.begins c.in_ok-add_shape.ensures.begins;
    }
