use Rattle.std.proofs.Common.{◌∷◌, refl}
use Rattle.std.proofs.lemmas.Bool.{false≢true}
use Rattle.venue_types.specs.declared.point.Point.{Point}
use Rattle.plane_exact.specs.Figure.{edges_from}
use Rattle.plane_trees.specs.Trees.{CrossesSome}
use Rattle.plane_exact.proofs.SegmentLemmas.{iff_along}
use Rattle.plane_exact.proofs.NearbyLemmas.{Contains-next, edge_with_line}
use Rattle.plane_trees.proofs.RunLemmas.{line_here, line_past}
use Rattle.plane_trees.proofs.run_crossings.lines_cross.Goals as goal

pub crosses_line-requires : goal.crosses_line-requires
crosses_line-requires c = edge_with_line c.loop-b.a _ (c.args.start ∷ c.args.rest.now) (c.args.other ∷ c.args.more.now) c.loop-b.invariant.of_line (Contains-next c.args.start c.args.rest.now c.loop-b.b-index _ c.loop-b-test.true) c.requires

pub returns-then-crosses_line : goal.returns-then-crosses_line
returns-then-crosses_line c =
    let Q = λ (x y : Point). CrossesSome x y (edges_from c.args.other c.args.more.now) in
    let here = line_here Q c.loop-b.a c.args.rest.now c.loop-b.b-index _ c.loop-b-test.true (c.if-crosses_line.ensures.0 refl) in
    (λ _. c.loop-b.invariant.ahead.0 here, λ _. refl)

pub loop-b-preserved : goal.loop-b-preserved
loop-b-preserved c =
    let Q = λ (x y : Point). CrossesSome x y (edges_from c.args.other c.args.more.now) in
    record {
      of_line = Contains-next c.args.start c.args.rest.now c.loop-b.b-index _ c.loop-b-test.true;
      ahead = iff_along (line_past Q c.loop-b.a c.args.rest.now c.loop-b.b-index _ c.loop-b-test.true (λ h. false≢true (c.if-crosses_line.ensures.1 h))) c.loop-b.invariant.ahead;
    }
