use Rattle.std.proofs.Common.{◌∷◌, refl}
use Rattle.std.proofs.lemmas.Bool.{false≢true}
use Rattle.plane_exact.specs.Segment.{Crosses}
use Rattle.plane_exact.proofs.SegmentLemmas.{iff_along}
use Rattle.plane_exact.proofs.NearbyLemmas.{Contains-next, among_close}
use Rattle.plane_trees.proofs.RunLemmas.{line_here, line_past}
use Rattle.plane_trees.proofs.run_crossings.crosses_line.Goals as goal

pub crosses-requires-clause-first : goal.crosses-requires-clause-first
crosses-requires-clause-first c = (among_close c.args.a c.args.b c.loop-d.c c.loop-d.c (c.args.start ∷ c.args.rest.now) c.loop-d.invariant.of_line c.loop-d.invariant.of_line c.requires).0

pub crosses-requires-clause-second : goal.crosses-requires-clause-second
crosses-requires-clause-second c = (among_close c.args.a c.args.b c.loop-d.c _ (c.args.start ∷ c.args.rest.now) c.loop-d.invariant.of_line (Contains-next c.args.start c.args.rest.now c.loop-d.d-index _ c.loop-d-test.true) c.requires).1

pub crosses-requires-clause-to_start : goal.crosses-requires-clause-to_start
crosses-requires-clause-to_start c = (among_close c.args.a c.args.b c.loop-d.c c.loop-d.c (c.args.start ∷ c.args.rest.now) c.loop-d.invariant.of_line c.loop-d.invariant.of_line c.requires).2

pub crosses-requires-clause-to_end : goal.crosses-requires-clause-to_end
crosses-requires-clause-to_end c = (among_close c.args.a c.args.b c.loop-d.c _ (c.args.start ∷ c.args.rest.now) c.loop-d.invariant.of_line (Contains-next c.args.start c.args.rest.now c.loop-d.d-index _ c.loop-d-test.true) c.requires).3

pub crosses-requires-clause-from_end : goal.crosses-requires-clause-from_end
crosses-requires-clause-from_end c = (among_close c.args.a c.args.b c.loop-d.c c.loop-d.c (c.args.start ∷ c.args.rest.now) c.loop-d.invariant.of_line c.loop-d.invariant.of_line c.requires).4

pub returns-then-crosses : goal.returns-then-crosses
returns-then-crosses c =
    let here = line_here (Crosses c.args.a c.args.b) c.loop-d.c c.args.rest.now c.loop-d.d-index _ c.loop-d-test.true (c.if-crosses.ensures.0 refl) in
    (λ _. c.loop-d.invariant.ahead.0 here, λ _. refl)

pub loop-d-preserved : goal.loop-d-preserved
loop-d-preserved c = record {
  of_line = Contains-next c.args.start c.args.rest.now c.loop-d.d-index _ c.loop-d-test.true;
  ahead = iff_along (line_past (Crosses c.args.a c.args.b) c.loop-d.c c.args.rest.now c.loop-d.d-index _ c.loop-d-test.true (λ h. false≢true (c.if-crosses.ensures.1 h))) c.loop-d.invariant.ahead;
}
