use Rattle.std.proofs.Common.{List, ◌∷◌, subst}
use Rattle.std.proofs.lemmas.List.{take_all}
use Rattle.venue_types.specs.declared.point.Point.{Point}
use Rattle.plane_trees.specs.Octagons.{IsRound}
use Rattle.plane_exact.proofs.NearbyLemmas.{point_close}
use Rattle.plane_trees.proofs.OctagonLemmas.{IsRound-at, IsRound-more}
use Rattle.plane_trees.proofs.octagons.octagon_of.Goals as goal

pub offset_of-requires-in-loop-q : goal.offset_of-requires-in-loop-q
offset_of-requires-in-loop-q c = point_close c.args.origin c.args.start c.args.rest.now c.loop-q.q-index _ c.loop-q-test.true c.requires

pub loop-q-preserved : goal.loop-q-preserved
loop-q-preserved c =
    IsRound-more c.loop-q.octagon c.at.result c.with-octagon.result c.offset_of-in-loop-q.result c.args.origin c.args.start c.args.rest.now c.loop-q.q-index _ c.loop-q-test.true
    c.offset_of-in-loop-q.ensures.value c.at.ensures c.with-octagon.ensures.first c.with-octagon.ensures.second c.loop-q.invariant

pub returns : goal.returns
returns c = subst (λ (xs : List Point). IsRound c.loop-q.octagon c.args.origin (c.args.start ∷ xs)) (take_all c.loop-q.q-index c.args.rest.now c.loop-q-test.false) c.loop-q.invariant
