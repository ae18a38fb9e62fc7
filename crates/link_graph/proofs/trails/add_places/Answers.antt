use Rattle.venue_nodes.specs.Views.{find_place}
use Rattle.link_graph.proofs.MadeTrails.{places_step}
use Rattle.link_graph.proofs.trails.add_places.Goals as goal

pub loop-reference-preserved : goal.loop-reference-preserved
loop-reference-preserved c =
    places_step (find_place c.args.nodes.now) c.args.references.now c.loop-reference.reference-index _ c.args.chain.now.items c.loop-reference.chain.items c.add_place.new.chain.items
    c.loop-reference-test.true c.loop-reference.invariant c.in_ok-add_place.ensures
