use Rattle.feature_rows.specs.Indexes.{place_of}
use Rattle.venue_nodes.proofs.Items.{given_on}
use Rattle.venue_nodes.proofs.Named.{found_within}
use Rattle.venue_nodes.proofs.walkables.Walkables.found.Goals as goal

pub add_place-requires : goal.add_place-requires
add_place-requires c = found_within c.args.self.now _ c.place_of.result c.requires c.place_of.ensures

pub loop-id-preserved : goal.loop-id-preserved
loop-id-preserved c =
    given_on (place_of c.args.self.now.places) c.args.ids.now c.loop-id.id-index _ c.place_of.result c.loop-id.found.items c.add_place.new.found.items
    c.loop-id-test.true c.loop-id.invariant c.place_of.ensures c.in_ok-add_place.ensures
