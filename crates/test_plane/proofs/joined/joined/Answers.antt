use Rattle.test_figures.proofs.BoxLemmas.{spots_near, spots_range}
use Rattle.test_plane.proofs.joined.joined.Goals as goal

pub of-requires-clause-near : goal.of-requires-clause-near
of-requires-clause-near g c = spots_near c.args.spots.now c.args.room.now c.requires.spots c.requires.room

pub of-requires-clause-range : goal.of-requires-clause-range
of-requires-clause-range g c = spots_range c.args.spots.now c.args.room.now c.requires.spots c.requires.room
