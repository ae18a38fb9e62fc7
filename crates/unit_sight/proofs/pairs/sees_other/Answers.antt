use Rattle.unit_sight.proofs.RoomLemmas.{both_near, in_range}
use Rattle.unit_sight.proofs.pairs.sees_other.Goals as goal

pub sees-requires-clause-near : goal.sees-requires-clause-near
sees-requires-clause-near c = both_near c.args.room.now.bands c.args.room.now.spots.now c.args.room.now.tolerance c.args.i c.args.j c.requires.fits c.requires.first c.requires.second

pub sees-requires-clause-start : goal.sees-requires-clause-start
sees-requires-clause-start c = in_range c.args.room.now.bands c.args.room.now.spots.now c.args.room.now.tolerance c.args.i c.requires.fits c.requires.first

pub sees-requires-clause-end : goal.sees-requires-clause-end
sees-requires-clause-end c = in_range c.args.room.now.bands c.args.room.now.spots.now c.args.room.now.tolerance c.args.j c.requires.fits c.requires.second
