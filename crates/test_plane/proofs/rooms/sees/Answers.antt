use Rattle.test_figures.proofs.BoxLemmas.{sight_near}
use Rattle.test_plane.proofs.rooms.sees.Goals as goal

pub sight-requires-clause-near : goal.sight-requires-clause-near
sight-requires-clause-near c = sight_near c.args.a c.args.b c.args.room.now c.requires.from c.requires.to c.requires.room
