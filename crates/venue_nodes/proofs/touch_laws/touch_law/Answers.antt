use Rattle.venue_nodes.proofs.Nearness.{touch_decides}
use Rattle.venue_nodes.proofs.touch_laws.touch_law.Goals as goal

pub returns : goal.returns
returns c = touch_decides
