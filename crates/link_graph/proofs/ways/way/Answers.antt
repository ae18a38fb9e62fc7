use Rattle.link_graph.proofs.LeadingReads.{way_is}
use Rattle.link_graph.proofs.ways.way.Goals as goal

pub returns : goal.returns
returns c = way_is c.args.core.now c.args.a c.args.b c.length_cm.result c.spot.result c.spot-2.result c.requires.sound c.requires.from c.requires.to c.spot.ensures c.spot-2.ensures c.length_cm.ensures.length
