use Rattle.link_graph.proofs.LeadingReads.{way_within}
use Rattle.link_graph.proofs.ways.is_within.Goals as goal

pub returns : goal.returns
returns c =
    let spans = c.spans.ensures in
    let within = way_within c.args.core.now c.args.a c.args.b c.args.room c.spot.result c.spot-2.result c.requires.sound c.requires.from c.requires.to c.spot.ensures c.spot-2.ensures in
    (λ h. within.0 (spans.0 h), λ h. spans.1 (within.1 h))
