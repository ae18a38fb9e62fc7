use Rattle.plane_exact.proofs.NearbyLemmas.{three_near}
use Rattle.plane_exact.proofs.walls.vertex_stops.Goals as goal

pub is_on_open_segment-requires-clause-end : goal.is_on_open_segment-requires-clause-end
is_on_open_segment-requires-clause-end c = (three_near c.args.a c.args.b c.args.v c.requires.near).0

pub is_on_open_segment-requires-clause-point : goal.is_on_open_segment-requires-clause-point
is_on_open_segment-requires-clause-point c = (three_near c.args.a c.args.b c.args.v c.requires.near).1

pub has_end_near-requires-clause-start : goal.has_end_near-requires-clause-start
has_end_near-requires-clause-start c = (three_near c.args.a c.args.b c.args.v c.requires.near).1

pub has_end_near-requires-clause-end : goal.has_end_near-requires-clause-end
has_end_near-requires-clause-end c = (three_near c.args.a c.args.b c.args.v c.requires.near).2
