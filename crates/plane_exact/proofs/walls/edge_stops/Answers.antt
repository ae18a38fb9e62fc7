use Rattle.plane_exact.proofs.NearbyLemmas.{four_near}
use Rattle.plane_exact.proofs.walls.edge_stops.Goals as goal

pub crosses-requires-clause-first : goal.crosses-requires-clause-first
crosses-requires-clause-first c = (four_near c.args.a c.args.b c.args.from c.args.to c.requires.near).way

pub crosses-requires-clause-second : goal.crosses-requires-clause-second
crosses-requires-clause-second c = (four_near c.args.a c.args.b c.args.from c.args.to c.requires.near).edge

pub crosses-requires-clause-to_start : goal.crosses-requires-clause-to_start
crosses-requires-clause-to_start c = (four_near c.args.a c.args.b c.args.from c.args.to c.requires.near).start_first

pub crosses-requires-clause-to_end : goal.crosses-requires-clause-to_end
crosses-requires-clause-to_end c = (four_near c.args.a c.args.b c.args.from c.args.to c.requires.near).start_second

pub crosses-requires-clause-from_end : goal.crosses-requires-clause-from_end
crosses-requires-clause-from_end c = (four_near c.args.a c.args.b c.args.from c.args.to c.requires.near).end_first
