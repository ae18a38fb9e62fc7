use Rattle.plane_exact.proofs.NearbyLemmas.{four_near}
use Rattle.plane_exact.proofs.walls.has_end_near_edge.Goals as goal

pub near_edge-requires-clause-edge : goal.near_edge-requires-clause-edge
near_edge-requires-clause-edge c = (four_near c.args.a c.args.b c.args.from c.args.to c.requires.near).edge

pub near_edge-requires-clause-from_start : goal.near_edge-requires-clause-from_start
near_edge-requires-clause-from_start c = (four_near c.args.a c.args.b c.args.from c.args.to c.requires.near).first_start

pub near_edge-requires-clause-from_end : goal.near_edge-requires-clause-from_end
near_edge-requires-clause-from_end c = (four_near c.args.a c.args.b c.args.from c.args.to c.requires.near).second_start

pub near_edge-requires-else-near_edge-clause-edge : goal.near_edge-requires-else-near_edge-clause-edge
near_edge-requires-else-near_edge-clause-edge c = (four_near c.args.a c.args.b c.args.from c.args.to c.requires.near).edge

pub near_edge-requires-else-near_edge-clause-from_start : goal.near_edge-requires-else-near_edge-clause-from_start
near_edge-requires-else-near_edge-clause-from_start c = (four_near c.args.a c.args.b c.args.from c.args.to c.requires.near).first_end

pub near_edge-requires-else-near_edge-clause-from_end : goal.near_edge-requires-else-near_edge-clause-from_end
near_edge-requires-else-near_edge-clause-from_end c = (four_near c.args.a c.args.b c.args.from c.args.to c.requires.near).second_end
