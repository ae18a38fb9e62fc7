use Rattle.unit_sight.proofs.Wholes.{in_sights, seen_count}
use Rattle.unit_sight.proofs.sights.Sights.count.Goals as goal

pub whole_rank-requires-clause-row : goal.whole_rank-requires-clause-row
whole_rank-requires-clause-row c = in_sights c.self.inside.size c.self.inside.rows c.args.self.now c.args.i c.self.invariant c.self.view_is c.requires

pub returns-in-None : goal.returns-in-None
returns-in-None c = seen_count c.self.inside.size c.self.inside.rows c.args.self.now c.args.i c.whole_rank.result c.self.invariant c.self.view_is c.in-None.is c.whole_rank.ensures
