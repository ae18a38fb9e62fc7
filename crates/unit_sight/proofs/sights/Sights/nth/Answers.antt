use Rattle.unit_sight.proofs.Wholes.{in_sights}
use Rattle.unit_sight.proofs.sights.Sights.nth.Goals as goal

pub whole_nth-requires : goal.whole_nth-requires
whole_nth-requires c = in_sights c.self.inside.size c.self.inside.rows c.args.self.now c.args.i c.self.invariant c.self.view_is c.requires
