use Rattle.unit_sight.proofs.Wholes.{seen_is_whole}
use Rattle.unit_sight.proofs.sights.Sights.is_whole.Goals as goal

pub returns : goal.returns
returns c = seen_is_whole c.self.inside.size c.self.inside.rows c.args.self.now c.is_none.result c.self.invariant c.self.view_is c.is_none.ensures
