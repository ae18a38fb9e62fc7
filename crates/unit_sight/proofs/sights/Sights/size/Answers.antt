use Rattle.unit_sight.proofs.Wholes.{seen_length}
use Rattle.unit_sight.proofs.sights.Sights.size.Goals as goal

pub returns-clause-size : goal.returns-clause-size
returns-clause-size c = seen_length c.self.inside.size c.self.inside.rows c.args.self.now c.self.invariant c.self.view_is
