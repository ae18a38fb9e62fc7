use Rattle.unit_sight.proofs.Wholes.{seen_joins}
use Rattle.unit_sight.proofs.sights.Sights.joins.Goals as goal

pub returns-in-None : goal.returns-in-None
returns-in-None c = seen_joins c.self.inside.size c.self.inside.rows c.args.self.now c.args.i c.args.j c.self.invariant c.self.view_is c.in-None.is c.requires.row c.requires.column
