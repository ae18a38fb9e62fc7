use Rattle.unit_sight.proofs.Masks.{seen_mask}
use Rattle.unit_sight.proofs.mask.Mask.size.Goals as goal

pub returns-clause-size : goal.returns-clause-size
returns-clause-size c = seen_mask c.self.inside.size c.self.inside.words.items c.args.self.now c.self.view_is
