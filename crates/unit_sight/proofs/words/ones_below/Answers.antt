use Rattle.unit_sight.proofs.Ones.{ones_masked}
use Rattle.unit_sight.proofs.words.ones_below.Goals as goal

pub returns : goal.returns
returns c = ones_masked c.args.word c.args.k c.requires
