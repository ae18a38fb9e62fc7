use Rattle.unit_sight.proofs.WordLemmas.{seen_size, seen_square}
use Rattle.unit_sight.proofs.bits.Bits.size.Goals as goal

pub returns-clause-size : goal.returns-clause-size
returns-clause-size c = seen_size _ _ _ c.self.view_is

pub returns-clause-square : goal.returns-clause-square
returns-clause-square c = seen_square c.self.inside.size c.self.inside.words.items _ c.self.view_is
