use Rattle.std.proofs.Common.{◌≡◌, ◌≤ℤ◌, ◌-ℤ◌, ◌+ℤ◌, pos, to_z, of_z, w64, arith}
use Rattle.std.proofs.lemmas.Int.{ints}
use Rattle.plane_trees.proofs.OctagonLemmas.{at_band}
use Rattle.plane_trees.proofs.octagons.Band.is_at.Goals as goal

pub returns-then-self-n : goal.returns-then-self-n
returns-then-self-n c =
    let low : to_z w64 (of_z w64 (to_z w64 (of_z w64 c.args.n) -ℤ to_z w64 (of_z w64 (pos c.args.t)))) ≡ c.args.n -ℤ pos c.args.t = omega (arith, ints) in
    let high : to_z w64 (of_z w64 c.args.self.greatest) ≡ c.args.self.greatest = omega (arith, ints) in
    at_band c.args.self c.args.n _ _ c.args.t low high (omega (arith, ints))
