use Rattle.std.proofs.Common.{FitsSigned, w64, ◌*ℤ◌, ◌≡◌, ap₂, to_z, of_z, pos, lit<}
use Rattle.std.proofs.lemmas.Int.{to_z-of_z}
use Rattle.plane_exact.specs.Plane.{IsWithin}
use Rattle.plane_exact.proofs.NumberLemmas.{IsWithin-mul, fits_from_IsWithin, read_back}
use Rattle.plane_exact.proofs.numbers.product.Goals as goal

range : (c : goal.Start) → IsWithin 640000000000000000 (c.args.m *ℤ c.args.n) (pos 0)
range c = IsWithin-mul c.args.m c.args.n 800000000 800000000 c.requires.first c.requires.second

fits : (c : goal.Start) → FitsSigned w64 (c.args.m *ℤ c.args.n)
fits c = fits_from_IsWithin 640000000000000000 _ (range c) (lit< tt)

operands : (c : goal.Start) → to_z w64 (of_z w64 c.args.m) *ℤ to_z w64 (of_z w64 c.args.n) ≡ c.args.m *ℤ c.args.n
operands c = ap₂ ◌*ℤ◌ (to_z-of_z w64 c.args.m c.ranges.m) (to_z-of_z w64 c.args.n c.ranges.n)

pub overflow_mul-result : goal.overflow_mul-result
overflow_mul-result c = rw (operands c) (fits c)

pub returns-clause-value : goal.returns-clause-value
returns-clause-value c = read_back w64 _ _ (operands c) (fits c)

pub returns-clause-range : goal.returns-clause-range
returns-clause-range c = rw (read_back w64 _ _ (operands c) (fits c)) (range c)
