-- The place of the lowest bit, and all bits of a number below 256 are below 8.
use Rattle.std.proofs.Common.{arith, w64}
use Rattle.std.proofs.lemmas.Nat.Bits.{bit_at-trailing_zeros}
use Rattle.stop_order.proofs.Bits.{bit_below}
use Rattle.stop_order.proofs.sets.one_of.Goals as goal

pub returns-clause-has : goal.returns-clause-has
returns-clause-has c = (bit_at-trailing_zeros w64 c.args.set (omega arith) (omega arith)).1

pub returns-clause-few : goal.returns-clause-few
returns-clause-few c =
    let has = (bit_at-trailing_zeros w64 c.args.set (omega arith) (omega arith)).1 in
    bit_below c.args.set 8 _ (omega arith) has
