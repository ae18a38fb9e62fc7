use Rattle.std.proofs.Common.{◌||◌, true, length, refl}
use Rattle.unit_sight.specs.Tables.{joins}
use Rattle.unit_sight.proofs.PairLemmas.{is_pair, pair_joined, size_of}
use Rattle.unit_sight.proofs.finding.join_front.Goals as goal

pub loop-j-preserved : goal.loop-j-preserved
loop-j-preserved c = record {
  size = size_of (length c.args.bits.now) (λ a b. joins c.loop-j.bits a b || is_pair c.args.i c.loop-j.j a b) c.loop-j.bits c.join.new.self c.loop-j.invariant.size c.join.ensures;
  told = λ start. pair_joined (λ a b. true) (length c.args.bits.now) c.args.i c.loop-j.j c.loop-j.bits c.join.new.self (λ a b. refl) c.loop-j-test.true c.requires refl (c.loop-j.invariant.told start) c.join.ensures;
}
