use Rattle.std.proofs.Common.{take, arith}
use Rattle.wire_frames.specs.Heads.{front}
use Rattle.venue_wire.proofs.MessageLemmas.{extent_grows}
use Rattle.venue_wire.proofs.laws.message_length_law.Goals as goal

pub returns : goal.returns
returns c = record {
  some = λ keys bytes m size close x.
      let some = extent_grows front 0 0 (take 16384 bytes) x.1.extent x.1.head.ends in omega (arith, some, x.3, x.1.length);
  within = λ keys bytes m size close x. omega (arith, x.3, x.1.length, x.1.whole);
}
