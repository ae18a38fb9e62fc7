use Rattle.std.proofs.Common.{arith}
use Rattle.std.proofs.lemmas.Nat.{be_bytes_2}
use Rattle.change_journal.proofs.pieces.short_of.Goals as goal

pub returns : goal.returns
returns c = be_bytes_2 c.args.bytes.now c.from_be_bytes.result (omega arith) (λ i. c.fits-bytes i) c.from_be_bytes.ensures
