use Rattle.std.proofs.Common.{arith}
use Rattle.change_journal.proofs.Numbers.{halves}
use Rattle.change_journal.proofs.pieces.joined.Goals as goal

pub returns : goal.returns
returns c = halves c.args.high c.args.low (omega arith)
