use Rattle.std.proofs.Common.{sym}
use Rattle.unit_sight.proofs.Wholes.{whole_above, whole_below}
use Rattle.unit_sight.proofs.whole.whole_rank.Goals as goal

pub returns-then-i-j : goal.returns-then-i-j
returns-then-i-j c = sym (whole_above c.args.size c.args.i c.args.j c.requires.row c.requires.column c.if-i-j.true)

pub returns-else-i-j : goal.returns-else-i-j
returns-else-i-j c = sym (whole_below c.args.size c.args.i c.args.j c.requires.row c.if-i-j.false)
