use Rattle.std.proofs.Common.{◌+◌, arith, sym}
use Rattle.unit_sight.proofs.Wholes.{whole_above, whole_at, whole_below, whole_past}
use Rattle.unit_sight.proofs.whole.whole_nth.Goals as goal

pub returns-then-k-i : goal.returns-then-k-i
returns-then-k-i c =
    let low = c.if-k-i.true in
    let row = c.requires in
    sym (whole_at c.args.size c.args.i c.args.k c.args.k row (omega arith) (omega arith) (whole_below c.args.size c.args.i c.args.k row (omega arith)))

pub returns-then-k-size : goal.returns-then-k-size
returns-then-k-size c =
    let high = c.if-k-i.false in
    let within = c.if-k-size.true in
    let row = c.requires in
    let count = whole_above c.args.size c.args.i (c.args.k + 1) row (omega arith) (omega arith) in
    sym (whole_at c.args.size c.args.i c.args.k (c.args.k + 1) row (omega arith) (omega arith) (omega arith))

pub returns-else-k-size : goal.returns-else-k-size
returns-else-k-size c = sym (whole_past c.args.size c.args.i c.args.k c.requires c.if-k-size.false)
