use Rattle.std.proofs.Common.{◌<◌, not, length, sym, ap, ◌∙◌, arith}
use Rattle.unit_sight.specs.Tables.{joins}
use Rattle.unit_sight.proofs.GuestLemmas.{some_false}
use Rattle.unit_sight.proofs.guests.joins_none.Goals as goal

pub returns-then-joins : goal.returns-then-joins
returns-then-joins c =
    let size = c.size-j-end.ensures.size in
    let low : c.loop-j.j < length c.args.bits.now = omega arith in
    sym (some_false (λ j. not (joins c.args.bits.now c.args.i j)) (length c.args.bits.now) c.loop-j.j low (ap not (sym c.joins.ensures ∙ c.if-joins.true)))
