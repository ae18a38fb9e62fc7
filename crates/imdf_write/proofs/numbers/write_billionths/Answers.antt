-- Ten digits are written, and a point in place of the first.
use Rattle.std.proofs.Common.{◌≡◌, ◌+◌, ◌<◌, ◌++◌, ◌∙◌, ℕ, List, length, drop, ap, arith}
use Rattle.std.specs.Fmt.{decimal}
use Rattle.geo_decimal.specs.Text.{nine_digits}
use Rattle.imdf_write.proofs.Degrees.{one_and_nine, nine_long, first_replaced}
use Rattle.imdf_write.proofs.numbers.write_billionths.Goals as goal

ten_long : (r : ℕ) → r < 1000000000 → length (decimal (1000000000 + r)) ≡ 10
ten_long r h = ap length (one_and_nine r h) ∙ omega (arith, nine_long r h)

pub write_digits-point-requires : goal.write_digits-point-requires
write_digits-point-requires c = (omega (arith, ten_long c.args.billionths c.requires.few, c.requires.room.0), c.requires.room.1)

pub bounds-room-point : goal.bounds-room-point
bounds-room-point c = omega (arith, ten_long c.args.billionths c.requires.few, c.requires.room.1, c.write_digits-point.ensures.start, c.write_digits-point.auto.buf)

pub returns-clause-start : goal.returns-clause-start
returns-clause-start c = omega (arith, ten_long c.args.billionths c.requires.few, c.write_digits-point.ensures.start)

pub returns-clause-written : goal.returns-clause-written
returns-clause-written c =
    let b = c.args.billionths in
    let within : c.write_digits-point.result < length c.write_digits-point.new.buf = omega (arith, ten_long b c.requires.few, c.requires.room.1, c.write_digits-point.ensures.start, c.write_digits-point.auto.buf) in
    first_replaced c.write_digits-point.new.buf (nine_digits b ++ drop c.args.end c.args.room.now) c.write_digits-point.result 49 46 within
    (c.write_digits-point.ensures.written ∙ ap (λ (ds : List ℕ). ds ++ drop c.args.end c.args.room.now) (one_and_nine b c.requires.few))
