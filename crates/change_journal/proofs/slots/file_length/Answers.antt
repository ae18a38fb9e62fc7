use Rattle.change_journal.proofs.Looking.{looks_same}
use Rattle.std.proofs.Common.{◌+◌, ◌<◌, ◌≤◌, ◌^◌, length, drop, arith}
use Rattle.std.proofs.lemmas.List.{length-drop}
use Rattle.change_journal.proofs.Parsing.{no_short_file, no_long_file}
use Rattle.change_journal.proofs.slots.file_length.Goals.{else-count-le33554432-via-then-count-le33554432+else-count-left, else-count-le33554432-via-else-count-le33554432}
use Rattle.change_journal.proofs.slots.file_length.Goals as goal

pub returns-then-left-lt8-clause-looks : goal.returns-then-left-lt8-clause-looks
returns-then-left-lt8-clause-looks g c = looks_same _

pub returns-then-left-lt8-clause-length : goal.returns-then-left-lt8-clause-length
returns-then-left-lt8-clause-length g c = λ bytes is.
    let long = c.end.ensures.told bytes is in
    no_short_file (drop c.args.place bytes) (omega (arith, long, length-drop c.args.place bytes))

pub returns-else-count-le33554432-clause-length : goal.returns-else-count-le33554432-clause-length
returns-else-count-le33554432-clause-length g c = λ bytes is.
    let place = c.args.place in
    let count = c.in_ok-count.count in
    let long = c.end.ensures.told bytes is in
    let small : count < 2 ^ 64 = omega arith in
    let fits : place + 8 ≤ length bytes = omega (arith, long) in
    elim c.else-count-le33554432.branch [
      | else-count-le33554432-via-then-count-le33554432+else-count-left w ↦
          no_long_file place count bytes small (c.in_ok-count.ensures.number bytes is) (λ within. omega (arith, long)) fits
      | else-count-le33554432-via-else-count-le33554432 w ↦
          no_long_file place count bytes small (c.in_ok-count.ensures.number bytes is) (λ within. omega (arith, long, within)) fits
    ]
