use Rattle.std.proofs.Common.{◌≡◌, ◌≤◌, arith}
use Rattle.std.specs.Fmt.{decimal}
use Rattle.std.proofs.lemmas.Fmt.{decimal_injective}
use Rattle.venue_commands.proofs.words.number_in.Goals as goal

pub returns-else-is_within-clause-none : goal.returns-else-is_within-clause-none
returns-else-is_within-clause-none c n some few is =
    let number = c.in_ok-found.ensures.found in
    let spelled : decimal c.in_ok-found.found ≡ decimal n = cc (number.0, c.as_bytes.ensures.value, is) in
    let same : c.in_ok-found.found ≡ n = decimal_injective c.in_ok-found.found n number.1 (omega arith) spelled in
    let low : 1 ≤ c.in_ok-found.found = omega arith in
    let high : c.in_ok-found.found ≤ c.args.most = omega arith in
    c.if-is_within.ensures.no (low, high)
