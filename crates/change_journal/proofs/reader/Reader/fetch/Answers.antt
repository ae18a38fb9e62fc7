use Rattle.std.proofs.Common.{◌+◌, ◌≤◌, length, ◌∙◌, arith}
use Rattle.change_journal.proofs.Numbers.{span, copied}
use Rattle.change_journal.proofs.reader.Reader.fetch.Goals as goal

pub returns-clause-bytes : goal.returns-clause-bytes
returns-clause-bytes g c =
    let start = c.reach.new.self.start in
    let held = c.reach.new.self.held in
    let window = c.reach.new.self.bytes.items in
    let place = c.args.place in
    let count = length c.args.buf.now in
    let begins : start ≤ place = c.in_ok-reach.ensures.here.begins in
    let ends : place + count ≤ start + held = omega (arith, c.in_ok-reach.ensures.here.ends) in
    rw (← c.self.view_is) (λ bytes is.
    span place count c.copy.new.buf bytes (c.copy.ensures ∙
    copied window bytes start held place count begins ends (c.in_ok-reach.ensures.opened.window_is bytes (c.in_ok-reach.ensures.told ∙ is))))
