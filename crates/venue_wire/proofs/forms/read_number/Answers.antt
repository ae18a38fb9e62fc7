use Rattle.std.proofs.Common.{sym}
use Rattle.venue_wire.proofs.NumberLemmas.{read_small, read_large}
use Rattle.venue_wire.proofs.forms.read_number.Goals as goal

pub returns-then-number-lt4294967296 : goal.returns-then-number-lt4294967296
returns-then-number-lt4294967296 c =
    sym (read_small c.args.text.now c.in_ok-number.number c.in_ok-number.ensures.found.1 c.in_ok-number.ensures.found.0 c.if-number-lt4294967296.true)

pub returns-else-number-lt4294967296 : goal.returns-else-number-lt4294967296
returns-else-number-lt4294967296 c =
    sym (read_large c.args.text.now c.in_ok-number.number c.in_ok-number.ensures.found.1 c.in_ok-number.ensures.found.0 c.if-number-lt4294967296.false)
