use Rattle.std.proofs.Common.{◌+◌, ◌++◌, ℕ, List, drop, sym, ◌∙◌, ap}
use Rattle.change_journal.proofs.pieces.long_at.Goals as goal

pub returns-clause-number : goal.returns-clause-number
returns-clause-number g c = λ bytes is.
    c.in_ok-fetch.ensures.bytes bytes is ∙ ap (λ (l : List ℕ). l ++ drop (c.args.place + 8) bytes) (sym c.long_of.ensures)
