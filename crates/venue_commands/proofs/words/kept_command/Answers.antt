use Rattle.std.specs.Prelude.{map, string_bytes}
use Rattle.venue_commands.specs.Commands.{AskNoJournal}
use Rattle.venue_commands.proofs.Journals.{no_journal_at, no_journal_behind, where_none}
use Rattle.venue_commands.proofs.words.kept_command.Goals as goal

pub returns-in_err-front-clause-none : goal.returns-in_err-front-clause-none
returns-in_err-front-clause-none c =
    where_none (AskNoJournal (map string_bytes c.args.words.now)) c.from_residual.result (no_journal_at (map string_bytes c.args.words.now) c.in_err-front.ensures.none)

pub returns-clause-none : goal.returns-clause-none
returns-clause-none c =
    no_journal_behind (map string_bytes c.args.words.now) (map string_bytes c.in_ok-front.front.now) c.in_ok-front.journal.now c.in_ok-front.ensures.found
    c.in_default.ensures.none c.in_default-service_of.ensures.none
