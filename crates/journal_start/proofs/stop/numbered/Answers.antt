use Rattle.std.proofs.Common.{◌∷◌}
use Rattle.std.specs.Fmt.{decimal}
use Rattle.venue_commands.proofs.Spelling.{two_pieces}
use Rattle.journal_start.proofs.Reaching.{text_as}
use Rattle.journal_start.proofs.stop.numbered.Goals as goal

pub returns : goal.returns
returns c = text_as c.format.result _ _ (two_pieces c.args.word.now (32 ∷ decimal c.args.number)) c.format.ensures.ok
