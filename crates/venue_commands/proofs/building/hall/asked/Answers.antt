use Rattle.std.proofs.Common.{List, ap, subst}
use Rattle.version_board.specs.Entry.{Entry}
use Rattle.version_board.specs.Facts.{Facts, IsAnswered}
use Rattle.version_board.specs.Halls.{facts_of}
use Rattle.venue_commands.proofs.Seeing.{none_more}
use Rattle.venue_commands.proofs.building.hall.asked.Goals as goal

pub returns-clause-reply : goal.returns-clause-reply
returns-clause-reply c =
    let old = (facts_of c.args.hall.now).seen in
    let new = (facts_of c.ask.new.self).seen in
    subst (λ (h : List Entry). IsAnswered h c.args.query.now c.ask.result)
    (none_more old new c.requires c.ask.ensures.grows (ap (λ (f : Facts). f.made) c.ask.ensures.kept)) c.ask.ensures.reply
