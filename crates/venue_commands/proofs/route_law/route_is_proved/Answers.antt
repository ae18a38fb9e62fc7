use Rattle.venue_commands.proofs.RouteProving.{is_proved_by, verifies}
use Rattle.venue_commands.proofs.route_law.route_is_proved.Goals as goal

pub returns-clause-shown : goal.returns-clause-shown
returns-clause-shown c files base folder name table answer from to =
    is_proved_by c.one_outcome.ensures.not_both c.one_outcome.ensures.one_venue c.verdict_law.ensures.truth files base folder name from to table answer

pub returns-clause-proved : goal.returns-clause-proved
returns-clause-proved c files kept base folder name desk table answer text from to judged answered there out =
    verifies c.table_law.ensures.one_table c.answer_law.ensures.one_answer c.verdict_law.ensures.one_verdict kept desk table answer
    (is_proved_by c.one_outcome.ensures.not_both c.one_outcome.ensures.one_venue c.verdict_law.ensures.truth files base folder name from to table answer answered) there text judged out
