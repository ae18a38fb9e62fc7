use Rattle.std.proofs.Common.{rules}
use Rattle.venue_commands.specs.Files.{answer_name}
use Rattle.venue_commands.proofs.Failing.{over_table}
use Rattle.venue_commands.proofs.VerifyJudging.{stops_at_links, stops_at_answer, is_verified}
use Rattle.venue_commands.proofs.verify_command.verify_answer.Goals as goal

pub returns-in-Err-clause-told : goal.returns-in-Err-clause-told
returns-in-Err-clause-told g c =
    let a = c.in_ok-stopped-in-Err in
    stops_at_links (g.F.Folders.files c.args.folders.now) c.args.base.name.now a.field-0.text a.field-0.status c.in_ok-table.field-0 c.in-Err.cause
    c.in_ok-table.ensures.told c.in-Err.is a.ensures.text a.ensures.status

pub returns-in-Err-2-clause-told : goal.returns-in-Err-2-clause-told
returns-in-Err-2-clause-told g c =
    let a = c.in_ok-stopped-in-Err-2 in
    stops_at_answer (g.F.Folders.files c.args.folders.now) (g.F.Folders.files c.table_of.new.folders) c.args.base.name.now a.field-0.text a.field-0.status c.in_ok-table.field-0 c.in-Ok.table
    c.in_ok-answer.field-0 c.in-Err-2.cause c.in_ok-table.ensures.same c.in_ok-table.ensures.told c.in-Ok.is c.in_ok-answer.ensures.told c.in-Err-2.is a.ensures.text a.ensures.status

pub returns-clause-told : goal.returns-clause-told
returns-clause-told g c =
    let a = c.in_ok-judged in
    is_verified (g.F.Folders.files c.args.folders.now) (g.F.Folders.files c.table_of.new.folders) c.args.base.name.now a.field-0.text a.field-0.status c.in_ok-table.field-0 c.in-Ok.table
    c.in_ok-answer.field-0 c.in-Ok-2.answer c.verify.result c.in_ok-table.ensures.same c.in_ok-table.ensures.told c.in-Ok.is c.in_ok-answer.ensures.told c.in-Ok-2.is c.verify.ensures.judged a.ensures.text a.ensures.status

pub returns-in_err-answer-clause-failed : goal.returns-in_err-answer-clause-failed
returns-in_err-answer-clause-failed g c is =
    over_table (g.F.Folders.files c.args.folders.now) c.args.base.name.now answer_name c.in_ok-table.field-0 c.in-Ok.table (g.F.Folders.asked c.args.folders.now) (g.F.Folders.asked c.table_of.new.folders)
    (g.F.Folders.asked c.answer_of.new.folders) c.in_ok-table.ensures.told c.in-Ok.is c.in_ok-table.ensures.asked (c.answer_of.ensures.failed (search rules))
