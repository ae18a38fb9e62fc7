use Rattle.std.proofs.Common.{rules}
use Rattle.venue_commands.specs.Files.{walk_name}
use Rattle.venue_commands.proofs.Failing.{over_table}
use Rattle.venue_commands.proofs.Judging.{stops_at_links, stops_at_walk, is_priced}
use Rattle.venue_commands.proofs.price_command.price_answer.Goals as goal

pub returns-in-Err-clause-told : goal.returns-in-Err-clause-told
returns-in-Err-clause-told g c =
    let a = c.in_ok-stopped-in-Err in
    stops_at_links (g.F.Folders.files c.args.folders.now) c.args.base.name.now a.field-0.text a.field-0.status c.in_ok-table.field-0 c.in-Err.cause
    c.in_ok-table.ensures.told c.in-Err.is a.ensures.text a.ensures.status

pub returns-in-Err-2-clause-told : goal.returns-in-Err-2-clause-told
returns-in-Err-2-clause-told g c =
    let a = c.in_ok-stopped-in-Err-2 in
    stops_at_walk (g.F.Folders.files c.args.folders.now) (g.F.Folders.files c.table_of.new.folders) c.args.base.name.now a.field-0.text a.field-0.status c.in_ok-table.field-0 c.in-Ok.table
    c.in_ok-walk.field-0 c.in-Err-2.cause c.in_ok-table.ensures.same c.in_ok-table.ensures.told c.in-Ok.is c.in_ok-walk.ensures.told c.in-Err-2.is a.ensures.text a.ensures.status

pub returns-clause-told : goal.returns-clause-told
returns-clause-told g c =
    let a = c.in_ok-priced in
    is_priced (g.F.Folders.files c.args.folders.now) (g.F.Folders.files c.table_of.new.folders) c.args.base.name.now a.field-0.text a.field-0.status c.in_ok-table.field-0 c.in-Ok.table
    c.in_ok-walk.field-0 c.in-Ok-2.walk c.price.result c.in_ok-table.ensures.same c.in_ok-table.ensures.told c.in-Ok.is c.in_ok-walk.ensures.told c.in-Ok-2.is c.price.ensures a.ensures.text a.ensures.status

pub returns-in_err-walk-clause-failed : goal.returns-in_err-walk-clause-failed
returns-in_err-walk-clause-failed g c is =
    over_table (g.F.Folders.files c.args.folders.now) c.args.base.name.now walk_name c.in_ok-table.field-0 c.in-Ok.table (g.F.Folders.asked c.args.folders.now) (g.F.Folders.asked c.table_of.new.folders)
    (g.F.Folders.asked c.walk_of.new.folders) c.in_ok-table.ensures.told c.in-Ok.is c.in_ok-table.ensures.asked (c.walk_of.ensures.failed (search rules))
