use Rattle.std.proofs.Common.{refl, sym, ap, ◌∙◌}
use Rattle.venue_commands.proofs.Serving.{serves, same_files, ends_nothing, later_as}
use Rattle.venue_commands.proofs.session_command.serve_console.Goals as goal

pub returns-in-Ok-clause-ends : goal.returns-in-Ok-clause-ends
returns-in-Ok-clause-ends g c words files before opens same failed =
    let served = c.serve_session-end.ensures in
    serves words files (g.F.Folders.files c.args.folders) _ (g.F.Folders.faults c.args.folders) c.status_of.result c.args.opening c.args.opening.front _ _
    c.serve_session-end.result opens same failed c.args.opening.keys c.in-Ok.ensures.facts served.session served.prompt served.hall (ap g.F.Folders.faults c.finish.ensures) c.status_of.ensures

pub returns-in-Ok-clause-files : goal.returns-in-Ok-clause-files
returns-in-Ok-clause-files g c =
    let hall = c.in-Ok.hall in
    let now = c.serve_session-end.new.hall in
    ap g.F.Folders.files c.finish.ensures
    ∙ same_files (g.F.Folders.files hall.reader.folders) (g.F.Folders.files now.reader.folders) hall.reader.base now.reader.base c.serve_session-end.ensures.hall.same.files
    ∙ ap g.F.Folders.files c.in-Ok.ensures.folders

pub returns-in-Ok-clause-folders_later : goal.returns-in-Ok-clause-folders_later
returns-in-Ok-clause-folders_later g c =
    later_as _ _ _ _ (sym (ap g.F.Folders.faults c.in-Ok.ensures.folders)) (ap g.F.Folders.faults c.finish.ensures) c.serve_session-end.ensures.hall.faults

pub returns-clause-ends : goal.returns-clause-ends
returns-clause-ends g c words files before opens same failed =
    ends_nothing words files _ refl (record { console = refl; folders = ap g.F.Folders.faults c.in-Err.ensures.err ∙ failed }) refl
