-- What becomes of a change at the published board becomes of the office's entries.
use Rattle.std.proofs.Common.{rules, ◌≡◌, ◌∙◌, ◌+◌, ℕ, ap, refl, sym, subst, arith}
use Rattle.std.specs.Arc.{arc_value}
use Rattle.board_copies.specs.declared.held.Held.{Held}
use Rattle.board_copies.specs.Rules.{list_of}
use Rattle.venue_hall.specs.Histories.{Replays}
use Rattle.board_copies.specs.Making.{shelf_of}
use Rattle.board_copies.proofs.Entering.{enters, stays, made_counts}
use Rattle.shared_hall.specs.Offices.{OfficeFacts, IsRecorded}
use Rattle.shared_hall.proofs.Seen.{changes_seen}
use Rattle.shared_hall.proofs.Keeping.{comes_of, unkept_changes}
use Rattle.shared_hall.proofs.Telling.{made_told, made_log}
use Rattle.shared_hall.proofs.office.OfficeOf+N+F+Keeper+J.change.Goals as goal

pub ready_change-outcome-requires-clause-closable : goal.ready_change-outcome-requires-clause-closable
ready_change-outcome-requires-clause-closable g c =
    let shown = c.self.inside.keeper.writer.desk.shown.value in
    let h = list_of shown in
    let held = c.deref.result.now in
    let is : held ≡ arc_value shown.held = search rules in
    let stands : Replays h held.board = subst (λ (x : Held). Replays h x.board) (sym is) (arc_value shown.held).stands in
    c.version_law.ensures.closable h held.board stands

pub returns-in-Stays-clause-reply : goal.returns-in-Stays-clause-reply
returns-in-Stays-clause-reply g c =
    let shelf = shelf_of (g.F.Folders.files c.self.inside.reader.folders) c.self.inside.reader.base in
    let shown = c.self.inside.keeper.writer.desk.shown.value in
    let h = list_of shown in
    let held = c.deref.result.now in
    let is : held ≡ arc_value shown.held = search rules in
    let stands : Replays h held.board = subst (λ (x : Held). Replays h x.board) (sym is) (arc_value shown.held).stands in
    changes_seen _ c.args.self.now _ c.args.pass.now c.args.change.now c.in-Stays.reply h c.self.view_is c.pass.view_is
    (stays shelf held.board c.pass.inside.worker c.args.change.now h h c.in-Stays.reply stands c.in-Stays.ensures.outcome refl)

pub returns-in-Ok-clause-reply : goal.returns-in-Ok-clause-reply
returns-in-Ok-clause-reply g c =
    let shelf = shelf_of (g.F.Folders.files c.self.inside.reader.folders) c.self.inside.reader.base in
    let shown = c.self.inside.keeper.writer.desk.shown.value in
    let h = list_of shown in
    let held = c.deref.result.now in
    let is : held ≡ arc_value shown.held = search rules in
    let stands : Replays h held.board = subst (λ (x : Held). Replays h x.board) (sym is) (arc_value shown.held).stands in
    let k = c.enter.new.self.entries in
    changes_seen _ c.args.self.now _ c.args.pass.now c.args.change.now c.in-Made.reply k c.self.view_is c.pass.view_is
    (enters shelf held.board c.pass.inside.worker c.args.change.now h k c.in-Made.ready c.in-Made.reply c.in-Made.files stands c.in-Made.ensures.outcome c.in-Ok.ensures.ok)

-- what is ready tells no fault, and none was counted
pub returns-in-Ok-clause-fault : goal.returns-in-Ok-clause-fault
returns-in-Ok-clause-fault g c =
    let same : c.enter.new.self.faults ≡ c.args.self.now.faults = search rules in
    made_counts c.deref.result.now.board c.args.change.now c.in-Made.ready.entry.act c.in-Made.reply c.in-Made.ensures.outcome.tells c.args.self.now.faults c.enter.new.self.faults same

-- what is ready is told as accepted, and was counted
pub returns-in-Ok-clause-made : goal.returns-in-Ok-clause-made
returns-in-Ok-clause-made g c =
    let one = made_told c.deref.result.now.board c.args.change.now c.in-Made.ready.entry.act c.in-Made.reply c.in-Made.ensures.outcome.tells in
    let counted : c.enter.new.pass.made ≡ c.args.pass.now.made + 1 = c.in-Ok.ensures.counted in
    omega (arith, one, counted)

pub enter-requires-clause-comes : goal.enter-requires-clause-comes
enter-requires-clause-comes g c =
    let shelf = shelf_of (g.F.Folders.files c.self.inside.reader.folders) c.self.inside.reader.base in
    comes_of shelf c.deref.result.now.board c.args.change.now c.in-Made.ready.entry.act c.in-Made.files c.in-Made.ensures.outcome.brings

pub returns-in-Ok-clause-log_fault : goal.returns-in-Ok-clause-log_fault
returns-in-Ok-clause-log_fault g c =
    made_log c.deref.result.now.board c.args.change.now c.in-Made.ready.entry.act c.in-Made.reply c.in-Made.ensures.outcome.tells c.args.self.now.log_faults c.enter.new.self.log_faults
    (c.in-Ok.ensures.faultless ∙ ap (λ (o : OfficeFacts). o.log_faults) c.self.view_is)

-- what is ready is told as accepted, and has its record
pub returns-in-Ok-clause-recorded : goal.returns-in-Ok-clause-recorded
returns-in-Ok-clause-recorded g c =
    let one = made_told c.deref.result.now.board c.args.change.now c.in-Made.ready.entry.act c.in-Made.reply c.in-Made.ensures.outcome.tells in
    let here : IsRecorded 1 c.args.self.now.records c.enter.new.self.records =
    subst (λ (o : OfficeFacts). IsRecorded 1 o.records c.enter.new.self.records) c.self.view_is c.in-Ok.ensures.recorded in
    subst (λ (n : ℕ). IsRecorded n c.args.self.now.records c.enter.new.self.records) (sym one) here

-- what isn't kept leaves the entries
pub returns-in-Err-clause-reply : goal.returns-in-Err-clause-reply
returns-in-Err-clause-reply g c =
    let shelf = shelf_of (g.F.Folders.files c.self.inside.reader.folders) c.self.inside.reader.base in
    let shown = c.self.inside.keeper.writer.desk.shown.value in
    let h = list_of shown in
    let held = c.deref.result.now in
    let is : held ≡ arc_value shown.held = search rules in
    let stands : Replays h held.board = subst (λ (x : Held). Replays h x.board) (sym is) (arc_value shown.held).stands in
    let k = c.enter.new.self.entries in
    let same : k ≡ h = c.in-Err.ensures.err in
    changes_seen _ c.args.self.now _ c.args.pass.now c.args.change.now c.in-Err.reply k c.self.view_is c.pass.view_is
    (unkept_changes shelf held.board c.pass.inside.worker c.args.change.now h k c.in-Made.ready c.in-Made.reply c.in-Err.reply c.in-Made.files
    (g.J.Log.faults c.self.inside.log) c.enter.new.self.log_faults stands c.in-Made.ensures.outcome c.in-Err.ensures.unkept same)
