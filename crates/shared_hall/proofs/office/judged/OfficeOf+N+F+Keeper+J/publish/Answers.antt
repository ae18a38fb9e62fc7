-- What becomes of a venue at the published board becomes of the office's entries, whatever folder it was made of.
use Rattle.std.proofs.Common.{rules, ◌≡◌, ◌∙◌, ◌+◌, ℕ, List, [], Option, Some, None, ap, length, refl, sym, subst, arith}
use Rattle.std.specs.Arc.{arc_value}
use Rattle.venue_types.specs.declared.files.Files.{Files}
use Rattle.venue_types.specs.declared.query.Change.TheVariants.{Publish}
use Rattle.venue_types.specs.declared.settings.Settings.{Settings}
use Rattle.board_copies.specs.declared.held.Held.{Held}
use Rattle.board_copies.specs.Rules.{list_of}
use Rattle.venue_hall.specs.Changes.{AreRead}
use Rattle.venue_hall.specs.Closed.{Version}
use Rattle.venue_hall.specs.Facts.{Facts}
use Rattle.venue_hall.specs.Histories.{Replays}
use Rattle.venue_hall.specs.Built.{IsVenueOf}
use Rattle.venue_hall.specs.Records.{Logged, AreKept}
use Rattle.venue_hall.specs.Versions.{MayFollow, after}
use Rattle.board_copies.specs.Making.{IsMade}
use Rattle.board_copies.proofs.Entering.{enters, stays}
use Rattle.shared_hall.specs.Offices.{OfficeFacts, IsRecorded}
use Rattle.shared_hall.proofs.Judging.{one_version}
use Rattle.shared_hall.proofs.Keeping.{comes_of, unkept_changes}
use Rattle.shared_hall.proofs.Telling.{made_told, made_log, made_faulted, leaves_untold, leaves_log}
use Rattle.shared_hall.proofs.office.judged.OfficeOf+N+F+Keeper+J.publish.Goals as goal

-- what a log tells it still tells
kept_so : (records : Option (List Logged)) → AreKept records records
kept_so None = tt
kept_so (Some records) = refl

-- the seventeen files are those of some folder, where no shelf is told
some_folder : (files : Files) → length files.slots ≡ 17 → AreRead None [] files
some_folder files seventeen = record { seventeen = seventeen; told = tt }

pub ready_venue-outcome-requires-clause-venue : goal.ready_venue-outcome-requires-clause-venue
ready_venue-outcome-requires-clause-venue g c =
    let shown = c.self.inside.keeper.writer.desk.shown.value in
    let held = c.deref.result.now in
    let is : held ≡ arc_value shown.held = search rules in
    let stands : Replays (list_of shown) held.board = subst (λ (x : Held). Replays (list_of shown) x.board) (sym is) (arc_value shown.held).stands in
    let here : Replays c.args.self.now.entries held.board = subst (λ (o : OfficeFacts). Replays o.entries held.board) c.self.view_is stands in
    let same : c.deref-2.result.now ≡ held.board.settings = search rules in
    subst (λ (s : Settings). IsVenueOf c.args.files s (arc_value c.args.venue)) (sym same) (c.requires.judged held.board here)

pub enter-requires-clause-may : goal.enter-requires-clause-may
enter-requires-clause-may g c v leads =
    let shown = c.self.inside.keeper.writer.desk.shown.value in
    let held = c.deref.result.now in
    let is : held ≡ arc_value shown.held = search rules in
    let stands : Replays (list_of shown) held.board = subst (λ (x : Held). Replays (list_of shown) x.board) (sym is) (arc_value shown.held).stands in
    let here : Replays c.args.self.now.entries held.board = subst (λ (o : OfficeFacts). Replays o.entries held.board) c.self.view_is stands in
    let made = c.in-Made.ensures.outcome None [] (some_folder c.args.files c.requires.seventeen) in
    subst (λ (w : Version). MayFollow w c.in-Made.ready.entry) (one_version c.args.self.now.entries held.board v here leads) made.may

pub enter-requires-clause-next : goal.enter-requires-clause-next
enter-requires-clause-next g c v leads =
    let shown = c.self.inside.keeper.writer.desk.shown.value in
    let held = c.deref.result.now in
    let is : held ≡ arc_value shown.held = search rules in
    let stands : Replays (list_of shown) held.board = subst (λ (x : Held). Replays (list_of shown) x.board) (sym is) (arc_value shown.held).stands in
    let here : Replays c.args.self.now.entries held.board = subst (λ (o : OfficeFacts). Replays o.entries held.board) c.self.view_is stands in
    let made = c.in-Made.ensures.outcome None [] (some_folder c.args.files c.requires.seventeen) in
    subst (λ (w : Version). c.in-Made.ready.board ≡ after w c.in-Made.ready.entry.act) (one_version c.args.self.now.entries held.board v here leads) made.next_is

pub enter-requires-clause-comes : goal.enter-requires-clause-comes
enter-requires-clause-comes g c =
    let made = c.in-Made.ensures.outcome None [] (some_folder c.args.files c.requires.seventeen) in
    comes_of None c.deref.result.now.board (Publish []) c.in-Made.ready.entry.act c.in-Made.files made.brings

pub returns-in-Stays-clause-reply : goal.returns-in-Stays-clause-reply
returns-in-Stays-clause-reply g c folder read =
    let now = c.args.self.now in
    let shown = c.self.inside.keeper.writer.desk.shown.value in
    let held = c.deref.result.now in
    let is : held ≡ arc_value shown.held = search rules in
    let stands : Replays (list_of shown) held.board = subst (λ (x : Held). Replays (list_of shown) x.board) (sym is) (arc_value shown.held).stands in
    let here : Replays now.entries held.board = subst (λ (o : OfficeFacts). Replays o.entries held.board) c.self.view_is stands in
    stays now.shelf held.board c.args.pass.now.worker (Publish folder) now.entries now.entries c.in-Stays.reply here (c.in-Stays.ensures.outcome now.shelf folder read) refl

pub returns-in-Stays-clause-made : goal.returns-in-Stays-clause-made
returns-in-Stays-clause-made g c =
    let none = leaves_untold None c.deref.result.now.board (Publish []) c.in-Stays.reply (c.in-Stays.ensures.outcome None [] (some_folder c.args.files c.requires.seventeen)) in
    let kept : c.count_fault.new.self.made ≡ c.args.pass.now.made = ap (λ (p : Facts). p.made) c.count_fault.ensures in
    omega (arith, none, kept)

pub returns-in-Stays-clause-log_fault : goal.returns-in-Stays-clause-log_fault
returns-in-Stays-clause-log_fault g c =
    leaves_log None c.deref.result.now.board (Publish []) c.in-Stays.reply (c.in-Stays.ensures.outcome None [] (some_folder c.args.files c.requires.seventeen))
    c.args.self.now.log_faults c.args.self.now.log_faults refl

pub returns-in-Stays-clause-recorded : goal.returns-in-Stays-clause-recorded
returns-in-Stays-clause-recorded g c =
    let none = leaves_untold None c.deref.result.now.board (Publish []) c.in-Stays.reply (c.in-Stays.ensures.outcome None [] (some_folder c.args.files c.requires.seventeen)) in
    subst (λ (n : ℕ). IsRecorded n c.args.self.now.records c.args.self.now.records) (sym none) (kept_so c.args.self.now.records)

pub returns-in-Ok-clause-reply : goal.returns-in-Ok-clause-reply
returns-in-Ok-clause-reply g c folder read =
    let now = c.args.self.now in
    let shown = c.self.inside.keeper.writer.desk.shown.value in
    let held = c.deref.result.now in
    let is : held ≡ arc_value shown.held = search rules in
    let stands : Replays (list_of shown) held.board = subst (λ (x : Held). Replays (list_of shown) x.board) (sym is) (arc_value shown.held).stands in
    let here : Replays now.entries held.board = subst (λ (o : OfficeFacts). Replays o.entries held.board) c.self.view_is stands in
    let made : IsMade now.shelf held.board c.args.pass.now.worker (Publish folder) c.in-Made.ready c.in-Made.reply c.in-Made.files =
    subst (λ (p : Facts). IsMade now.shelf held.board p.worker (Publish folder) c.in-Made.ready c.in-Made.reply c.in-Made.files) c.pass.view_is (c.in-Made.ensures.outcome now.shelf folder read) in
    enters now.shelf held.board c.args.pass.now.worker (Publish folder) now.entries c.enter.new.self.entries c.in-Made.ready c.in-Made.reply c.in-Made.files here made c.in-Ok.ensures.ok

pub returns-in-Ok-clause-faults : goal.returns-in-Ok-clause-faults
returns-in-Ok-clause-faults g c =
    let made = c.in-Made.ensures.outcome None [] (some_folder c.args.files c.requires.seventeen) in
    let same = made_faulted c.deref.result.now.board (Publish []) c.in-Made.ready.entry.act c.in-Made.reply made.tells c.args.pass.now.faults in
    let kept : c.enter.new.pass.faults ≡ c.args.pass.now.faults = ap (λ (p : Facts). p.faults) c.in-Ok.ensures.kept in
    kept ∙ sym same

-- what is ready is told as accepted, and was counted
pub returns-in-Ok-clause-made : goal.returns-in-Ok-clause-made
returns-in-Ok-clause-made g c =
    let made = c.in-Made.ensures.outcome None [] (some_folder c.args.files c.requires.seventeen) in
    let one = made_told c.deref.result.now.board (Publish []) c.in-Made.ready.entry.act c.in-Made.reply made.tells in
    let counted : c.enter.new.pass.made ≡ c.args.pass.now.made + 1 = c.in-Ok.ensures.counted in
    omega (arith, one, counted)

pub returns-in-Ok-clause-log_fault : goal.returns-in-Ok-clause-log_fault
returns-in-Ok-clause-log_fault g c =
    let made = c.in-Made.ensures.outcome None [] (some_folder c.args.files c.requires.seventeen) in
    made_log c.deref.result.now.board (Publish []) c.in-Made.ready.entry.act c.in-Made.reply made.tells c.args.self.now.log_faults c.enter.new.self.log_faults c.in-Ok.ensures.faultless

-- what is ready is told as accepted, and has its record
pub returns-in-Ok-clause-recorded : goal.returns-in-Ok-clause-recorded
returns-in-Ok-clause-recorded g c =
    let made = c.in-Made.ensures.outcome None [] (some_folder c.args.files c.requires.seventeen) in
    let one = made_told c.deref.result.now.board (Publish []) c.in-Made.ready.entry.act c.in-Made.reply made.tells in
    subst (λ (n : ℕ). IsRecorded n c.args.self.now.records c.enter.new.self.records) (sym one) c.in-Ok.ensures.recorded

-- what isn't kept leaves the entries
pub returns-in-Err-clause-reply : goal.returns-in-Err-clause-reply
returns-in-Err-clause-reply g c folder read =
    let now = c.args.self.now in
    let shown = c.self.inside.keeper.writer.desk.shown.value in
    let held = c.deref.result.now in
    let is : held ≡ arc_value shown.held = search rules in
    let stands : Replays (list_of shown) held.board = subst (λ (x : Held). Replays (list_of shown) x.board) (sym is) (arc_value shown.held).stands in
    let here : Replays now.entries held.board = subst (λ (o : OfficeFacts). Replays o.entries held.board) c.self.view_is stands in
    let made : IsMade now.shelf held.board c.args.pass.now.worker (Publish folder) c.in-Made.ready c.in-Made.reply c.in-Made.files =
    subst (λ (p : Facts). IsMade now.shelf held.board p.worker (Publish folder) c.in-Made.ready c.in-Made.reply c.in-Made.files) c.pass.view_is (c.in-Made.ensures.outcome now.shelf folder read) in
    unkept_changes now.shelf held.board c.args.pass.now.worker (Publish folder) now.entries c.enter.new.self.entries c.in-Made.ready c.in-Made.reply c.in-Err.reply c.in-Made.files
    now.log_faults c.enter.new.self.log_faults here made c.in-Err.ensures.unkept c.in-Err.ensures.err
