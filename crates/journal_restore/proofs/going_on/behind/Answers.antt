use Rattle.std.proofs.Common.{◌+◌, Option, Some, subst}
use Rattle.std.specs.Arc.{arc_value}
use Rattle.board_copies.specs.declared.resuming.Resuming.{Resuming}
use Rattle.change_journal.specs.Readers.{kept_of}
use Rattle.journal_restore.specs.Judging.{IsJudged, history_entries}
use Rattle.journal_restore.proofs.Records.{at_longer, cause_behind, read_longer}
use Rattle.journal_restore.proofs.going_on.behind.Goals as goal

pub returns-in-Ok-None-clause-cause : goal.returns-in-Ok-None-clause-cause
returns-in-Ok-None-clause-cause g c =
    let settings = arc_value c.args.settings.now in
    let so_far = c.args.so_far in
    let kept = kept_of c.args.found in
    let P : Option Resuming → Type 0 = λ h. IsJudged settings kept (history_entries so_far.history) h in
    let unfit = subst P c.in-Ok-None.field-0-is c.in-Ok-None.ensures in
    cause_behind c.damage_law.ensures.longer settings c.args.reader.now.length so_far kept c.args.found.next c.fault_behind.result (g.K.Disk.moments c.args.reader.now.disk)
    c.requires.at unfit c.requires.read c.requires.stands c.fault_behind.ensures.cause

pub returns-in-Ok-Some-clause-at : goal.returns-in-Ok-Some-clause-at
returns-in-Ok-Some-clause-at g c =
    let settings = arc_value c.args.settings.now in
    let so_far = c.args.so_far in
    let kept = kept_of c.args.found in
    let P : Option Resuming → Type 0 = λ h. IsJudged settings kept (history_entries so_far.history) h in
    let judged = subst P c.in-Ok-Some.field-0-is c.in-Ok-Some.ensures in
    at_longer settings c.args.reader.now.length so_far kept c.args.found.next c.in-Ok-Some.resuming c.requires.at c.requires.next judged

pub returns-in-Ok-Some-clause-read : goal.returns-in-Ok-Some-clause-read
returns-in-Ok-Some-clause-read g c =
    let settings = arc_value c.args.settings.now in
    let so_far = c.args.so_far in
    let kept = kept_of c.args.found in
    let P : Option Resuming → Type 0 = λ h. IsJudged settings kept (history_entries so_far.history) h in
    let judged = subst P c.in-Ok-Some.field-0-is c.in-Ok-Some.ensures in
    read_longer c.damage_law.ensures.longer settings so_far (record { place = c.args.found.next; count = so_far.count + 1; history = Some c.in-Ok-Some.resuming }) kept
    (g.K.Disk.moments c.args.reader.now.disk) judged.0 c.requires.read c.requires.stands
