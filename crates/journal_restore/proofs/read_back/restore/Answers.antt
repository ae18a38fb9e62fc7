use Rattle.std.proofs.Common.{◌≡◌, ℕ, Option, length, sym, ◌∙◌, ap, subst}
use Rattle.std.specs.Arc.{arc_value}
use Rattle.board_copies.specs.declared.resuming.Resumed.{Resumed}
use Rattle.change_journal.specs.Readers.{HasOnlyRead}
use Rattle.journal_restore.specs.Going.{HasTold}
use Rattle.journal_restore.specs.Ending.{end_count}
use Rattle.journal_restore.specs.Restores.{IsRestored, resumed_entries}
use Rattle.journal_restore.proofs.Ends.{restores}
use Rattle.journal_restore.proofs.OnlyRead.{read_then}
use Rattle.journal_restore.proofs.read_back.restore.Goals as goal

pub returns-in-Ok-end_of-clause-ok : goal.returns-in-Ok-end_of-clause-ok
returns-in-Ok-end_of-clause-ok g c =
    let settings = arc_value c.args.settings.now in
    let old = g.K.Disk.moments c.args.disk in
    let mid = g.K.Disk.moments c.in-Ok.reader.disk in
    let new = g.K.Disk.moments c.end_of.new.reader.disk in
    let end = c.in-Ok-end_of.end in
    let with = c.with_journal in
    let opened : HasTold old mid = record { only = c.in-Ok.ensures.ok; told = c.in-Ok.ensures.told; settled = c.in-Ok.ensures.settled } in
    let same = with.ensures.resumed in
    let count : with.result.journal.count ≡ end_count end = with.ensures.count ∙ ap (λ (o : Option Resumed). length (resumed_entries o)) same in
    let first = restores settings old mid new end opened c.in-Ok-end_of.ensures.told c.in-Ok-end_of.ensures.end in
    let second = subst (λ (o : Option Resumed). IsRestored settings old new (end_count end) o) (sym same) first in
    let third = subst (λ (n : ℕ). IsRestored settings old new n with.result.resumed) (sym count) second in
    subst (λ disk. IsRestored settings old (g.K.Disk.moments disk) with.result.journal.count with.result.resumed)
    (sym (with.ensures.disk ∙ c.into_disk.ensures)) third

pub returns-in-Err-end_of-clause-same : goal.returns-in-Err-end_of-clause-same
returns-in-Err-end_of-clause-same g c =
    let old = g.K.Disk.moments c.args.disk in
    let mid = g.K.Disk.moments c.in-Ok.reader.disk in
    let new = g.K.Disk.moments c.end_of.new.reader.disk in
    let is = c.in-Ok.ensures in
    subst (λ disk. HasOnlyRead old (g.K.Disk.moments disk)) (sym c.into_disk-disk.ensures) (read_then old mid new is.ok is.settled c.in-Err-end_of.ensures.only)
