use Rattle.std.proofs.Common.{◌≡◌, sym, ◌∙◌, subst}
use Rattle.std.specs.Arc.{arc_value}
use Rattle.venue_ports.specs.Moments.{Now}
use Rattle.change_journal.specs.Readers.{HasOnlyRead}
use Rattle.journal_restore.specs.Going.{HasTold, IsAt, IsReadTo}
use Rattle.journal_restore.proofs.OnlyRead.{on_any_err, read_then, told_then}
use Rattle.journal_restore.proofs.going_on.go_on.Goals as goal

pub returns-in_err-found-clause-only : goal.returns-in_err-found-clause-only
returns-in_err-found-clause-only g c =
    let old = g.K.Disk.moments c.args.reader.now.disk in
    let mid = g.K.Disk.moments c.loop-so_far.reader.disk in
    let new = g.K.Disk.moments c.next_record.new.reader.disk in
    let i = c.loop-so_far.invariant in
    on_any_err {P = HasOnlyRead old new} c.from_residual.result (read_then old mid new i.1.only i.1.settled c.next_record.ensures.only)

pub returns-in_err-so_far-clause-only : goal.returns-in_err-so_far-clause-only
returns-in_err-so_far-clause-only g c =
    let old = g.K.Disk.moments c.args.reader.now.disk in
    let first = g.K.Disk.moments c.loop-so_far.reader.disk in
    let mid = g.K.Disk.moments c.next_record.new.reader.disk in
    let new = g.K.Disk.moments c.behind.new.reader.disk in
    let i = c.loop-so_far.invariant in
    let told = told_then old first mid i.1 c.in_ok-found.ensures.told in
    on_any_err {P = HasOnlyRead old new} c.from_residual-in_err-so_far.result (read_then old mid new told.only told.settled c.in_err-so_far.ensures.only)

pub loop-so_far-preserved : goal.loop-so_far-preserved
loop-so_far-preserved g c =
    let settings = arc_value c.args.settings.now in
    let old = g.K.Disk.moments c.args.reader.now.disk in
    let first = g.K.Disk.moments c.loop-so_far.reader.disk in
    let mid = g.K.Disk.moments c.next_record.new.reader.disk in
    let i = c.loop-so_far.invariant in
    let found = c.in_ok-found.ensures in
    let longer = c.in_ok-so_far.so_far in
    let is = c.in_ok-so_far.ensures in
    subst (λ reader. IsAt settings reader.length longer × HasTold old (g.K.Disk.moments reader.disk)
    × (g.K.Disk.faults reader.disk ≡ g.K.Disk.faults c.args.reader.now.disk) × (reader.length ≡ c.args.reader.now.length)
    × Now (λ m. IsReadTo settings longer m.reads) (g.K.Disk.moments reader.disk)) (sym is.same) (
      is.at,
      told_then old first mid i.1 found.told,
      found.kept ∙ i.2,
      found.same ∙ i.3,
      is.read,
    )

pub returns-clause-told : goal.returns-clause-told
returns-clause-told g c =
    let old = g.K.Disk.moments c.args.reader.now.disk in
    let mid = g.K.Disk.moments c.loop-so_far.reader.disk in
    let new = g.K.Disk.moments c.next_record.new.reader.disk in
    told_then old mid new c.loop-so_far.invariant.1 c.in_ok-found.ensures.told
