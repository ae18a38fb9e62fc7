use Rattle.std.proofs.Common.{◌<◌, ℕ, sym, ◌∙◌, subst}
use Rattle.journal_restore.specs.Going.{IsLonger, IsRestFault}
use Rattle.journal_restore.proofs.OnlyRead.{backward, forward, read_then, told_then}
use Rattle.journal_restore.proofs.Records.{longer_step, rest_step}
use Rattle.journal_restore.proofs.rest.fault_behind.Goals as goal

pub records-preserved : goal.records-preserved
records-preserved g c =
    let old = g.K.Disk.moments c.args.reader.now.disk in
    let mid = g.K.Disk.moments c.records.reader.disk in
    let new = g.K.Disk.moments c.skipped.new.reader.disk in
    let i = c.records.invariant in
    let gate = c.records.gate in
    let next = c.in-Ok.next in
    let is = c.in-Ok.ensures in (
      subst (λ (n : ℕ). next < n) (sym is.same) is.next.within,
      told_then old mid new i.1 is.told,
      is.kept ∙ i.2,
      is.same ∙ i.3,
      λ begun was. backward (λ bytes. IsLonger next begun bytes) old mid i.1.only i.1.told
          (longer_step gate next begun mid is.longer (forward (λ bytes. IsLonger gate begun bytes) old mid i.1.only (i.4 begun was))),
    )

pub returns-in-Err-clause-cause : goal.returns-in-Err-clause-cause
returns-in-Err-clause-cause g c =
    let old = g.K.Disk.moments c.args.reader.now.disk in
    let mid = g.K.Disk.moments c.records.reader.disk in
    let i = c.records.invariant in
    let gate = c.records.gate in
    let number = c.args.number in
    let why = c.in-Err.fault in
    λ begun was. backward (λ bytes. IsRestFault begun number why bytes) old mid i.1.only i.1.told
    (rest_step gate number begun why mid c.in-Err.ensures.cause (forward (λ bytes. IsLonger gate begun bytes) old mid i.1.only (i.4 begun was)))

pub returns-in-Err-clause-only : goal.returns-in-Err-clause-only
returns-in-Err-clause-only g c =
    let old = g.K.Disk.moments c.args.reader.now.disk in
    let mid = g.K.Disk.moments c.records.reader.disk in
    let new = g.K.Disk.moments c.skipped.new.reader.disk in
    let i = c.records.invariant in
    read_then old mid new i.1.only i.1.settled c.in-Err.ensures.only
