use Rattle.std.proofs.Common.{◌≡◌, true, false, ℕ, List, length, take, ap, subst, sym, refl, ◌∙◌}
use Rattle.venue_ports.specs.DiskCalls.{DiskRecord, noted_moments, record_moments}
use Rattle.venue_ports.specs.Moments.{Moment, Goes, GoesOrEnds, HasWritten, MayHaveWritten}
use Rattle.venue_ports.specs.declared.disk_calls.DiskCall.{DiskCall}
use Rattle.venue_ports.specs.declared.disk_calls.DiskCallKind.TheVariants.{Write}
use Rattle.venue_ports.specs.declared.memory_disk.MemoryDisk.{MemoryDisk}
use Rattle.venue_ports.proofs.DiskSteps.{goes_written, goes_torn}
use Rattle.venue_ports.proofs.memory_disk.MemoryDiskDisk.write.Goals as goal
use Rattle.venue_ports.proofs.memory_disk.MemoryDiskDisk.write.Goals.{then-failed, else-failed}

pub returns-then-failed-2-clause-err : goal.returns-then-failed-2-clause-err
returns-then-failed-2-clause-err c =
    let at = c.args.at in
    let piece = c.args.piece.now in
    let call : DiskCall = record { kind = Write; at = at; count = length piece; put = c.if-failed.put; failed = c.fails-failed.result } in
    let same = ap (λ (d : MemoryDisk). d.calls) c.fails-failed.ensures.called in
    let is = c.write.ensures.moments ∙ ap (noted_moments call (take c.if-failed.put piece)) same in
    let counted = ap (λ (d : MemoryDisk). record_moments d.calls) c.failed.ensures.counted in
    goes_torn at c.if-failed.put piece c.fails-failed.result c.args.self.now.calls _ c.requires.within (counted ∙ is)

pub returns-clause-ok : goal.returns-clause-ok
returns-clause-ok c =
    let at = c.args.at in
    let piece = c.args.piece.now in
    let put : c.if-failed.put ≡ length piece = elim c.if-failed.branch [ then-failed w ↦ absurd cc | else-failed w ↦ w.put-is ] in
    let same = ap (λ (d : MemoryDisk). d.calls) c.fails-failed.ensures.called in
    let call : ℕ → DiskCall = λ n. record { kind = Write; at = at; count = length piece; put = n; failed = c.fails-failed.result } in
    let is = c.write.ensures.moments ∙ ap (noted_moments (call c.if-failed.put) (take c.if-failed.put piece)) same ∙ ap (λ (n : ℕ). noted_moments (call n) (take n piece) c.args.self.now.calls) put in
    goes_written at piece c.fails-failed.result c.args.self.now.calls _ (c.fails-failed.ensures.room c.if-failed-2.false) c.requires.within is
