-- What waits, written.
use Rattle.std.proofs.Common.{◌≡◌, [], ◌+◌, length, sym, ◌∙◌, ap, subst}
use Rattle.std.proofs.lemmas.List.{append-nil}
use Rattle.change_journal.specs.Puts.{Puts, GivesUp}
use Rattle.change_journal.proofs.Runs.{on_err}
use Rattle.change_journal.proofs.Putting.{written, failed}
use Rattle.change_journal.proofs.bodies.flush.Goals as goal

pub returns-in_err-write-clause-err : goal.returns-in_err-write-clause-err
returns-in_err-write-clause-err g c =
    let old = g.K.Disk.moments c.args.disk.now in
    let new = g.K.Disk.moments c.write.new.self in
    let place = c.args.place in
    let waiting = c.args.waiting.now.items in
    on_err {P = GivesUp place waiting old new} _ (failed place waiting c.as_slice.result.now old new c.in_err-write.ensures.err)

pub returns-clause-ok : goal.returns-clause-ok
returns-clause-ok g c =
    let old = g.K.Disk.moments c.args.disk.now in
    let new = g.K.Disk.moments c.write.new.self in
    let place = c.args.place in
    let waiting = c.args.waiting.now.items in
    let piece = c.as_slice.result.now in
    let long : length piece ≡ c.len.result = ap length c.as_slice.ensures.value ∙ sym c.len.ensures.value in
    subst (λ n. Puts place waiting (place + n) [] [] old new) long
    (written place waiting [] piece old new (c.as_slice.ensures.value ∙ sym (append-nil waiting)) c.requires.within c.in_ok-write.ensures.ok)
