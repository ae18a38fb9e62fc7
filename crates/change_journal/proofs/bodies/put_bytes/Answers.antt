-- A file's bytes, written behind what waited.
use Rattle.std.proofs.Common.{[], ◌+◌, List, ℕ, length, refl, sym, subst}
use Rattle.change_journal.specs.Puts.{Puts, GivesUp}
use Rattle.change_journal.proofs.Runs.{on_err}
use Rattle.change_journal.proofs.Putting.{written, failed, joined, given_up}
use Rattle.change_journal.proofs.bodies.put_bytes.Goals as goal

pub returns-in_err-write-clause-err : goal.returns-in_err-write-clause-err
returns-in_err-write-clause-err g c =
    let old = g.K.Disk.moments c.args.disk.now in
    let mid = g.K.Disk.moments c.flush.new.disk in
    let new = g.K.Disk.moments c.write.new.self in
    let place = c.args.place in
    let waiting = c.args.waiting.now.items in
    let start = c.in_ok-start.start in
    on_err {P = GivesUp place waiting old new} _
    (given_up place waiting start [] [] old mid new c.in_ok-start.ensures.ok (failed start [] c.args.bytes.now mid new c.in_err-write.ensures.err))

pub returns-clause-ok : goal.returns-clause-ok
returns-clause-ok g c =
    let old = g.K.Disk.moments c.args.disk.now in
    let mid = g.K.Disk.moments c.flush.new.disk in
    let new = g.K.Disk.moments c.write.new.self in
    let place = c.args.place in
    let waiting = c.args.waiting.now.items in
    let start = c.in_ok-start.start in
    let bytes = c.args.bytes.now in
    let first : Puts place waiting start [] [] old mid = c.in_ok-start.ensures.ok in
    let then = written start [] bytes bytes mid new refl first.within c.in_ok-write.ensures.ok in
    subst (λ (l : List ℕ). Puts place waiting (start + length bytes) l bytes old new) (sym c.in_ok-start.ensures.empty)
    (joined place waiting start [] [] (start + length bytes) [] bytes old mid new first then)
