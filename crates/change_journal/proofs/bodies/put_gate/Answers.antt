-- The gate 0 behind a body, and the sync.
use Rattle.std.proofs.Common.{◌∷◌, []}
use Rattle.change_journal.specs.Puts.{GivesUp}
use Rattle.change_journal.proofs.Runs.{on_err}
use Rattle.change_journal.proofs.Putting.{holds_back, joined, given_up, stayed, synced}
use Rattle.change_journal.proofs.bodies.put_gate.Goals as goal

pub returns-in_err-end-clause-err : goal.returns-in_err-end-clause-err
returns-in_err-end-clause-err g c =
    let old = g.K.Disk.moments c.args.disk.now in
    let new = g.K.Disk.moments c.flush.new.disk in
    let place = c.args.place in
    let waiting = c.args.waiting.now.items in
    let later = c.push.new.self.items in
    let first = holds_back place waiting later (0 ∷ []) old c.push.ensures.items c.requires.within in
    on_err {P = GivesUp place waiting old new} _ (given_up place waiting place later (0 ∷ []) old old new first c.in_err-end.ensures.err)

pub returns-in_err-sync-clause-err : goal.returns-in_err-sync-clause-err
returns-in_err-sync-clause-err g c =
    let old = g.K.Disk.moments c.args.disk.now in
    let mid = g.K.Disk.moments c.flush.new.disk in
    let new = g.K.Disk.moments c.sync.new.self in
    let place = c.args.place in
    let waiting = c.args.waiting.now.items in
    let later = c.push.new.self.items in
    let end = c.in_ok-end.end in
    let first = holds_back place waiting later (0 ∷ []) old c.push.ensures.items c.requires.within in
    let both = joined place waiting place later (0 ∷ []) end [] [] old old mid first c.in_ok-end.ensures.ok in
    on_err {P = GivesUp place waiting old new} _ (given_up place waiting end [] (0 ∷ []) old mid new both (stayed end [] mid new c.in_err-sync.ensures.err))

pub returns-clause-ok : goal.returns-clause-ok
returns-clause-ok g c =
    let old = g.K.Disk.moments c.args.disk.now in
    let mid = g.K.Disk.moments c.flush.new.disk in
    let new = g.K.Disk.moments c.sync.new.self in
    let place = c.args.place in
    let waiting = c.args.waiting.now.items in
    let later = c.push.new.self.items in
    let end = c.in_ok-end.end in
    let first = holds_back place waiting later (0 ∷ []) old c.push.ensures.items c.requires.within in
    let both = joined place waiting place later (0 ∷ []) end [] [] old old mid first c.in_ok-end.ensures.ok in
    synced place waiting end old mid new both c.in_ok-sync.ensures.ok
