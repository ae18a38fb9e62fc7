use Rattle.std.proofs.Common.{[], ◌∷◌, ℕ, List, Bool, true, false}
use Rattle.std.proofs.lemmas.Result.{on_err_weaker, on_ok_weaker}
use Rattle.venue_ports.specs.Moments.{Moment, Now, HasWritten, MayHaveWritten, HasSynced, HasStayed}
use Rattle.venue_hall.specs.Records.{Logged}
use Rattle.change_journal.specs.Runs.{Run}
use Rattle.change_journal.specs.States.{IsReady, IsShut, IsAsBefore}
use Rattle.change_journal.proofs.Runs.{begins, goes_on, fails_on, weaker, on_err}
use Rattle.change_journal.proofs.Closing.{Closing, Closed, closes, closing_torn, closing_written, closed_synced, closing_stayed}
use Rattle.change_journal.proofs.gates.shut_gate.Goals as goal

-- from a gate that isn't known to be shut to this state
abbrev Shuts : ℕ → Bool → List Moment → List Moment → Type 0
Shuts gate shut old new = (records : List Logged) → Now (IsReady records gate false) old → Run (IsAsBefore records old) (IsReady records gate shut) old new

pub returns-in_err-write-clause-err : goal.returns-in_err-write-clause-err
returns-in_err-write-clause-err g c =
    let gate = c.args.gate in
    let old = g.K.Disk.moments c.args.disk.now in
    on_err {P = Shuts gate false old (g.K.Disk.moments c.write.new.self)} _ (λ records ready.
    let P = IsAsBefore records old in
    let S = Closing records gate old in
    weaker P P S (IsReady records gate false) _ _ (λ x p. p) (λ m s. s.state)
    (fails_on P S S (MayHaveWritten gate (0 ∷ [])) (begins old (closes records gate old ready)) c.in_err-write.ensures.err
    (λ m next s may. let t = closing_torn records gate old m next s may in (t, t.left))))

pub returns-clause-ok : goal.returns-clause-ok
returns-clause-ok g c =
    let gate = c.args.gate in
    let old = g.K.Disk.moments c.args.disk.now in
    on_ok_weaker {Q = Shuts gate true old (g.K.Disk.moments c.sync.new.self)} _ (λ goes records ready.
    let P = IsAsBefore records old in
    let S = Closing records gate old in
    let T = Closed records gate old in
    let first = goes_on P S T (HasWritten gate (0 ∷ [])) (begins old (closes records gate old ready)) c.in_ok-write.ensures.ok
    (λ m next s has. let t = closing_written records gate old m next s has in (t, t.closing.left)) in
    goes_on P T (IsShut records gate) HasSynced first goes (λ m next s synced. closed_synced records gate old m next s synced)) c.sync.ensures.ok

pub returns-clause-err : goal.returns-clause-err
returns-clause-err g c =
    let gate = c.args.gate in
    let old = g.K.Disk.moments c.args.disk.now in
    on_err_weaker {Q = Shuts gate false old (g.K.Disk.moments c.sync.new.self)} _ (λ goes records ready.
    let P = IsAsBefore records old in
    let S = Closing records gate old in
    let T = Closed records gate old in
    let first = goes_on P S T (HasWritten gate (0 ∷ [])) (begins old (closes records gate old ready)) c.in_ok-write.ensures.ok
    (λ m next s has. let t = closing_written records gate old m next s has in (t, t.closing.left)) in
    weaker P P S (IsReady records gate false) _ _ (λ x p. p) (λ m s. s.state)
    (fails_on P T S HasStayed first goes (λ m next s stayed. let t = closing_stayed records gate old m next s.closing stayed in (t, t.left)))) c.sync.ensures.err
