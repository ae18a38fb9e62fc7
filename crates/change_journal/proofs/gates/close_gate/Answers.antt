use Rattle.std.proofs.Common.{ℕ, List, Bool, true, sym, subst}
use Rattle.std.proofs.lemmas.Result.{on_err_weaker, on_ok_weaker}
use Rattle.venue_ports.specs.Moments.{Moment, Now}
use Rattle.venue_hall.specs.Records.{Logged}
use Rattle.change_journal.specs.Runs.{Run}
use Rattle.change_journal.specs.States.{IsReady, IsAsBefore}
use Rattle.change_journal.proofs.gates.close_gate.Goals as goal

-- from a gate in one state to the other
abbrev Closes : ℕ → Bool → Bool → List Moment → List Moment → Type 0
Closes gate before after old new = (records : List Logged) → Now (IsReady records gate before) old → Run (IsAsBefore records old) (IsReady records gate after) old new

pub returns-else-is_shut-clause-ok : goal.returns-else-is_shut-clause-ok
returns-else-is_shut-clause-ok g c =
    let gate = c.args.gate in
    let old = g.K.Disk.moments c.args.disk.now in
    on_ok_weaker {Q = Closes gate c.args.is_shut true old (g.K.Disk.moments c.shut_gate.new.disk)} _ (λ closes records ready.
    closes records (subst (λ b. Now (IsReady records gate b) old) c.if-is_shut.false ready)) c.shut_gate.ensures.ok

pub returns-else-is_shut-clause-err : goal.returns-else-is_shut-clause-err
returns-else-is_shut-clause-err g c =
    let gate = c.args.gate in
    let old = g.K.Disk.moments c.args.disk.now in
    on_err_weaker {Q = Closes gate c.args.is_shut c.args.is_shut old (g.K.Disk.moments c.shut_gate.new.disk)} _ (λ stays records ready.
    subst (λ b. Run (IsAsBefore records old) (IsReady records gate b) old (g.K.Disk.moments c.shut_gate.new.disk)) (sym c.if-is_shut.false)
    (stays records (subst (λ b. Now (IsReady records gate b) old) c.if-is_shut.false ready))) c.shut_gate.ensures.err
