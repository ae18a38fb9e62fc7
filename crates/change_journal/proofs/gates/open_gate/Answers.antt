use Rattle.std.proofs.Common.{inr, [], ◌∷◌, ◌++◌, ◌+◌, ℕ, List, length, true, false}
use Rattle.std.proofs.lemmas.Result.{on_err_weaker, on_ok_weaker}
use Rattle.venue_ports.specs.Moments.{Moment, Now, HasWritten, MayHaveWritten, HasSynced, HasStayed}
use Rattle.venue_hall.specs.Records.{Logged}
use Rattle.change_journal.specs.Runs.{Run}
use Rattle.change_journal.specs.States.{IsReady, IsStaged, IsEither}
use Rattle.change_journal.specs.Texts.{IsRecord, record_body}
use Rattle.change_journal.proofs.Runs.{begins, goes_on, fails_on, weaker, on_err}
use Rattle.change_journal.proofs.Opening.{Opening, Opened, open_failed, open_written, opened_synced, opening_stayed}
use Rattle.change_journal.proofs.gates.open_gate.Goals as goal

-- from a record that stands behind a closed gate to this state
abbrev Opens : ℕ → (List Logged → Logged → Moment → Type 0) → List Moment → List Moment → Type 0
Opens gate T old new = (records : List Logged) (entry : Logged) → IsRecord entry → Now (IsStaged records gate entry) old
    → Run (IsEither records entry) (T records entry) old new

-- the record counts, or may count
abbrev Counts : ℕ → List Logged → Logged → Moment → Type 0
Counts gate records entry = IsReady (records ++ entry ∷ []) (gate + 1 + length (record_body entry)) true

abbrev MayCount : ℕ → List Logged → Logged → Moment → Type 0
MayCount gate records entry = IsReady records gate false

pub returns-in_err-write-clause-err : goal.returns-in_err-write-clause-err
returns-in_err-write-clause-err g c =
    let gate = c.args.gate in
    let old = g.K.Disk.moments c.args.disk.now in
    on_err {P = Opens gate (MayCount gate) old (g.K.Disk.moments c.write.new.self)} _ (λ records entry is ready.
    let P = IsEither records entry in
    let S = IsStaged records gate entry in
    let O = Opening records gate entry is in
    weaker P P O (IsReady records gate false) _ _ (λ x p. p) (λ m o. inr o.unsure)
    (fails_on P S O (MayHaveWritten gate (1 ∷ [])) (begins {P = P} {S = S} old ready) c.in_err-write.ensures.err
    (λ m next s may. let t = open_failed records gate entry is m next s may in (t, t.left))))

pub returns-clause-ok : goal.returns-clause-ok
returns-clause-ok g c =
    let gate = c.args.gate in
    let old = g.K.Disk.moments c.args.disk.now in
    on_ok_weaker {Q = Opens gate (Counts gate) old (g.K.Disk.moments c.sync.new.self)} _ (λ goes records entry is ready.
    let P = IsEither records entry in
    let S = IsStaged records gate entry in
    let T = Opened records gate entry is in
    let one = goes_on P S T (HasWritten gate (1 ∷ [])) (begins {P = P} {S = S} old ready) c.in_ok-write.ensures.ok
    (λ m next s has. let t = open_written records gate entry is m next s has in (t, t.opening.left)) in
    goes_on P T (Counts gate records entry) HasSynced one goes (λ m next o synced. opened_synced records gate entry is m next o synced)) c.sync.ensures.ok

pub returns-clause-err : goal.returns-clause-err
returns-clause-err g c =
    let gate = c.args.gate in
    let old = g.K.Disk.moments c.args.disk.now in
    on_err_weaker {Q = Opens gate (MayCount gate) old (g.K.Disk.moments c.sync.new.self)} _ (λ goes records entry is ready.
    let P = IsEither records entry in
    let S = IsStaged records gate entry in
    let O = Opening records gate entry is in
    let T = Opened records gate entry is in
    let one = goes_on P S T (HasWritten gate (1 ∷ [])) (begins {P = P} {S = S} old ready) c.in_ok-write.ensures.ok
    (λ m next s has. let t = open_written records gate entry is m next s has in (t, t.opening.left)) in
    weaker P P O (IsReady records gate false) _ _ (λ x p. p) (λ m o. inr o.unsure)
    (fails_on P T O HasStayed one goes (λ m next o stayed. let t = opening_stayed records gate entry is m next o stayed in (t, t.left)))) c.sync.ensures.err
