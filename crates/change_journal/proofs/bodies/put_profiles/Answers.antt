-- The body of a closure or of a reopening, which waits whole.
use Rattle.std.proofs.Common.{◌≡◌, ◌∷◌, ◌++◌, ◌+◌, [], List, ℕ, sym, ◌∙◌, ap}
use Rattle.std.specs.Int.{bytes_high_first}
use Rattle.std.proofs.lemmas.List.{append-nil}
use Rattle.std.proofs.lemmas.Result.{on_ok_weaker, on_err_weaker}
use Rattle.change_journal.specs.Puts.{StagesText, KeepsClosed}
use Rattle.change_journal.proofs.Putting.{both_parts, holds_back, all_staged, none_opened}
use Rattle.change_journal.proofs.bodies.put_profiles.Goals as goal

pub returns-clause-ok : goal.returns-clause-ok
returns-clause-ok g c =
    let old = g.K.Disk.moments c.args.disk.now in
    let new = g.K.Disk.moments c.put_gate.new.disk in
    let gate = c.args.gate in
    let kind = c.args.kind in
    let worker = c.args.worker in
    let feature = bytes_high_first 16 c.args.feature.0 in
    let profiles = bytes_high_first 2 c.args.profiles in
    let waiting = c.push_all-2.new.waiting.items in
    let one : c.push.new.self.items ≡ kind ∷ [] = c.push.ensures.items ∙ ap (λ (l : List ℕ). l ++ kind ∷ []) c.new-waiting.ensures in
    let two : c.push-2.new.self.items ≡ kind ∷ (worker ∷ []) = c.push-2.ensures.items ∙ ap (λ (l : List ℕ). l ++ worker ∷ []) one in
    let three : c.push_all.new.waiting.items ≡ kind ∷ (worker ∷ feature) = c.push_all.ensures ∙ both_parts two c.to_be_bytes.ensures in
    let four : waiting ≡ kind ∷ (worker ∷ (feature ++ profiles)) = c.push_all-2.ensures ∙ both_parts three c.to_be_bytes-2.ensures in
    let first = holds_back (gate + 1) waiting waiting [] old (sym (append-nil waiting)) c.requires.within in
    let text = kind ∷ (worker ∷ (feature ++ profiles)) in
    let is : text ≡ waiting ++ [] = sym four ∙ sym (append-nil waiting) in
    on_ok_weaker {Q = StagesText gate text old new} _ (λ stages. all_staged gate waiting (gate + 1) waiting [] text old old new is first stages) c.put_gate.ensures.ok

pub returns-clause-err : goal.returns-clause-err
returns-clause-err g c =
    let old = g.K.Disk.moments c.args.disk.now in
    let new = g.K.Disk.moments c.put_gate.new.disk in
    let gate = c.args.gate in
    let waiting = c.push_all-2.new.waiting.items in
    on_err_weaker {Q = KeepsClosed gate old new} _ (λ gives. none_opened gate waiting old new gives) c.put_gate.ensures.err
