-- The body of a publication.
use Rattle.std.proofs.Common.{◌≡◌, ◌≤◌, ◌∷◌, ◌++◌, ◌+◌, ◌^◌, [], List, ℕ, length, sym, ◌∙◌, ap, arith}
use Rattle.std.specs.List.{flat_map}
use Rattle.std.proofs.lemmas.Result.{IfOk-weaker, on_ok_weaker, on_err_weaker}
use Rattle.change_journal.specs.Puts.{StagesText, KeepsClosed}
use Rattle.change_journal.specs.Texts.{slot_text}
use Rattle.change_journal.proofs.Runs.{on_err}
use Rattle.change_journal.proofs.Putting.{all_staged, given_up, none_opened, slots_short}
use Rattle.change_journal.proofs.bodies.put_published.Goals as goal

pub put_slots-requires-clause-room : goal.put_slots-requires-clause-room
put_slots-requires-clause-room g c =
    let short = slots_short c.args.slots.now c.requires.slots.within in
    let none = ap length c.new-waiting.ensures in
    omega (arith, short, none, c.push.ensures.len, c.push-2.ensures.len, c.requires.slots.seventeen, c.requires.room)

pub returns-in_err-place-clause-err : goal.returns-in_err-place-clause-err
returns-in_err-place-clause-err g c =
    let old = g.K.Disk.moments c.args.disk.now in
    let new = g.K.Disk.moments c.put_slots.new.disk in
    let gate = c.args.gate in
    on_err {P = KeepsClosed gate old new} _ (none_opened gate c.push-2.new.self.items old new c.in_err-place.ensures.err)

pub put_gate-requires-clause-room : goal.put_gate-requires-clause-room
put_gate-requires-clause-room g c =
    let short = slots_short c.args.slots.now c.requires.slots.within in
    let none = ap length c.new-waiting.ensures in
    let counts = c.in_ok-place.ensures.ok.counts in
    omega (arith, short, none, c.push.ensures.len, c.push-2.ensures.len, counts, c.requires.slots.seventeen, c.requires.room)

pub returns-clause-ok : goal.returns-clause-ok
returns-clause-ok g c =
    let old = g.K.Disk.moments c.args.disk.now in
    let mid = g.K.Disk.moments c.put_slots.new.disk in
    let new = g.K.Disk.moments c.put_gate.new.disk in
    let gate = c.args.gate in
    let worker = c.args.worker in
    let waiting = c.push-2.new.self.items in
    let added = flat_map slot_text c.args.slots.now in
    let one : c.push.new.self.items ≡ 1 ∷ [] = c.push.ensures.items ∙ ap (λ (l : List ℕ). l ++ 1 ∷ []) c.new-waiting.ensures in
    let two : waiting ≡ 1 ∷ (worker ∷ []) = c.push-2.ensures.items ∙ ap (λ (l : List ℕ). l ++ worker ∷ []) one in
    let text = 1 ∷ (worker ∷ added) in
    let is : text ≡ waiting ++ added = ap (λ (l : List ℕ). l ++ added) (sym two) in
    let later = c.put_slots.new.waiting.items in
    on_ok_weaker {Q = StagesText gate text old new} _
    (λ stages. all_staged gate waiting c.in_ok-place.place later added text old mid new is c.in_ok-place.ensures.ok stages) c.put_gate.ensures.ok

pub returns-clause-short : goal.returns-clause-short
returns-clause-short g c =
    let short = slots_short c.args.slots.now c.requires.slots.within in
    let none = ap length c.new-waiting.ensures in
    let counts = c.in_ok-place.ensures.ok.counts in
    let bound : c.in_ok-place.place + length c.put_slots.new.waiting.items ≤ c.args.gate + 2 ^ 30 =
    omega (arith, short, none, c.push.ensures.len, c.push-2.ensures.len, counts, c.requires.slots.seventeen) in
    IfOk-weaker _ (λ next. next ≡ c.in_ok-place.place + length c.put_slots.new.waiting.items) (λ next. next ≤ c.args.gate + 2 ^ 30)
    (λ next is. omega (arith, is, bound)) c.put_gate.ensures.next

pub returns-clause-err : goal.returns-clause-err
returns-clause-err g c =
    let old = g.K.Disk.moments c.args.disk.now in
    let mid = g.K.Disk.moments c.put_slots.new.disk in
    let new = g.K.Disk.moments c.put_gate.new.disk in
    let gate = c.args.gate in
    let waiting = c.push-2.new.self.items in
    let added = flat_map slot_text c.args.slots.now in
    let place = c.in_ok-place.place in
    let later = c.put_slots.new.waiting.items in
    on_err_weaker {Q = KeepsClosed gate old new} _
    (λ gives. none_opened gate waiting old new (given_up (gate + 1) waiting place later added old mid new c.in_ok-place.ensures.ok gives)) c.put_gate.ensures.err
