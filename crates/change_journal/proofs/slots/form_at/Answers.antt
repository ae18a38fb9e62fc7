use Rattle.change_journal.proofs.Looking.{then_looks}
use Rattle.std.proofs.Common.{◌+◌, ◌∷◌, [], ℕ, Option, ◌∙◌, subst, arith}
use Rattle.std.specs.Int.{bytes_high_first}
use Rattle.change_journal.specs.Forms.{IsFileLength}
use Rattle.change_journal.specs.Looks.{Spans}
use Rattle.change_journal.proofs.Parsing.{joins, no_held_slot}
use Rattle.change_journal.proofs.slots.form_at.Goals as goal

pub returns-in_err-count-in-1-clause-looks : goal.returns-in_err-count-in-1-clause-looks
returns-in_err-count-in-1-clause-looks g c = then_looks c.in_ok-byte_at.ensures.looks c.in_err-count-in-1.ensures.looks

pub returns-in-Some-clause-looks : goal.returns-in-Some-clause-looks
returns-in-Some-clause-looks g c = then_looks c.in_ok-byte_at.ensures.looks c.in_ok-count-in-1.ensures.looks

pub returns-in-None-clause-looks : goal.returns-in-None-clause-looks
returns-in-None-clause-looks g c = then_looks c.in_ok-byte_at.ensures.looks c.in_ok-count-in-1.ensures.looks

pub returns-in-Some-clause-form : goal.returns-in-Some-clause-form
returns-in-Some-clause-form g c = λ bytes is.
    let place = c.args.place in
    let one = subst (λ b. Spans place (place + 1) (b ∷ []) bytes) c.in-1.is (c.in_ok-byte_at.ensures.byte bytes is) in
    let two = subst (λ (o : Option ℕ). IsFileLength (place + 1) o bytes) c.in-Some.is (c.in_ok-count-in-1.ensures.length bytes (c.in_ok-byte_at.ensures.told ∙ is)) in
    joins place (place + 1) (place + 1 + 8) (place + 9) (1 ∷ []) (bytes_high_first 8 c.in-Some.count) bytes one two (omega arith)

pub returns-in-None-clause-form : goal.returns-in-None-clause-form
returns-in-None-clause-form g c = λ bytes is.
    let place = c.args.place in
    let one = subst (λ b. Spans place (place + 1) (b ∷ []) bytes) c.in-1.is (c.in_ok-byte_at.ensures.byte bytes is) in
    let two = subst (λ (o : Option ℕ). IsFileLength (place + 1) o bytes) c.in-None.is (c.in_ok-count-in-1.ensures.length bytes (c.in_ok-byte_at.ensures.told ∙ is)) in
    no_held_slot place bytes one two
