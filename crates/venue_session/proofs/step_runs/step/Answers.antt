use Rattle.std.proofs.Common.{ℕ, List, length, ap, subst, arith, length-drop}
use Rattle.wire_frames.specs.Frames.{IsRefused}
use Rattle.venue_wire.specs.Messages.{At}
use Rattle.venue_wire.specs.declared.messages.Taken.TheVariants as taken_as
use Rattle.venue_session.proofs.step_runs.step.Goals as goal

pub returns-in-Fault-clause-stop : goal.returns-in-Fault-clause-stop
returns-in-Fault-clause-stop g c = λ first taken going.
    c.refuse.ensures c.args.front.now first _ taken c.args.input.now going
    (subst (λ (b : List ℕ). IsRefused b c.in-Fault.refusal) c.waiting.ensures c.in-Fault.ensures.at)

pub returns-in-Message-clause-stop : goal.returns-in-Message-clause-stop
returns-in-Message-clause-stop g c = λ first taken going.
    c.pass_message.ensures.stop c.args.front.now first taken going
    (subst (λ (b : List ℕ). At c.args.front.now b (taken_as.Message c.in-Message.message c.in-Message.length c.in-Message.close)) c.waiting.ensures
    c.in-Message.ensures.at)

pub returns-in-Message-clause-shorter : goal.returns-in-Message-clause-shorter
returns-in-Message-clause-shorter g c = λ none.
    let stands : At c.args.front.now c.args.input.now (taken_as.Message c.in-Message.message c.in-Message.length c.in-Message.close)
    = subst (λ (b : List ℕ). At c.args.front.now b (taken_as.Message c.in-Message.message c.in-Message.length c.in-Message.close)) c.waiting.ensures
    c.in-Message.ensures.at in
    let some = c.message_length_law.ensures.some c.args.front.now c.args.input.now c.in-Message.message c.in-Message.length c.in-Message.close stands in
    let within = c.message_length_law.ensures.within c.args.front.now c.args.input.now c.in-Message.message c.in-Message.length c.in-Message.close stands in
    let passed = c.pass_message.ensures.passed none in
    omega (arith, some, within, ap (λ (b : List ℕ). length b) passed, length-drop c.in-Message.length c.args.input.now)
