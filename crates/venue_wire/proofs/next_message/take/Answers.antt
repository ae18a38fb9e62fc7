use Rattle.std.proofs.Common.{ℕ}
use Rattle.venue_wire.specs.Outcomes.{IfMore}
use Rattle.venue_wire.specs.declared.messages.Taken.{Taken}
use Rattle.wire_frames.specs.Outcomes.{WaitsFor}
use Rattle.venue_wire.proofs.next_message.take.Goals as goal

never : (P : ℕ → Type 0) (r : Taken) → IfMore r (λ _. ⊥) → IfMore r P
never P (Taken.More least) x = absurd x
never P (Taken.Fault refusal) x = tt
never P (Taken.Message message length close) x = tt

pub returns-in-Framed-clause-waits : goal.returns-in-Framed-clause-waits
returns-in-Framed-clause-waits c = never (WaitsFor c.args.bytes.now) c.take_framed.result c.take_framed.ensures.there
