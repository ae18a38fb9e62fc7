-- What an answer says beside the message with which the bytes begin.
use Rattle.std.specs.Prelude.{ℕ, ⊤}
use Rattle.venue_wire.specs.declared.messages.Taken.{Taken}

-- P of the least length, where more has to come
abbrev pub IfMore : Taken → (ℕ → Type 0) → Type 0
IfMore (Taken.More least) P = P least
IfMore (Taken.Fault refusal) P = ⊤
IfMore (Taken.Message message length close) P = ⊤
