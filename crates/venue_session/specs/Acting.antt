-- Messages acted on one after the other, from the start of some bytes.
use Rattle.std.specs.Prelude.{◌≡◌, ◌⊎◌, ℕ, ◌+◌, Bool, true, false, List, [], ◌∷◌, ◌++◌, drop, All}
use Rattle.venue_hall.specs.Facts.{Facts}
use Rattle.venue_wire.specs.Messages.{At}
use Rattle.venue_wire.specs.declared.messages.Message.{Message}
use Rattle.venue_wire.specs.declared.messages.Taken.{Taken}
use Rattle.wire_replies.specs.Replies.{reply_text}
use Rattle.wire_replies.specs.declared.response.Response.{Response}
use Rattle.venue_session.specs.Steps.{told_by, IsStep}

-- a message with its length, whether it closes, and what it was answered
pub record Acted : Type 0 where
  pub message : Message
  pub length : ℕ
  pub close : Bool
  pub answer : Response

-- the bytes of its answer
abbrev pub text_of : Acted → List ℕ
text_of m = reply_text m.answer m.close

-- the message stands at the front of the bytes, and the hall acted on it
pub record IsActed (keys : List (List ℕ)) (old : Facts) (bytes : List ℕ) (m : Acted) (new : Facts) : Type 0 where
  pub stands : At keys bytes (Taken.Message m.message m.length m.close)
  pub step : IsStep old m.message m.answer new

-- none of them closes
abbrev pub AreOpen : List Acted → Type 0
AreOpen ms = All (λ m. m.close ≡ false) ms

-- the last of them closes
abbrev pub ClosesLast : List Acted → Type 0
ClosesLast ms = (front : List Acted) × (last : Acted) × (ms ≡ front ++ last ∷ []) × (last.close ≡ true)

-- how many accepted changes their answers tell
abbrev pub told_in : List Acted → ℕ
told_in [] = 0
told_in (m ∷ ms) = told_by m.answer + told_in ms

-- the messages were acted on in order, each at the front of what the one before it left, none behind one that closes; out is the
-- text of their answers, new what became of the hall, and rest the bytes behind them
abbrev pub Acts : List (List ℕ) → Facts → List ℕ → List Acted → List ℕ → Facts → List ℕ → Type 0
Acts keys old bytes [] out new rest = (new ≡ old) × (out ≡ []) × (rest ≡ bytes)
Acts keys old bytes (m ∷ ms) out new rest =
    (mid : Facts) × (more : List ℕ)
    × IsActed keys old bytes m mid
    × ((m.close ≡ false) ⊎ (ms ≡ []))
    × (out ≡ text_of m ++ more)
    × Acts keys mid (drop m.length bytes) ms more new rest
