-- What is to be written for one message. No definition of the public contract.
use Rattle.std.specs.Prelude.{◌≡◌, ℕ, Bool, List}
use Rattle.venue_hall.specs.Facts.{Facts}
use Rattle.venue_wire.specs.declared.messages.Message.{Message}
use Rattle.wire_replies.specs.declared.response.Response.{Response}
use Rattle.wire_replies.specs.Replies.{reply_text}
use Rattle.venue_session.specs.declared.texts.Text.{Text}
use Rattle.venue_session.specs.declared.texts.Text.TheVariants.{Made, Fixed}
use Rattle.venue_session.specs.declared.steps.Step.{Step}
use Rattle.venue_session.specs.declared.steps.Step.TheVariants.{Replied, Untold}
use Rattle.venue_session.specs.Steps.{told_by, IsStep}

-- the bytes of a text
abbrev pub bytes_of : Text → List ℕ
bytes_of (Made bytes) = bytes
bytes_of (Fixed bytes) = bytes.now

-- the hall acted on the message: the text is that of its answer; or there is none, since memory ran out behind an accepted change
abbrev pub Stepped : Facts → Message → Bool → Step → Facts → Type 0
Stepped old message close (Replied text) new = (answer : Response) × IsStep old message answer new × (bytes_of text ≡ reply_text answer close)
Stepped old message close Untold new = (answer : Response) × IsStep old message answer new × (told_by answer ≡ 1)
