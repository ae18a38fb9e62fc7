-- One message acted on: what it is answered, and what becomes of the hall.
use Rattle.std.specs.Prelude.{◌≡◌, ◌≢◌, ◌⊎◌, ℕ, ◌+◌, ◌<◌, ◌≤◌, List, length, Option, Some, None}
use mathlib.Core.List.{IsPrefix}
use Rattle.venue_types.specs.declared.reply.Reply.TheVariants as reply
use Rattle.venue_ports.specs.Causes.{Rose}
use Rattle.venue_hall.specs.Entry.{Entry}
use Rattle.venue_hall.specs.Histories.{IsLegal}
use Rattle.venue_hall.specs.Replies.{told, IsAhead, IsOutsideFault}
use Rattle.venue_hall.specs.Facts.{Facts, IsSameHall, IsAnswered, IsChanged}
use Rattle.venue_wire.specs.declared.messages.Message.{Message}
use Rattle.wire_replies.specs.declared.response.Response.{Response}
use Rattle.wire_replies.specs.declared.response.Response.TheVariants.{Of, No, Bare}

-- how many accepted changes the answer tells: one or none
abbrev pub told_by : Response → ℕ
told_by (Of r) = told r
told_by (No refusal) = 0
told_by (Bare refusal) = 0

-- the answer is right for the message: a question at the version that is seen now, a change at a history that begins with what
-- was seen before, a message refused by itself by that refusal, bare for a HEAD, and one that couldn't be read by want of memory;
-- then the hall stays as it was
abbrev pub IsRight : Facts → Message → Response → Facts → Type 0
IsRight old (Message.Ask query) (Of r) new = IsAnswered new.seen query r
IsRight old (Message.Do change) (Of r) new = IsChanged old new change r
IsRight old (Message.Refused refusal) (No given) new = (given ≡ refusal) × (new ≡ old)
IsRight old (Message.Bare refusal) (Bare given) new = (given ≡ refusal) × (new ≡ old)
IsRight old Message.Unread (Of r) new = (r ≡ reply.OutOfMemory) × (new ≡ old)
IsRight old _ _ new = ⊥

-- the answer tells a fault of the outside
abbrev pub TellsFault : Response → Type 0
TellsFault (Of r) = IsOutsideFault r
TellsFault (No refusal) = ⊥
TellsFault (Bare refusal) = ⊥

-- the answer comes of a look at what others changed: it says that a version isn't there yet, or is a change's, but for want of memory
abbrev pub ComesOfLook : Message → Response → Type 0
ComesOfLook (Message.Ask query) (Of r) = IsAhead r
ComesOfLook (Message.Do change) (Of r) = r ≢ reply.OutOfMemory
ComesOfLook _ _ = ⊥

-- the version that is asked for comes after so many entries
abbrev pub IsPast : ℕ → Option ℕ → Type 0
IsPast count None = ⊥
IsPast count (Some since) = count < since

-- nothing has to be looked for: the message asks for no version after the entries that were seen, or is no question and no change
abbrev pub NeedsNoLook : List Entry → Message → Type 0
NeedsNoLook seen (Message.Ask query) = ¬ IsPast (length seen) query.since
NeedsNoLook seen (Message.Do change) = ⊥
NeedsNoLook seen (Message.Refused refusal) = Unit {0}
NeedsNoLook seen (Message.Bare refusal) = Unit {0}
NeedsNoLook seen Message.Unread = Unit {0}

-- a count stays, or has risen
abbrev pub StaysOrRose : ℕ → ℕ → Type 0
StaysOrRose before now = (now ≡ before) ⊎ Rose before now

-- the hall acts on the message: the answer is right, what is seen is legal and at most grows, an accepted change that is told is
-- counted, no count falls, and nothing is looked for where there is no need
pub record IsStep (old : Facts) (message : Message) (answer : Response) (new : Facts) : Type 0 where
  pub right : IsRight old message answer new
  pub grows : IsPrefix old.seen new.seen
  pub legal : IsLegal new.seen
  pub same : IsSameHall old new
  pub made : new.made ≡ old.made + told_by answer
  pub faults : old.faults ≤ new.faults
  pub fault : TellsFault answer → Rose old.faults new.faults
  pub looks : StaysOrRose old.looks new.looks
  pub look : ComesOfLook message answer → Rose old.looks new.looks
  pub quiet : NeedsNoLook old.seen message → new.looks ≡ old.looks
