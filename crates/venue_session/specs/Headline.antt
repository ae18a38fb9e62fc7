-- What a session promises whoever talks to it, said without the parts of which it is made.
use Rattle.std.specs.Prelude.{◌≡◌, ◌⊎◌, ℕ, ◌≤◌, ◌^◌, Bool, true, false, List, [], ◌∷◌, ◌++◌, length, drop, map, Option}
use Rattle.std.specs.List.{flat_map}
use mathlib.Core.List.{IsPrefix}
use Rattle.venue_types.specs.declared.link.Link.{Link}
use Rattle.venue_types.specs.Nearest.{Nearest}
use Rattle.venue_types.specs.Tours.{Tour}
use Rattle.venue_types.specs.declared.reply.Reply.TheVariants as reply
use Rattle.venue_types.specs.declared.settings.Profile.{Profile}
use Rattle.walk_laws.specs.Walks.{HasNoWalk, IsLeast}
use Rattle.venue_hall.specs.Views.{link_view}
use Rattle.venue_hall.specs.Shelves.{Shelf}
use Rattle.venue_hall.specs.Entry.{Entry}
use Rattle.venue_hall.specs.Answers.{IsTrip, RepeatsTrip}
use Rattle.venue_hall.specs.Changes.{Changes}
use Rattle.venue_hall.specs.Closed.{Version}
use Rattle.venue_hall.specs.Histories.{IsLegal, Replays}
use Rattle.venue_hall.specs.Nearest.{AreNearest, RepeatsNear}
use Rattle.venue_hall.specs.Tours.{IsTour, IsNoTour}
use Rattle.venue_hall.specs.Ways.{Usable, name_of, step_of}
use Rattle.venue_hall.specs.Facts.{IsAnswered}
use Rattle.wire_frames.specs.Frames.{IsShort, IsRefused}
use Rattle.wire_frames.specs.declared.refusals.Refusal.{Refusal}
use Rattle.venue_wire.specs.Messages.{At}
use Rattle.venue_wire.specs.declared.messages.Message.{Message}
use Rattle.venue_wire.specs.declared.messages.Taken.{Taken}
use Rattle.venue_session.specs.declared.ends.End.{End}
use Rattle.wire_replies.specs.Replies.{reply_text}
use Rattle.wire_replies.specs.declared.response.Response.{Response}
use Rattle.wire_replies.specs.declared.response.Response.TheVariants.{Of, No, Bare}

-- a message of so many bytes, whether it closes, what it was answered, and the history that was seen then
pub record Exchange : Type 0 where
  pub message : Message
  pub length : ℕ
  pub close : Bool
  pub answer : Response
  pub seen : List Entry

-- what is written for it
abbrev pub text_of : Exchange → List ℕ
text_of x = reply_text x.answer x.close

-- the answer is right: a question is answered at the version to which the history leads; a change is made, or refused, at a history
-- that begins with the one before; a message that is refused by itself is told why, a HEAD by the bare head of that, and one that
-- couldn't be read is told that memory ran out
abbrev pub IsRight : Option Shelf → ℕ → List Entry → Message → Response → List Entry → Type 0
IsRight shelf worker before (Message.Ask query) (Of r) seen = IsAnswered seen query r
IsRight shelf worker before (Message.Do change) (Of r) seen = (h : List Entry) × IsPrefix before h × Changes shelf worker change h r seen
IsRight shelf worker before (Message.Refused refusal) (No given) seen = given ≡ refusal
IsRight shelf worker before (Message.Bare refusal) (Bare given) seen = given ≡ refusal
IsRight shelf worker before Message.Unread (Of r) seen = r ≡ reply.OutOfMemory
IsRight shelf worker before _ _ seen = ⊥

-- a route is a walk from the start over open links that the profile may use, and none costs less; a tour is of such walks by all stops, and in no order
-- do any cost less; where it is said that there is none, there is none; the nearest amenities of a category come each with such a walk, and no other costs
-- less than the last; the other replies tell of no walk, and one that is added needs its own equation
abbrev pub TellsTheWay : List Entry → Response → Type 0
TellsTheWay seen (Of (reply.Route number from to name start cost steps potentials)) =
    (v : Version) × (place : ℕ) × (profile : Profile) × (a : ℕ) × (b : ℕ) × Replays seen v × (number ≡ v.number) × IsTrip v from to name place profile a b
    × (walk : List Link) × IsLeast link_view (Usable v place profile) a b walk cost × (start ≡ (name_of v a).id) × (steps ≡ map (step_of v) walk)
TellsTheWay seen (Of (reply.NoRoute number from to name reached)) =
    (v : Version) × (place : ℕ) × (profile : Profile) × (a : ℕ) × (b : ℕ) × Replays seen v × (number ≡ v.number) × IsTrip v from to name place profile a b
    × HasNoWalk link_view (Usable v place profile) a b
TellsTheWay seen (Of (reply.Tour it)) =
    (v : Version) × (asked : Tour) × Replays seen v × (it.number ≡ v.number) × RepeatsTrip asked.from asked.to asked.profile it.from it.to it.profile
    × IsTour v asked it.order it.cost it.legs
TellsTheWay seen (Of (reply.NoTour it)) =
    (v : Version) × (asked : Tour) × Replays seen v × (it.number ≡ v.number) × RepeatsTrip asked.from asked.to asked.profile it.from it.to it.profile
    × (it.stops ≡ asked.stops) × IsNoTour v asked
TellsTheWay seen (Of (reply.Nearest it)) = (v : Version) × (asked : Nearest) × Replays seen v × (it.number ≡ v.number) × RepeatsNear asked it × AreNearest v asked it
TellsTheWay seen (Of (reply.Version number closed places)) = Unit {0}
TellsTheWay seen (Of (reply.Places number rows)) = Unit {0}
TellsTheWay seen (Of (reply.Place told)) = Unit {0}
TellsTheWay seen (Of (reply.Closures told)) = Unit {0}
TellsTheWay seen (Of (reply.ClosureDone done)) = Unit {0}
TellsTheWay seen (Of (reply.Published number dropped)) = Unit {0}
TellsTheWay seen (Of (reply.Ahead since number)) = Unit {0}
TellsTheWay seen (Of reply.NoProfile) = Unit {0}
TellsTheWay seen (Of (reply.NoPlace which)) = Unit {0}
TellsTheWay seen (Of reply.NoFeature) = Unit {0}
TellsTheWay seen (Of (reply.FolderFault before after)) = Unit {0}
TellsTheWay seen (Of (reply.Rejected report)) = Unit {0}
TellsTheWay seen (Of (reply.HistoryFull number)) = Unit {0}
TellsTheWay seen (Of (reply.JournalFault before after)) = Unit {0}
TellsTheWay seen (Of reply.OutOfMemory) = Unit {0}
TellsTheWay seen (No refusal) = Unit {0}
TellsTheWay seen (Bare refusal) = Unit {0}

-- the message stands at the front of the bytes and is answered right, at a legal history that begins with the one before
pub record IsExchange (keys : List (List ℕ)) (shelf : Option Shelf) (worker : ℕ) (before : List Entry) (bytes : List ℕ) (x : Exchange) : Type 0 where
  pub stands : At keys bytes (Taken.Message x.message x.length x.close)
  pub grows : IsPrefix before x.seen
  pub legal : IsLegal x.seen
  pub right : IsRight shelf worker before x.message x.answer x.seen
  pub way : TellsTheWay x.seen x.answer

-- message by message from the front of the bytes, none behind one that closes, and these are left behind the last
abbrev pub AreExchanges : List (List ℕ) → Option Shelf → ℕ → List Entry → List ℕ → List Exchange → List ℕ → Type 0
AreExchanges keys shelf worker before bytes [] rest = rest ≡ bytes
AreExchanges keys shelf worker before bytes (x ∷ xs) rest =
    IsExchange keys shelf worker before bytes x
    × ((x.close ≡ false) ⊎ (xs ≡ []))
    × AreExchanges keys shelf worker x.seen (drop x.length bytes) xs rest

-- one of the messages closes, which is then the last
abbrev pub Closes : List Exchange → Type 0
Closes [] = ⊥
Closes (x ∷ xs) = (x.close ≡ true) ⊎ Closes xs

-- no message is left without an answer: of all bytes that came, or of 2^40 of them, nothing is left or less than a message
abbrev pub NoneIsLeft : List ℕ → List ℕ → List ℕ → Type 0
NoneIsLeft taken left rest = ((left ≡ []) ⊎ (2 ^ 40 ≤ length taken)) × ((rest ≡ []) ⊎ IsShort rest)

-- what is written last: nothing, where a message closes or none is left without an answer; or, where none closes, that what is left
-- is no head of a message
abbrev pub IsLastText : List Exchange → List ℕ → List ℕ → List ℕ → List ℕ → Type 0
IsLastText exchanges taken left rest last =
    ((last ≡ []) × (Closes exchanges ⊎ NoneIsLeft taken left rest))
    ⊎ ((Closes exchanges → ⊥) × (refusal : Refusal) × IsRefused rest refusal × (last ≡ reply_text (No refusal) true))

-- the session ended by itself: no connection failed, and memory didn't run out
abbrev pub IsWhole : End → Type 0
IsWhole End.Done = Unit {0}
IsWhole (End.Cut count) = Unit {0}
IsWhole (End.Refused status) = Unit {0}
IsWhole End.Worn = Unit {0}
IsWhole End.LinkFault = ⊥
IsWhole End.OutOfMemory = ⊥

-- of the bytes that came these were taken, and what was written are the answers to the messages in them, one for each and in order
pub record Headline (keys : List (List ℕ)) (shelf : Option Shelf) (worker : ℕ) (before : List Entry) (came left written : List ℕ) : Type 0 where
  pub taken : List ℕ
  pub took : came ≡ taken ++ left
  pub exchanges : List Exchange
  pub rest : List ℕ
  pub answered : AreExchanges keys shelf worker before taken exchanges rest
  pub last : List ℕ
  pub last_is : IsLastText exchanges taken left rest last
  pub wrote : written ≡ flat_map text_of exchanges ++ last

-- the history that was seen last
abbrev pub last_seen : List Entry → List Exchange → List Entry
last_seen before [] = before
last_seen before (x ∷ xs) = last_seen x.seen xs

-- what is written last where a session broke off: nothing, or a front of the answer to one message more, or of the text that what is
-- left is no head of a message
abbrev pub IsBrokenText : List (List ℕ) → Option Shelf → ℕ → List Entry → List ℕ → List ℕ → Type 0
IsBrokenText keys shelf worker seen rest last =
    (last ≡ [])
    ⊎ ((x : Exchange) × IsExchange keys shelf worker seen rest x × IsPrefix last (text_of x))
    ⊎ ((refusal : Refusal) × IsRefused rest refusal × IsPrefix last (reply_text (No refusal) true))

-- of a session that broke off: the answers to the messages in the bytes that were taken, one for each and in order, none of which
-- closes, and at most a front of one text more
pub record BrokenHeadline (keys : List (List ℕ)) (shelf : Option Shelf) (worker : ℕ) (before : List Entry) (came left written : List ℕ) : Type 0 where
  pub taken : List ℕ
  pub took : came ≡ taken ++ left
  pub exchanges : List Exchange
  pub rest : List ℕ
  pub answered : AreExchanges keys shelf worker before taken exchanges rest
  pub goes_on : Closes exchanges → ⊥
  pub last : List ℕ
  pub last_is : IsBrokenText keys shelf worker (last_seen before exchanges) rest last
  pub wrote : written ≡ flat_map text_of exchanges ++ last
