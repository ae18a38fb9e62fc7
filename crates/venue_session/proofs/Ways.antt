-- What a reply with a route or a tour, or that there is none, or with the nearest, tells.
use Rattle.std.proofs.Common.{◌∙◌, ℕ, List, ap, Option}
use Rattle.venue_types.specs.declared.feature_id.FeatureId.{FeatureId}
use Rattle.venue_types.specs.declared.query.Ask.{Ask}
use Rattle.venue_types.specs.declared.query.Ask.TheVariants as ask
use Rattle.venue_types.specs.declared.query.Change.{Change}
use Rattle.venue_types.specs.declared.query.Change.TheVariants as change
use Rattle.venue_types.specs.declared.reply.Mark.{Mark}
use Rattle.venue_types.specs.declared.reply.NearTold.{NearTold}
use Rattle.venue_types.specs.declared.reply.NoTourTold.{NoTourTold}
use Rattle.venue_types.specs.declared.reply.NodeName.{NodeName}
use Rattle.venue_types.specs.declared.reply.Reply.TheVariants as reply
use Rattle.venue_types.specs.declared.reply.StepRow.{StepRow}
use Rattle.venue_types.specs.declared.reply.TourTold.{TourTold}
use Rattle.venue_types.specs.declared.settings.Profile.{Profile}
use Rattle.venue_hall.specs.Nodes.{place_of}
use Rattle.venue_hall.specs.Shelves.{Shelf}
use Rattle.venue_hall.specs.Entry.{Entry}
use Rattle.venue_hall.specs.Answers.{AnswersAsk, IsTrip, RepeatsTrip}
use Rattle.venue_hall.specs.Changes.{Refuses}
use Rattle.venue_hall.specs.Closed.{Version}
use Rattle.venue_hall.specs.Histories.{Replays}
use Rattle.venue_hall.specs.Ways.{profile_number, profile_of}
use Rattle.venue_hall.specs.Facts.{Facts}
use Rattle.venue_wire.specs.declared.messages.Message.{Message}
use Rattle.wire_replies.specs.declared.response.Response.{Response}
use Rattle.wire_replies.specs.declared.response.Response.TheVariants.{Of}
use Rattle.venue_session.specs.Steps.{IsRight}
use Rattle.venue_session.specs.Headline.{TellsTheWay}

-- the trip that was asked for is the one that is told again
same_trip : (v : Version) (from to from' to' : FeatureId) (name name' : List ℕ) (place : ℕ) (profile : Profile) (a b : ℕ)
    → RepeatsTrip from to name from' to' name' → IsTrip v from to name place profile a b → IsTrip v from' to' name' place profile a b
same_trip v from to from' to' name name' place profile a b same trip = record {
  has_number = ap (λ (n : List ℕ). profile_number v.settings n) same.name_same ∙ trip.has_number;
  has_profile = ap (λ (n : List ℕ). profile_of v.settings n) same.name_same ∙ trip.has_profile;
  has_from = ap (λ (id : FeatureId). place_of v.features id) same.from_same ∙ trip.has_from;
  has_to = ap (λ (id : FeatureId). place_of v.features id) same.to_same ∙ trip.has_to;
}

route_told : (seen : List Entry) (v : Version) (asked : Ask) (number cost : ℕ) (from to start : FeatureId) (name : List ℕ) (steps : List StepRow)
    (potentials : Option (List Mark)) → Replays seen v → AnswersAsk v asked (reply.Route number from to name start cost steps potentials)
    → TellsTheWay seen (Of (reply.Route number from to name start cost steps potentials))
route_told seen v (ask.Route from' to' name' certificate) number cost from to start name steps potentials stands is = (
  v,
  is.2.number,
  is.2.profile,
  is.2.a,
  is.2.b,
  stands,
  is.0,
  same_trip v from' to' from to name' name is.2.number is.2.profile is.2.a is.2.b is.1 is.2.trip,
  is.2.walk,
  is.2.least,
  is.2.started,
  is.2.stepped,
)
route_told seen v _ number cost from to start name steps potentials stands is = absurd is

none_told : (seen : List Entry) (v : Version) (asked : Ask) (number : ℕ) (from to : FeatureId) (name : List ℕ) (reached : Option (List NodeName))
    → Replays seen v → AnswersAsk v asked (reply.NoRoute number from to name reached) → TellsTheWay seen (Of (reply.NoRoute number from to name reached))
none_told seen v (ask.Route from' to' name' certificate) number from to name reached stands is = (
  v,
  is.2.number,
  is.2.profile,
  is.2.a,
  is.2.b,
  stands,
  is.0,
  same_trip v from' to' from to name' name is.2.number is.2.profile is.2.a is.2.b is.1 is.2.trip,
  is.2.none,
)
none_told seen v _ number from to name reached stands is = absurd is

tour_told : (seen : List Entry) (v : Version) (asked : Ask) (it : TourTold) → Replays seen v → AnswersAsk v asked (reply.Tour it) → TellsTheWay seen (Of (reply.Tour it))
tour_told seen v (ask.Tour asked) it stands is = (v, asked, stands, is.0, is.1, is.2)
tour_told seen v _ it stands is = absurd is

no_tour_told : (seen : List Entry) (v : Version) (asked : Ask) (it : NoTourTold) → Replays seen v → AnswersAsk v asked (reply.NoTour it)
    → TellsTheWay seen (Of (reply.NoTour it))
no_tour_told seen v (ask.Tour asked) it stands is = (v, asked, stands, is.0, is.1, is.2, is.3)
no_tour_told seen v _ it stands is = absurd is

near_told : (seen : List Entry) (v : Version) (asked : Ask) (it : NearTold) → Replays seen v → AnswersAsk v asked (reply.Nearest it) → TellsTheWay seen (Of (reply.Nearest it))
near_told seen v (ask.Nearest asked) it stands is = (v, asked, stands, is.0, is.1, is.2)
near_told seen v _ it stands is = absurd is

-- a change is answered by no route
no_route : (shelf : Option Shelf) (v : Version) (asked : Change) (number cost : ℕ) (from to start : FeatureId) (name : List ℕ) (steps : List StepRow)
    (potentials : Option (List Mark)) → Refuses shelf v asked (reply.Route number from to name start cost steps potentials) → ⊥
no_route shelf v (change.Closure closure) number cost from to start name steps potentials is = is.1
no_route shelf v (change.Publish folder) number cost from to start name steps potentials is = is.1

-- nor by that there is none
no_none : (shelf : Option Shelf) (v : Version) (asked : Change) (number : ℕ) (from to : FeatureId) (name : List ℕ) (reached : Option (List NodeName))
    → Refuses shelf v asked (reply.NoRoute number from to name reached) → ⊥
no_none shelf v (change.Closure closure) number from to name reached is = is.1
no_none shelf v (change.Publish folder) number from to name reached is = is.1

-- nor by a tour
no_tour : (shelf : Option Shelf) (v : Version) (asked : Change) (it : TourTold) → Refuses shelf v asked (reply.Tour it) → ⊥
no_tour shelf v (change.Closure closure) it is = is.1
no_tour shelf v (change.Publish folder) it is = is.1

-- nor by that there is none
no_tour_none : (shelf : Option Shelf) (v : Version) (asked : Change) (it : NoTourTold) → Refuses shelf v asked (reply.NoTour it) → ⊥
no_tour_none shelf v (change.Closure closure) it is = is.1
no_tour_none shelf v (change.Publish folder) it is = is.1

-- nor by the nearest
no_near : (shelf : Option Shelf) (v : Version) (asked : Change) (it : NearTold) → Refuses shelf v asked (reply.Nearest it) → ⊥
no_near shelf v (change.Closure closure) it is = is.1
no_near shelf v (change.Publish folder) it is = is.1

-- a right answer tells a way at the history that is seen then
pub way_told : (old new : Facts) (message : Message) (answer : Response) → IsRight old message answer new → TellsTheWay new.seen answer
way_told old new (Message.Ask query) (Of (reply.Route number from to name start cost steps potentials)) is =
    route_told new.seen is.0 query.what number cost from to start name steps potentials is.1 is.2.1
way_told old new (Message.Ask query) (Of (reply.NoRoute number from to name reached)) is =
    none_told new.seen is.0 query.what number from to name reached is.1 is.2.1
way_told old new (Message.Ask query) (Of (reply.Tour it)) is = tour_told new.seen is.0 query.what it is.1 is.2.1
way_told old new (Message.Ask query) (Of (reply.NoTour it)) is = no_tour_told new.seen is.0 query.what it is.1 is.2.1
way_told old new (Message.Ask query) (Of (reply.Nearest it)) is = near_told new.seen is.0 query.what it is.1 is.2.1
way_told old new (Message.Do asked) (Of (reply.Route number from to name start cost steps potentials)) is =
    absurd (no_route old.files is.2.version asked number cost from to start name steps potentials is.2.cause)
way_told old new (Message.Do asked) (Of (reply.NoRoute number from to name reached)) is =
    absurd (no_none old.files is.2.version asked number from to name reached is.2.cause)
way_told old new (Message.Do asked) (Of (reply.Tour it)) is = absurd (no_tour old.files is.2.version asked it is.2.cause)
way_told old new (Message.Do asked) (Of (reply.NoTour it)) is = absurd (no_tour_none old.files is.2.version asked it is.2.cause)
way_told old new (Message.Do asked) (Of (reply.Nearest it)) is = absurd (no_near old.files is.2.version asked it is.2.cause)
way_told old new (Message.Refused refusal) (Of (reply.Route number from to name start cost steps potentials)) is = absurd is
way_told old new (Message.Refused refusal) (Of (reply.NoRoute number from to name reached)) is = absurd is
way_told old new (Message.Refused refusal) (Of (reply.Tour it)) is = absurd is
way_told old new (Message.Refused refusal) (Of (reply.NoTour it)) is = absurd is
way_told old new (Message.Refused refusal) (Of (reply.Nearest it)) is = absurd is
way_told old new (Message.Bare refusal) (Of (reply.Route number from to name start cost steps potentials)) is = absurd is
way_told old new (Message.Bare refusal) (Of (reply.NoRoute number from to name reached)) is = absurd is
way_told old new (Message.Bare refusal) (Of (reply.Tour it)) is = absurd is
way_told old new (Message.Bare refusal) (Of (reply.NoTour it)) is = absurd is
way_told old new (Message.Bare refusal) (Of (reply.Nearest it)) is = absurd is
way_told old new Message.Unread (Of (reply.Route number from to name start cost steps potentials)) is = absurd (cc is.0)
way_told old new Message.Unread (Of (reply.NoRoute number from to name reached)) is = absurd (cc is.0)
way_told old new Message.Unread (Of (reply.Tour it)) is = absurd (cc is.0)
way_told old new Message.Unread (Of (reply.NoTour it)) is = absurd (cc is.0)
way_told old new Message.Unread (Of (reply.Nearest it)) is = absurd (cc is.0)
way_told old new message answer is = tt
