-- Which reply answers which question at a version.
use Rattle.std.specs.Prelude.{◌≡◌, ℕ, ◌<◌, ◌↔◌, List, map, length, All, Contains, Option, Some, None, Bool, true, false}
use Rattle.std.specs.List.{find}
use Rattle.std.specs.List.Sorted.{IsStrictlyIncreasing}
use Rattle.venue_types.specs.declared.feature_id.FeatureId.{FeatureId}
use Rattle.venue_types.specs.declared.features.Features.{Features}
use Rattle.venue_types.specs.declared.link.Link.{Link}
use Rattle.venue_types.specs.declared.link.Potential.{Potential}
use Rattle.venue_types.specs.declared.query.Ask.{Ask}
use Rattle.venue_types.specs.declared.query.Ask.TheVariants as ask
use Rattle.venue_types.specs.declared.query.Query.{Query}
use Rattle.venue_types.specs.declared.reply.Mark.{Mark}
use Rattle.venue_types.specs.declared.reply.NodeName.{NodeName}
use Rattle.venue_types.specs.declared.reply.PlaceRow.{PlaceRow}
use Rattle.venue_types.specs.declared.reply.Reply.{Reply}
use Rattle.venue_types.specs.declared.reply.Reply.TheVariants as reply
use Rattle.venue_types.specs.declared.reply.StepRow.{StepRow}
use Rattle.venue_types.specs.declared.reply.Which.TheVariants as which
use Rattle.venue_types.specs.declared.settings.Profile.{Profile}
use Rattle.walk_laws.specs.Walks.{HasWalk, HasNoWalk, IsLeast}
use Rattle.walk_laws.specs.Certificates.{potential, Ascends, IsCertificate}
use Rattle.venue_build.specs.Identity.{is_same}
use Rattle.venue_build.specs.Nodes.{nodes, place_of}
use Rattle.venue_build.specs.Views.{link_view, potential_view}
use Rattle.venue_build.specs.Places.{places}
use Rattle.venue_history.specs.Closed.{Version, is_closed_for_all, shut_out, closed_rows, closed_count}
use Rattle.venue_history.specs.Nearest.{AreNearest, RepeatsNear}
use Rattle.venue_history.specs.Tours.{IsTour, IsNoTour}
use Rattle.venue_history.specs.Ways.{Usable, profile_number, profile_of, name_of, step_of, mark_of}

-- the question asks for a version that isn't there yet
abbrev pub IsTooEarly : Version → Option ℕ → Type 0
IsTooEarly v None = ⊥
IsTooEarly v (Some since) = v.number < since

-- the place of this identifier
unfoldable pub place_row : Features → FeatureId → Option PlaceRow
place_row features id = find (λ (row : PlaceRow). is_same row.id id) (places features)

-- told exactly where it was asked for, and then so
abbrev pub IfAsked : {A : Type 0} → Bool → (A → Type 0) → Option A → Type 0
IfAsked true IsSo (Some x) = IsSo x
IfAsked false IsSo None = Unit {0}
IfAsked _ IsSo _ = ⊥

-- a route that can be asked for: there is a profile of the name, with its number, and both ends are places, at these nodes
pub record IsTrip (v : Version) (from to : FeatureId) (name : List ℕ) (number : ℕ) (profile : Profile) (a b : ℕ) : Type 0 where
  pub has_number : profile_number v.settings name ≡ Some number
  pub has_profile : profile_of v.settings name ≡ Some profile
  pub has_from : place_of v.features from ≡ Some a
  pub has_to : place_of v.features to ≡ Some b

-- the marks show that no walk from a to b costs less: potentials of nodes alone, which rise by node, lie below the cost, and are a certificate
pub record AreShown (v : Version) (number : ℕ) (profile : Profile) (a b cost : ℕ) (marks : List Mark) : Type 0 where
  pub listed : List Potential
  pub told : marks ≡ map (mark_of v) listed
  pub nodes_alone : All (λ (p : Potential). p.node < length (nodes v.features v.settings)) listed
  pub rising : Ascends potential_view listed
  pub below : All (λ (p : Potential). p.value < cost) listed
  pub certificate : IsCertificate link_view (Usable v number profile) a b cost (potential potential_view cost listed)

-- the names are those of exactly the nodes to which a walk from a leads, and rise by node
pub record AreReached (v : Version) (number : ℕ) (profile : Profile) (a : ℕ) (names : List NodeName) : Type 0 where
  pub listed : List ℕ
  pub told : names ≡ map (name_of v) listed
  pub rising : IsStrictlyIncreasing listed
  pub exact : (n : ℕ) → Contains listed n ↔ HasWalk link_view (Usable v number profile) a n

-- a cheapest walk of what may be used leads from place to place, step by step as told, from the node that is named
pub record IsRoute (v : Version) (from to : FeatureId) (name : List ℕ) (certificate : Bool)
    (start : FeatureId) (cost : ℕ) (steps : List StepRow) (potentials : Option (List Mark)) : Type 0 where
  pub number : ℕ
  pub profile : Profile
  pub a : ℕ
  pub b : ℕ
  pub trip : IsTrip v from to name number profile a b
  pub walk : List Link
  pub least : IsLeast link_view (Usable v number profile) a b walk cost
  pub stepped : steps ≡ map (step_of v) walk
  pub started : start ≡ (name_of v a).id
  pub shown : IfAsked certificate (AreShown v number profile a b cost) potentials

-- no walk of what may be used leads from place to place
pub record IsNoRoute (v : Version) (from to : FeatureId) (name : List ℕ) (certificate : Bool) (reached : Option (List NodeName)) : Type 0 where
  pub number : ℕ
  pub profile : Profile
  pub a : ℕ
  pub b : ℕ
  pub trip : IsTrip v from to name number profile a b
  pub none : HasNoWalk link_view (Usable v number profile) a b
  pub shown : IfAsked certificate (AreReached v number profile a) reached

-- the reply tells again what was asked
pub record RepeatsTrip (from to : FeatureId) (name : List ℕ) (from' to' : FeatureId) (name' : List ℕ) : Type 0 where
  pub from_same : from' ≡ from
  pub to_same : to' ≡ to
  pub name_same : name' ≡ name

-- no profile has the name
abbrev pub LacksProfile : Version → List ℕ → Type 0
LacksProfile v name = profile_of v.settings name ≡ None

-- a profile has the name
abbrev pub HasProfile : Version → List ℕ → Type 0
HasProfile v name = (profile : Profile) × (profile_of v.settings name ≡ Some profile)

-- the identifier is that of no place
abbrev pub IsNoPlace : Version → FeatureId → Type 0
IsNoPlace v id = place_of v.features id ≡ None

-- the identifier is that of a place
abbrev pub IsPlace : Version → FeatureId → Type 0
IsPlace v id = (n : ℕ) × (place_of v.features id ≡ Some n)

-- the reply is right for what is asked, where the version isn't too early: what is told, or the first cause why nothing is told
abbrev pub AnswersAsk : Version → Ask → Reply → Type 0
AnswersAsk v ask.Version (reply.Version number closed count) = (number ≡ v.number) × (closed ≡ closed_count v) × (count ≡ length (places v.features))
AnswersAsk v ask.Places (reply.Places number rows) = (number ≡ v.number) × (rows ≡ places v.features)
AnswersAsk v (ask.Place id) (reply.NoPlace which.Id) = IsNoPlace v id
AnswersAsk v (ask.Place id) (reply.Place it) = IsPlace v id × (it.number ≡ v.number) × (place_row v.features id ≡ Some it.row) × (it.closed ≡ is_closed_for_all v id) × (it.profiles ≡ shut_out v id)
AnswersAsk v ask.Closures (reply.Closures it) = (it.number ≡ v.number) × (it.closed ≡ closed_rows v)
AnswersAsk v (ask.Route from to name certificate) reply.NoProfile = LacksProfile v name
AnswersAsk v (ask.Route from to name certificate) (reply.NoPlace which.From) = HasProfile v name × IsNoPlace v from
AnswersAsk v (ask.Route from to name certificate) (reply.NoPlace which.To) = HasProfile v name × IsPlace v from × IsNoPlace v to
AnswersAsk v (ask.Route from to name certificate) (reply.Route number from' to' name' start cost steps potentials) =
    (number ≡ v.number) × RepeatsTrip from to name from' to' name' × IsRoute v from to name certificate start cost steps potentials
AnswersAsk v (ask.Route from to name certificate) (reply.NoRoute number from' to' name' reached) =
    (number ≡ v.number) × RepeatsTrip from to name from' to' name' × IsNoRoute v from to name certificate reached
AnswersAsk v (ask.Tour asked) reply.NoProfile = LacksProfile v asked.profile
AnswersAsk v (ask.Tour asked) (reply.NoPlace which.From) = HasProfile v asked.profile × IsNoPlace v asked.from
AnswersAsk v (ask.Tour asked) (reply.NoPlace which.To) = HasProfile v asked.profile × IsPlace v asked.from × IsNoPlace v asked.to
AnswersAsk v (ask.Tour asked) (reply.NoPlace which.Stop) =
    HasProfile v asked.profile × IsPlace v asked.from × IsPlace v asked.to × (stop : FeatureId) × Contains asked.stops stop × IsNoPlace v stop
AnswersAsk v (ask.Tour asked) (reply.Tour it) =
    (it.number ≡ v.number) × RepeatsTrip asked.from asked.to asked.profile it.from it.to it.profile × IsTour v asked it.order it.cost it.legs
AnswersAsk v (ask.Tour asked) (reply.NoTour it) =
    (it.number ≡ v.number) × RepeatsTrip asked.from asked.to asked.profile it.from it.to it.profile × (it.stops ≡ asked.stops) × IsNoTour v asked
AnswersAsk v (ask.Nearest asked) reply.NoProfile = LacksProfile v asked.profile
AnswersAsk v (ask.Nearest asked) (reply.NoPlace which.From) = HasProfile v asked.profile × IsNoPlace v asked.from
AnswersAsk v (ask.Nearest asked) (reply.Nearest it) = (it.number ≡ v.number) × RepeatsNear asked it × AreNearest v asked it
AnswersAsk v _ _ = ⊥

-- the reply is right for the question at the version; want of memory may stand for every other answer
abbrev pub Answers : Version → Query → Reply → Type 0
Answers v query reply.OutOfMemory = Unit {0}
Answers v query (reply.Ahead since number) = (query.since ≡ Some since) × (v.number < since) × (number ≡ v.number)
Answers v query r = (¬ IsTooEarly v query.since) × AnswersAsk v query.what r
