-- What `route BASE FOLDER PROFILE FROM TO` prints.
use Rattle.std.specs.Prelude.{◌≡◌, ℕ, List, Some, None, codes}
use Rattle.venue_types.specs.declared.feature_id.FeatureId.{FeatureId}
use Rattle.venue_types.specs.declared.settings.Profile.{Profile}
use Rattle.venue_ports.specs.Files.{StoredFile}
use Rattle.line_forms.specs.Lines.{line}
use Rattle.route_answers.specs.Nodes.{place_of}
use Rattle.route_certificate.specs.declared.answer.AnswerIn.{AnswerIn}
use Rattle.route_certificate.specs.declared.answer.Claim.{Claim}
use Rattle.route_certificate.specs.declared.answer.Claim.TheVariants.{Route, Nothing}
use Rattle.route_certificate.specs.Answers.{answer_text}
use Rattle.venue_session.specs.Venues.{SeenVenue as Venue}
use Rattle.route_answers.specs.RouteAnswers.{IsRouteAnswer}
use Rattle.venue_commands.specs.declared.status.Status.{Status}
use Rattle.venue_commands.specs.declared.status.Status.TheVariants.{Done, Negative, Wrong}
use Rattle.venue_commands.specs.Checked.{NoVenue, HasVenue}
use Rattle.venue_commands.specs.Linked.{profile_named}

-- there is a walk, or none
abbrev pub claim_status : Claim → Status
claim_status (Route cost steps at) = Done
claim_status (Nothing reached) = Negative

-- the venue, and the profile of this name
pub record HasRouter (files : List StoredFile) (base folder name : List ℕ) (venue : Venue) (profile : Profile) : Type 0 where
  pub venue_is : HasVenue files base folder venue
  pub profile_is : profile_named venue.settings name ≡ Some profile

-- `route BASE FOLDER PROFILE FROM TO`: the folder is judged before the profile is looked up, and the start before the end
pub data RouteOutput (files : List StoredFile) (base folder name : List ℕ) (from to : FeatureId) : List ℕ → Status → Type 0 where
  no_venue : {text : List ℕ} {status : Status} → NoVenue files base folder text status → RouteOutput files base folder name from to text status
  no_profile : (venue : Venue) → HasVenue files base folder venue → profile_named venue.settings name ≡ None
      → RouteOutput files base folder name from to (line (codes "profile")) Wrong
  no_start : (venue : Venue) (profile : Profile) → HasRouter files base folder name venue profile → place_of venue.features from ≡ None
      → RouteOutput files base folder name from to (line (codes "place from")) Wrong
  no_end : (venue : Venue) (profile : Profile) (a : ℕ) → HasRouter files base folder name venue profile → place_of venue.features from ≡ Some a
      → place_of venue.features to ≡ None → RouteOutput files base folder name from to (line (codes "place to")) Wrong
  routed : (venue : Venue) (profile : Profile) (a b : ℕ) (answer : AnswerIn) → HasRouter files base folder name venue profile
      → place_of venue.features from ≡ Some a → place_of venue.features to ≡ Some b → IsRouteAnswer venue.features venue.settings profile a b answer
      → RouteOutput files base folder name from to (answer_text answer) (claim_status answer.claim)
