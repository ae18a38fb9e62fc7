-- A tour and none of one question exclude one another, and each stop of both is a place.
use Rattle.std.proofs.Common.{◌≡◌, ◌∙◌, ℕ, zero, suc, ◌<◌, List, [], ◌∷◌, map, length, get_or, refl, sym, ap, subst, Option, Some, None, arith}
use Rattle.std.specs.Prelude.{Contains}
use Rattle.std.proofs.lemmas.Option.{same_Some}
use Rattle.venue_types.specs.declared.feature_id.FeatureId.{FeatureId}
use Rattle.venue_types.specs.declared.link.Link.{Link}
use Rattle.venue_types.specs.declared.reply.Leg.{Leg}
use Rattle.venue_types.specs.declared.settings.Profile.{Profile}
use Rattle.venue_types.specs.Tours.{Tour}
use Rattle.venue_build.specs.Nodes.{place_of}
use Rattle.venue_history.specs.Closed.{Version}
use Rattle.venue_history.specs.Tours.{IsTourTrip, Visits, IsTour, IsNoTour}
use Rattle.venue_history.specs.Ways.{Usable}

same_listed : (xs ys : List ℕ) → map Some xs ≡ map Some ys → xs ≡ ys
same_listed [] [] e = refl
same_listed [] (y ∷ ys) e = absurd (cc)
same_listed (x ∷ xs) [] e = absurd (cc)
same_listed (x ∷ xs) (y ∷ ys) e =
    let here : x ≡ y = (cc) in
    let further : map Some xs ≡ map Some ys = (cc) in
    let rest : xs ≡ ys = same_listed xs ys further in
    (cc)

-- what stands in a list is found there
found_there : (find : FeatureId → Option ℕ) (ids : List FeatureId) (ns : List ℕ) (k : ℕ) (id : FeatureId) → map find ids ≡ map Some ns → k < length ids → get_or ids k id ≡ id
    → find id ≡ None → ⊥
found_there find [] ns k id e within at none = omega arith
found_there find (x ∷ xs) [] k id e within at none = absurd (cc)
found_there find (x ∷ xs) (n ∷ ns) zero id e within at none =
    let here : find x ≡ Some n = (cc) in
    let there : find id ≡ Some n = ap find (sym at) ∙ here in
    absurd (cc)
found_there find (x ∷ xs) (n ∷ ns) (suc k) id e within at none =
    let further : map find xs ≡ map Some ns = (cc) in
    found_there find xs ns k id further (omega arith) at none

pub stop_stands : (v : Version) (asked : Tour) (number : ℕ) (profile : Profile) (a : ℕ) (stops : List ℕ) (b : ℕ) → IsTourTrip v asked number profile a stops b
    → (stop : FeatureId) → Contains asked.stops stop → place_of v.features stop ≡ None → ⊥
stop_stands v asked number profile a stops b trip stop has none = found_there (place_of v.features) asked.stops stops has.0 stop trip.has_stops has.1 has.2 none

-- whoever asks so goes from and to the same nodes, by the same
abbrev NoVisit : Version → ℕ → Profile → ℕ → List ℕ → ℕ → Type 0
NoVisit v number profile a stops b = (order : List ℕ) (walks : List (List Link)) → Visits (Usable v number profile) a stops b order walks → ⊥

pub not_toured : (v : Version) (asked : Tour) (order : List FeatureId) (cost : ℕ) (legs : List Leg) → IsTour v asked order cost legs → IsNoTour v asked → ⊥
not_toured v asked order cost legs is not =
    let numbers = same_Some not.number is.number (sym not.trip.has_number ∙ is.trip.has_number) in
    let profiles = same_Some not.profile is.profile (sym not.trip.has_profile ∙ is.trip.has_profile) in
    let starts = same_Some not.a is.a (sym not.trip.has_from ∙ is.trip.has_from) in
    let ends = same_Some not.b is.b (sym not.trip.has_to ∙ is.trip.has_to) in
    let stops = same_listed not.stops is.stops (sym not.trip.has_stops ∙ is.trip.has_stops) in
    let same_number = subst (λ (n : ℕ). NoVisit v n not.profile not.a not.stops not.b) numbers not.none in
    let here = subst (λ (p : Profile). NoVisit v is.number p not.a not.stops not.b) profiles same_number in
    let from_a = subst (λ (n : ℕ). NoVisit v is.number is.profile n not.stops not.b) starts here in
    let by_stops = subst (λ (ns : List ℕ). NoVisit v is.number is.profile is.a ns not.b) stops from_a in
    let to_b = subst (λ (n : ℕ). NoVisit v is.number is.profile is.a is.stops n) ends by_stops in
    to_b is.places is.walks is.visits
