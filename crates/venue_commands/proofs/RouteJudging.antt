-- From the venue of a folder to what `route` prints.
use Rattle.std.proofs.Common.{◌≡◌, ℕ, ◌<◌, List, length, Option, Some, None, Result, Ok, Err, refl, sym, subst, codes}
use Rattle.std.specs.Prelude.{IfOk, IfSome}
use Rattle.venue_types.specs.declared.feature_id.FeatureId.{FeatureId}
use Rattle.venue_types.specs.declared.settings.Profile.{Profile}
use Rattle.venue_types.specs.declared.features.Features.{Features}
use Rattle.venue_types.specs.declared.settings.Settings.{Settings}
use Rattle.route_answers.specs.Nodes.{nodes, place_of}
use Rattle.line_forms.specs.Lines.{line}
use Rattle.route_certificate.specs.Answers.{answer_text}
use Rattle.venue_session.specs.Venues.{SeenVenue as Venue}
use Rattle.venue_ports.specs.Files.{StoredFile}
use Rattle.venue_ports.specs.declared.folders.ReadFault.{ReadFault}
use Rattle.venue_commands.specs.declared.printout.Printout.{Printout}
use Rattle.venue_commands.specs.declared.base_venue.Made.{Made}
use Rattle.venue_commands.specs.declared.base_venue.Made.TheVariants as made
use Rattle.venue_commands.specs.declared.status.Status.TheVariants.{Wrong}
use Rattle.venue_commands.specs.Steps.{IsMade, IsRoutedTo, IsRoutedFrom, IsRoutedFor, IsRouted}
use Rattle.venue_commands.specs.Checked.{HasVenue}
use Rattle.venue_commands.specs.Linked.{profile_named}
use Rattle.venue_commands.specs.Routed.{HasRouter, RouteOutput, claim_status, no_venue, no_profile, no_start, no_end, routed}
use Rattle.venue_commands.proofs.CheckJudging.{stopped_as, venue_as}
use Rattle.venue_commands.proofs.VenueMaking.{printed_as}

pub route_stopped : (files : Option (List StoredFile)) (base folder name : List ℕ) (from to : FeatureId) (m : Made) (answer : Printout) → IfSome files (λ fs. IsMade fs base folder m)
    → m ≡ made.Stopped answer → IfSome files (λ fs. RouteOutput fs base folder name from to answer.text answer.status)
route_stopped None base folder name from to m answer told is = tt
route_stopped (Some fs) base folder name from to m answer told is = no_venue (stopped_as fs base folder m answer told is)

-- what is printed where the start is a place, for the end that was found, or for none
routed_to : (fs : List StoredFile) (base folder name : List ℕ) (from to : FeatureId) (venue : Venue) (profile : Profile) (a : ℕ) (answer : Printout) (found : Option ℕ)
    → HasRouter fs base folder name venue profile → place_of venue.features from ≡ Some a → place_of venue.features to ≡ found → IsRoutedTo venue profile a answer found
    → RouteOutput fs base folder name from to answer.text answer.status
routed_to fs base folder name from to venue profile a answer None has starts is printed =
    printed_as (RouteOutput fs base folder name from to) (line (codes "place to")) Wrong answer printed.0 printed.1 (no_end venue profile a has starts is)
routed_to fs base folder name from to venue profile a answer (Some b) has starts is printed =
    printed_as (RouteOutput fs base folder name from to) (answer_text printed.answer) (claim_status printed.answer.claim) answer printed.text printed.status
    (routed venue profile a b printed.answer has starts is printed.right)

-- what is printed for the start that was found, or for none
routed_from : (fs : List StoredFile) (base folder name : List ℕ) (from to : FeatureId) (venue : Venue) (profile : Profile) (answer : Printout) (found : Option ℕ)
    → HasRouter fs base folder name venue profile → place_of venue.features from ≡ found → IsRoutedFrom venue profile to answer found
    → RouteOutput fs base folder name from to answer.text answer.status
routed_from fs base folder name from to venue profile answer None has is printed =
    printed_as (RouteOutput fs base folder name from to) (line (codes "place from")) Wrong answer printed.0 printed.1 (no_start venue profile has is)
routed_from fs base folder name from to venue profile answer (Some a) has is printed =
    routed_to fs base folder name from to venue profile a answer (place_of venue.features to) has is refl printed

-- what is printed for the profile that was found, or for none
routed_for : (fs : List StoredFile) (base folder name : List ℕ) (from to : FeatureId) (venue : Venue) (answer : Printout) (found : Option Profile) → HasVenue fs base folder venue
    → profile_named venue.settings name ≡ found → IsRoutedFor venue from to answer found → RouteOutput fs base folder name from to answer.text answer.status
routed_for fs base folder name from to venue answer None has is printed =
    printed_as (RouteOutput fs base folder name from to) (line (codes "profile")) Wrong answer printed.0 printed.1 (no_profile venue has is)
routed_for fs base folder name from to venue answer (Some profile) has is printed =
    routed_from fs base folder name from to venue profile answer (place_of venue.features from) (record { venue_is = has; profile_is = is }) refl printed

pub is_routed : (files : Option (List StoredFile)) (base folder name : List ℕ) (from to : FeatureId) (m : Made) (venue : Venue) (r : Result Printout ReadFault)
    → IfSome files (λ fs. IsMade fs base folder m) → m ≡ made.Venue venue → IfOk r (IsRouted venue name from to)
    → IfOk r (λ a. IfSome files (λ fs. RouteOutput fs base folder name from to a.text a.status))
is_routed files base folder name from to m venue (Err e) told is printed = tt
is_routed None base folder name from to m venue (Ok a) told is printed = tt
is_routed (Some fs) base folder name from to m venue (Ok a) told is printed =
    routed_for fs base folder name from to venue a (profile_named venue.settings name) (venue_as fs base folder m venue told is) refl printed

-- a place that was found is a node
pub place_below : ((features : Features) (settings : Settings) (id : FeatureId) (n : ℕ) → place_of features id ≡ Some n → n < length (nodes features settings))
    → (features : Features) (settings : Settings) (id : FeatureId) (found : Option ℕ) → found ≡ place_of features id → IfSome found (λ n. n < length (nodes features settings))
place_below law features settings id None e = tt
place_below law features settings id (Some n) e = law features settings id n (sym e)

-- what is printed for a profile is what is printed for its name
pub routed_named : (venue : Venue) (name : List ℕ) (from to : FeatureId) (profile : Profile) (r : Result Printout ReadFault) → Some profile ≡ profile_named venue.settings name
    → IfOk r (λ answer. IsRoutedFrom venue profile to answer (place_of venue.features from)) → IfOk r (IsRouted venue name from to)
routed_named venue name from to profile (Err e) is told = tt
routed_named venue name from to profile (Ok answer) is told = subst (IsRoutedFor venue from to answer) is told
