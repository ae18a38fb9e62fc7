-- At every version to which a history leads each feature is closed for profiles of the settings alone.
use Rattle.std.proofs.Common.{◌≡◌, ℕ, List, [], ◌∷◌, length, sym, subst, Some, Bool, true, false}
use Rattle.std.proofs.Math.Logic.{∥∥₁_elim}
use Rattle.std.proofs.Props.{props}
use Rattle.std.specs.Prelude.{All, IsTrue, if◌then◌else◌}
use Rattle.std.specs.Arc.{arc_value}
use Rattle.std.proofs.lemmas.Bool.{both_ways}
use Rattle.std.proofs.lemmas.Option.{same_Some}
use Rattle.venue_types.specs.declared.feature_id.FeatureId.{FeatureId}
use Rattle.venue_types.specs.declared.profile_set.ProfileSet.{ProfileSet}
use Rattle.venue_types.specs.ProfileSets.{nobody, joined, without, is_empty, is_within}
use Rattle.venue_types.proofs.ProfileSetLemmas.{nobody_within, joined_within, without_within}
use Rattle.venue_build.specs.Identity.{is_same}
use Rattle.venue_build.specs.Nodes.{closables}
use Rattle.venue_history.specs.declared.entry.Closing.{Closing}
use Rattle.venue_history.specs.declared.entry.Entry.{Entry}
use Rattle.venue_history.specs.declared.entry.Act.{Act}
use Rattle.venue_history.specs.declared.entry.Act.TheVariants.{Published, Closed, Reopened}
use Rattle.venue_history.specs.Closed.{Version, is_one_of, set_in, closed_set}
use Rattle.venue_history.specs.Versions.{closings, set_with, set_without, AreProfiles, Fits, after}
use Rattle.venue_history.specs.Histories.{after_all, MayAllFollow, opening_of, replay_from, IsLegalFrom, KeepsTheRules, Replays}
use Rattle.venue_history.proofs.Closings.{set_in_closings, closings_all}
use Rattle.venue_history.proofs.Standing.{closed_in_order}

-- the set has no profile past so many
IsWithin : ℕ → ProfileSet → Type 0
IsWithin count set = IsTrue (is_within count set)

-- each feature is closed for profiles of the settings alone
AreWithin : Version → Type 0
unfolding IsWithin
AreWithin v = (id : FeatureId) → IsWithin (length v.settings.profiles) (closed_set v id)

one_within : (count : ℕ) (there : Bool) (set : ProfileSet) → IsWithin count set → IsWithin count (if there then set else nobody)
unfolding IsWithin
one_within count true set within = within
one_within count false set within = nobody_within count

closings_within : (count : ℕ) (set_of : FeatureId → ProfileSet) (ids : List FeatureId) → ((id : FeatureId) → IsWithin count (set_of id))
    → (id : FeatureId) → IsWithin count (set_in (closings set_of ids) id)
closings_within count set_of ids within id =
    subst (IsWithin count) (sym (set_in_closings set_of ids id)) (one_within count (is_one_of ids id) (set_of id) (within id))

more_within : (count : ℕ) (same : Bool) (set other : ProfileSet) → IsWithin count set → IsWithin count other → IsWithin count (if same then joined set other else set)
unfolding IsWithin
more_within count true set other within too = joined_within count set other within too
more_within count false set other within too = within

less_within : (count : ℕ) (same : Bool) (set other : ProfileSet) → IsWithin count set → IsWithin count (if same then without set other else set)
unfolding IsWithin
less_within count true set other within = without_within count set other within
less_within count false set other within = within

after_within : (v : Version) (a : Act) → AreWithin v → Fits v a → AreWithin (after v a)
unfolding IsWithin AreWithin
after_within v (Published venue) within fits = closings_within (length v.settings.profiles) (closed_set v) (closables (arc_value venue).features) within
after_within v (Closed it) within fits =
    closings_within (length v.settings.profiles) (set_with v it) (closables v.features)
    (λ id. more_within (length v.settings.profiles) (is_same id it.feature) (closed_set v id) it.profiles (within id) fits.0.known)
after_within v (Reopened it) within fits =
    closings_within (length v.settings.profiles) (set_without v it) (closables v.features)
    (λ id. less_within (length v.settings.profiles) (is_same id it.feature) (closed_set v id) it.profiles (within id))

all_within : (v : Version) (es : List Entry) → AreWithin v → MayAllFollow v es → AreWithin (after_all v es)
all_within v [] within l = within
all_within v (e ∷ es) within l = all_within (after v e.act) es (after_within v e.act within l.0.fits) l.1

act_within : (a : Act) (es : List Entry) (v : Version) → replay_from a es ≡ Some v → IsLegalFrom a es → AreWithin v
unfolding IsWithin AreWithin
act_within (Published venue) es v r l =
    let first = opening_of (arc_value venue) in
    subst AreWithin (same_Some (after_all first es) v r) (all_within first es (λ id. nobody_within (length (arc_value venue).settings.profiles)) l.1)
act_within (Closed it) es v r l = absurd l
act_within (Reopened it) es v r l = absurd l

-- nothing is closed for a profile past the settings
pub closed_within : (h : List Entry) (v : Version) (id : FeatureId) → Replays h v → IsTrue (is_within (length v.settings.profiles) (closed_set v id))
unfolding IsWithin AreWithin
closed_within [] v id r = absurd (cc r.leads)
closed_within (e ∷ es) v id r =
    ∥∥₁_elim r.legal (hlevel props) (λ (k : KeepsTheRules (e ∷ es)). act_within e.act es v r.leads k.1 id)

-- and what is listed is closed for somebody
pub closed_profiles : (h : List Entry) (v : Version) → Replays h v → All (λ (it : Closing). AreProfiles v.settings it.profiles) v.closed
closed_profiles h v r =
    subst (All (λ (it : Closing). AreProfiles v.settings it.profiles)) (sym (closed_in_order h v r))
    (closings_all (λ (it : Closing). AreProfiles v.settings it.profiles) (closed_set v) (closables v.features)
    (λ id c some. record { some = λ empty. both_ways (is_empty (closed_set v id)) some empty; known = closed_within h v id r }))
