-- What each act does to what is closed, for each feature.
use Rattle.std.proofs.Common.{◌≡◌, ◌∙◌, ℕ, List, refl, sym, ap, subst, Bool, true, false}
use Rattle.std.specs.Prelude.{◌||◌, ◌&&◌, not, if◌then◌else◌}
use Rattle.std.specs.List.{Contains}
use Rattle.std.proofs.lemmas.Bool.{both_ways}
use Rattle.venue_types.specs.declared.feature_id.FeatureId.{FeatureId}
use Rattle.venue_types.specs.declared.features.Features.{Features}
use Rattle.venue_types.specs.declared.profile_set.ProfileSet.{ProfileSet}
use Rattle.venue_types.specs.ProfileSets.{has, nobody, joined, without}
use Rattle.venue_types.proofs.ProfileSetLemmas.{has_joined, has_without, nobody_without}
use Rattle.venue_build.specs.Identity.{is_same}
use Rattle.venue_build.specs.Nodes.{closables}
use Rattle.venue_history.specs.declared.entry.Entry.{Entry}
use Rattle.venue_history.specs.declared.entry.Act.TheVariants.{Closed}
use Rattle.venue_history.specs.declared.entry.Closing.{Closing}
use Rattle.venue_history.specs.Closed.{Version, is_one_of, set_in, closed_set}
use Rattle.venue_history.specs.Versions.{Fits, still_closed, with_closed, without_closed, set_with, set_without}
use Rattle.venue_history.specs.Histories.{Replays}
use Rattle.venue_history.proofs.Closings.{set_in_closings}
use Rattle.venue_history.proofs.Identities.{same_eq, one_of_there}
use Rattle.venue_history.proofs.Standing.{unclosable_open}

-- a publication: what was closed and can be closed still
pub published_set : (v : Version) (features : Features) (id : FeatureId)
    → set_in (still_closed v features) id ≡ (if is_one_of (closables features) id then closed_set v id else nobody)
published_set v features id = set_in_closings (closed_set v) (closables features) id

-- where whoever isn't there has nobody's set, it is everywhere the same
every_set : (there : Bool) (set : ProfileSet) → (there ≡ false → set ≡ nobody) → (if there then set else nobody) ≡ set
every_set true set other = refl
every_set false set other = sym (other refl)

joined_other : (same : Bool) (set other : ProfileSet) → (same ≡ true → ⊥) → set ≡ nobody → (if same then joined set other else set) ≡ nobody
joined_other true set other apart none = absurd (apart refl)
joined_other false set other apart none = none

without_other : (same : Bool) (set other : ProfileSet) → set ≡ nobody → (if same then without set other else set) ≡ nobody
without_other true set other none = ap (λ (one : ProfileSet). without one other) none ∙ nobody_without other
without_other false set other none = none

-- a closure: the profiles too, for this feature
pub closure_set : (h : List Entry) (v : Version) (it : Closing) (id : FeatureId) → Replays h v → Fits v (Closed it)
    → set_in (with_closed v it) id ≡ set_with v it id
closure_set h v it id r fits =
    set_in_closings (set_with v it) (closables v.features) id
    ∙ every_set (is_one_of (closables v.features) id) (set_with v it id)
    (λ other. joined_other (is_same id it.feature) (closed_set v id) it.profiles
    (λ same. both_ways (is_one_of (closables v.features) id) other
    (one_of_there (closables v.features) id (subst (Contains (closables v.features)) (sym (same_eq id it.feature same)) fits.1)))
    (unclosable_open h v id r other))

-- a reopening: the profiles no longer, for this feature
pub reopening_set : (h : List Entry) (v : Version) (it : Closing) (id : FeatureId) → Replays h v → set_in (without_closed v it) id ≡ set_without v it id
reopening_set h v it id r =
    set_in_closings (set_without v it) (closables v.features) id
    ∙ every_set (is_one_of (closables v.features) id) (set_without v it id)
    (λ other. without_other (is_same id it.feature) (closed_set v id) it.profiles (unclosable_open h v id r other))

or_false : (t : Bool) → (t || false) ≡ t
or_false true = refl
or_false false = refl

and_true : (t : Bool) → (t && true) ≡ t
and_true true = refl
and_true false = refl

has_if_joined : (here : Bool) (set other : ProfileSet) (k : ℕ) → has k (if here then joined set other else set) ≡ (has k set || (here && has k other))
has_if_joined true set other k = has_joined set other k
has_if_joined false set other k = sym (or_false (has k set))

has_if_without : (here : Bool) (set other : ProfileSet) (k : ℕ) → has k (if here then without set other else set) ≡ (has k set && not (here && has k other))
has_if_without true set other k = has_without set other k
has_if_without false set other k = sym (and_true (has k set))

-- a closure, for each profile: closed as before, or it is that feature and one of its profiles
pub closure_has : (h : List Entry) (v : Version) (it : Closing) (id : FeatureId) (k : ℕ) → Replays h v → Fits v (Closed it)
    → has k (set_in (with_closed v it) id) ≡ (has k (closed_set v id) || (is_same id it.feature && has k it.profiles))
closure_has h v it id k r fits = ap (has k) (closure_set h v it id r fits) ∙ has_if_joined (is_same id it.feature) (closed_set v id) it.profiles k

-- a reopening, for each profile: closed as before, unless it is that feature and one of its profiles
pub reopening_has : (h : List Entry) (v : Version) (it : Closing) (id : FeatureId) (k : ℕ) → Replays h v
    → has k (set_in (without_closed v it) id) ≡ (has k (closed_set v id) && not (is_same id it.feature && has k it.profiles))
reopening_has h v it id k r = ap (has k) (reopening_set h v it id r) ∙ has_if_without (is_same id it.feature) (closed_set v id) it.profiles k
