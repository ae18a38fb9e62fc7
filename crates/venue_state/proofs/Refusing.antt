-- An act that is refused may not follow.
use Rattle.std.proofs.Common.{◌≡◌, ◌≢◌, ℕ, refl, subst, arith}
use Rattle.std.specs.Prelude.{IsTrue}
use Rattle.std.proofs.lemmas.Bool.{both_ways}
use Rattle.venue_types.specs.declared.profile_set.ProfileSet.{ProfileSet}
use Rattle.venue_types.specs.ProfileSets.{has, nobody, has_any_of}
use Rattle.venue_types.proofs.ProfileSetLemmas.{has_nobody, none_from}
use Rattle.route_search.specs.Nodes.{closables}
use Rattle.venue_history.specs.declared.entry.Act.{Act}
use Rattle.venue_history.specs.declared.entry.Act.TheVariants.{Published, Closed, Reopened}
use Rattle.venue_history.specs.Closed.{Version, closed_set}
use Rattle.venue_history.specs.Versions.{closings, Fits, MayFollow}
use Rattle.venue_state.specs.Preparing.{HasSettings, LacksFeature, IsUnready}
use Rattle.venue_state.specs.declared.unready.Unready.{Unready}
use Rattle.venue_state.specs.declared.unready.Unready.TheVariants as unready
use Rattle.venue_state.proofs.NextEntries.{not_done}
use Rattle.venue_state.proofs.Replying.{never_closed}

nobody_any : (set : ProfileSet) → IsTrue (has_any_of nobody set) → ⊥
nobody_any set any = none_from nobody set (λ k in_set in_nobody. both_ways (has k nobody) (has_nobody k) in_nobody) any

-- an act that fits names a feature that can be closed, where what is closed is so in the order of these
lacking : (v : Version) (a : Act) → v.closed ≡ closings (closed_set v) (closables v.features) → Fits v a → LacksFeature v a → ⊥
lacking v (Published venue) order fits lacks = lacks
lacking v (Closed it) order fits lacks = lacks fits.1
lacking v (Reopened it) order fits lacks =
    nobody_any it.profiles (subst (λ (set : ProfileSet). IsTrue (has_any_of set it.profiles)) (never_closed (closables v.features) v.closed it.feature order lacks) fits.1)

-- what is refused for another cause than want of memory may not follow
pub refused : (v : Version) (worker : ℕ) (a : Act) (why : Unready) → v.closed ≡ closings (closed_set v) (closables v.features) → why ≢ unready.OutOfMemory
    → IsUnready v a why → MayFollow v (record { worker = worker; act = a }) → ⊥
refused v worker a unready.NoFeature order free is may = lacking v a order may.fits is
refused v worker a unready.Unchanged order free is may = not_done v a may.fits is
refused v worker a unready.Full order free is may = let room = may.room in let last = is.2 in absurd (omega (arith, room, last))
refused v worker a unready.OutOfMemory order free is may = free refl

-- what fits is under the version's settings
pub fit_settings : (v : Version) (a : Act) → Fits v a → HasSettings v a
fit_settings v (Published venue) fits = fits.0
fit_settings v (Closed it) fits = fits.0
fit_settings v (Reopened it) fits = fits.0
