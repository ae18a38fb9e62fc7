-- What a legal history says of an entry that stands behind those that lead to a version.
use Rattle.std.proofs.Common.{◌≡◌, ◌≤◌, List, [], ◌∷◌, ◌++◌, refl, subst, arith, Some}
use Rattle.std.proofs.Math.Logic.{∥∥₁_map, ∥∥₁_elim}
use Rattle.std.proofs.Props.{props}
use Rattle.std.proofs.lemmas.Option.{same_Some}
use Rattle.std.proofs.lemmas.List.Elements.{All-contains}
use Rattle.std.specs.Prelude.{All, Contains}
use mathlib.Core.HLevel.{⊥_prop}
use Rattle.venue_types.specs.declared.profile_set.ProfileSet.{ProfileSet}
use Rattle.venue_types.specs.declared.settings.Settings.{Settings}
use Rattle.route_search.specs.Nodes.{closables}
use Rattle.venue_history.specs.declared.entry.Act.{Act}
use Rattle.venue_history.specs.declared.entry.Act.TheVariants.{Published, Closed, Reopened}
use Rattle.venue_history.specs.declared.entry.Entry.{Entry}
use Rattle.venue_history.specs.Closed.{Version, closed_ids}
use Rattle.venue_history.specs.Histories.{after_all, MayAllFollow, replay_from, IsLegalFrom, KeepsTheRules, IsLegal, Replays}
use Rattle.venue_history.specs.Versions.{AreProfiles, Fits, MayFollow, after}
use Rattle.venue_state.specs.Preparing.{HasSettings, LacksFeature, IsDone, IsUnready}
use Rattle.venue_state.specs.declared.unready.Unready.{Unready}
use Rattle.venue_state.specs.declared.unready.Unready.TheVariants as unready
use Rattle.venue_state.proofs.Replying.{listed_any}

all_may : (v : Version) (es k : List Entry) (e : Entry) → MayAllFollow v (es ++ e ∷ k) → MayFollow (after_all v es) e
all_may v [] k e all = all.0
all_may v (d ∷ es) k e all = all_may (after v d.act) es k e all.1

act_may : (a : Act) (es k : List Entry) (e : Entry) (v : Version) → replay_from a es ≡ Some v → IsLegalFrom a (es ++ e ∷ k) → MayFollow v e
act_may (Published venue) es k e v leads legal = subst (λ (u : Version). MayFollow u e) (same_Some (after_all _ es) v leads) (all_may _ es k e legal.1)
act_may (Closed it) es k e v leads legal = absurd legal
act_may (Reopened it) es k e v leads legal = absurd legal

-- the next entry of a legal history may be made
pub next_may : (h k : List Entry) (e : Entry) (v : Version) → Replays h v → IsLegal (h ++ e ∷ k) → ∥ MayFollow v e ∥₁
next_may [] k e v stands legal = absurd (cc stands.leads)
next_may (d ∷ es) k e v stands legal = ∥∥₁_map legal (λ (rules : KeepsTheRules (d ∷ (es ++ e ∷ k))). act_may d.act es k e v stands.leads rules.1)

-- a worker makes it
pub next_worker_some : (h k : List Entry) (e : Entry) (v : Version) → Replays h v → IsLegal (h ++ e ∷ k) → 1 ≤ e.worker
next_worker_some h k e v stands legal = ∥∥₁_elim (next_may h k e v stands legal) (hlevel props) (λ (m : MayFollow v e). m.worker_some)

pub next_worker_range : (h k : List Entry) (e : Entry) (v : Version) → Replays h v → IsLegal (h ++ e ∷ k) → e.worker ≤ 16
next_worker_range h k e v stands legal = ∥∥₁_elim (next_may h k e v stands legal) (hlevel props) (λ (m : MayFollow v e). m.worker_range)

known_profiles : (settings : Settings) (set : ProfileSet) → ∥ AreProfiles settings set ∥₁ → AreProfiles settings set
known_profiles settings set are = record {
  some = λ empty. ∥∥₁_elim are ⊥_prop (λ (p : AreProfiles settings set). p.some empty);
  known = ∥∥₁_elim are (hlevel props) (λ (p : AreProfiles settings set). p.known);
}

fits_settings : (v : Version) (a : Act) → ∥ Fits v a ∥₁ → HasSettings v a
fits_settings v (Published venue) fits = ∥∥₁_elim fits (hlevel props) (λ (f : Fits v (Published venue)). f.0)
fits_settings v (Closed it) fits = known_profiles v.settings it.profiles (∥∥₁_map fits (λ (f : Fits v (Closed it)). f.0))
fits_settings v (Reopened it) fits = known_profiles v.settings it.profiles (∥∥₁_map fits (λ (f : Fits v (Reopened it)). f.0))

-- a venue that it publishes has the version's settings, and a closure is for profiles of these
pub next_settings : (h k : List Entry) (e : Entry) (v : Version) → Replays h v → IsLegal (h ++ e ∷ k) → HasSettings v e.act
next_settings h k e v stands legal = fits_settings v e.act (∥∥₁_map (next_may h k e v stands legal) (λ (m : MayFollow v e). m.fits))

not_lacking : (v : Version) (a : Act) → All (Contains (closables v.features)) (closed_ids v) → Fits v a → LacksFeature v a → ⊥
not_lacking v (Published venue) all fits lacks = lacks
not_lacking v (Closed it) all fits lacks = lacks fits.1
not_lacking v (Reopened it) all fits lacks =
    lacks (All-contains (Contains (closables v.features)) (closed_ids v) it.feature all (listed_any v.closed it.feature it.profiles fits.1))

pub not_done : (v : Version) (a : Act) → Fits v a → IsDone v a → ⊥
not_done v (Published venue) fits done = done
not_done v (Closed it) fits done = fits.2 done.1
not_done v (Reopened it) fits done = done.1 fits.1

-- only want of memory keeps it from being made ready
pub next_unready : (h k : List Entry) (e : Entry) (v : Version) (why : Unready) → All (Contains (closables v.features)) (closed_ids v)
    → Replays h v → IsLegal (h ++ e ∷ k) → IsUnready v e.act why → why ≡ unready.OutOfMemory
next_unready h k e v unready.NoFeature all stands legal is =
    absurd (∥∥₁_elim (next_may h k e v stands legal) ⊥_prop (λ (m : MayFollow v e). not_lacking v e.act all m.fits is))
next_unready h k e v unready.Unchanged all stands legal is =
    absurd (∥∥₁_elim (next_may h k e v stands legal) ⊥_prop (λ (m : MayFollow v e). not_done v e.act m.fits is))
next_unready h k e v unready.Full all stands legal is =
    absurd (∥∥₁_elim (next_may h k e v stands legal) ⊥_prop (λ (m : MayFollow v e). let room = m.room in let last = is.2 in absurd (omega (arith, room, last))))
next_unready h k e v unready.OutOfMemory all stands legal is = refl
