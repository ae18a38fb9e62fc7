-- Records that may not follow, by the one entry for which each stands.
use Rattle.std.proofs.Common.{◌≡◌, ℕ, ◌≤◌, List, [], ◌∷◌, ◌++◌, Option, Some, None, length, refl, sym, ◌∙◌, ap, subst}
use Rattle.std.proofs.Math.Logic.{∥∥₁_elim}
use Rattle.std.specs.Arc.{arc_value}
use Rattle.std.specs.declared.alloc.Global.{Global}
use Rattle.std.specs.declared.sync.Arc.{Arc}
use mathlib.Core.HLevel.{⊥_prop}
use Rattle.venue_types.specs.declared.feature_id.FeatureId.{FeatureId}
use Rattle.venue_types.specs.declared.files.Files.{Files}
use Rattle.venue_types.specs.declared.profile_set.ProfileSet.{ProfileSet}
use Rattle.venue_types.specs.declared.settings.Settings.{Settings}
use Rattle.venue_hall.specs.Act.{Act}
use Rattle.venue_hall.specs.Act.TheVariants.{Published, Closed, Reopened}
use Rattle.venue_hall.specs.Built.{IsVenueOf}
use Rattle.venue_hall.specs.Closed.{Version}
use Rattle.venue_hall.specs.Closing.{Closing}
use Rattle.venue_hall.specs.Entry.{Entry}
use Rattle.venue_hall.specs.Histories.{IsLegal, IsPublished, Replays}
use Rattle.venue_hall.specs.Records.{Logged, published, closed, reopened}
use Rattle.venue_hall.specs.Report.{AreValid}
use Rattle.venue_hall.specs.Standing.{StandsFor, StandsForAct}
use Rattle.venue_hall.specs.Venues.{SeenVenue as Venue}
use Rattle.venue_hall.specs.Versions.{Fits, MayFollow, after}
use Rattle.board_copies.specs.declared.resuming.Resuming.{Resuming}
use Rattle.board_copies.specs.Resumes.{EntersBehind}
use Rattle.board_copies.specs.Stamps.{entries_of}
use Rattle.journal_restore.specs.Judging.{Grows, IsJudged, Makes, MayNotFollow}

-- a feature and a set, by what is kept of them
closing_is : (it : Closing) (feature : FeatureId) (profiles : ProfileSet) → it.feature ≡ feature → it.profiles.0 ≡ profiles.0
    → it ≡ record { feature = feature; profiles = profiles }
closing_is it feature profiles same set =
    let first : it ≡ record { feature = feature; profiles = it.profiles } = ap (λ (f : FeatureId). record { feature = f; profiles = it.profiles }) same in
    first ∙ ap (λ (n : ℕ). record { feature = feature; profiles = record { 0 = n } }) set

-- the act for which a closure stands, or a reopening
pub closed_act : (settings : Settings) (act : Act) (feature : FeatureId) (profiles : ProfileSet) → StandsForAct settings (closed feature profiles.0) act
    → act ≡ Closed (record { feature = feature; profiles = profiles })
closed_act settings (Published venue) feature profiles stands = absurd stands
closed_act settings (Closed it) feature profiles stands = ap Closed (closing_is it feature profiles stands.0 stands.1)
closed_act settings (Reopened it) feature profiles stands = absurd stands

pub reopened_act : (settings : Settings) (act : Act) (feature : FeatureId) (profiles : ProfileSet) → StandsForAct settings (reopened feature profiles.0) act
    → act ≡ Reopened (record { feature = feature; profiles = profiles })
reopened_act settings (Published venue) feature profiles stands = absurd stands
reopened_act settings (Closed it) feature profiles stands = absurd stands
reopened_act settings (Reopened it) feature profiles stands = ap Reopened (closing_is it feature profiles stands.0 stands.1)

entry_is : (entry : Entry) (worker : ℕ) (act : Act) → worker ≡ entry.worker → entry.act ≡ act → entry ≡ record { worker = worker; act = act }
entry_is entry worker act same done =
    let first : entry ≡ record { worker = worker; act = entry.act } = ap (λ (n : ℕ). record { worker = n; act = entry.act }) (sym same) in
    first ∙ ap (λ (a : Act). record { worker = worker; act = a }) done

-- where the one entry makes no legal history, none does
one_entry : (settings : Settings) (kept : Logged) (entries : List Entry) (only : Entry) → ((entry : Entry) → StandsFor settings kept entry → entry ≡ only)
    → ¬ IsLegal (entries ++ only ∷ []) → MayNotFollow settings kept entries
one_entry settings kept entries only one not entry stands legal =
    not (subst (λ (e : Entry). IsLegal (entries ++ e ∷ [])) (one entry stands) legal)

pub closed_unfit : (settings : Settings) (entries : List Entry) (worker : ℕ) (feature : FeatureId) (profiles : ProfileSet)
    → ¬ IsLegal (entries ++ record { worker = worker; act = Closed (record { feature = feature; profiles = profiles }) } ∷ [])
    → MayNotFollow settings (record { worker = worker; act = closed feature profiles.0 }) entries
closed_unfit settings entries worker feature profiles not =
    let act = Closed (record { feature = feature; profiles = profiles }) in
    one_entry settings (record { worker = worker; act = closed feature profiles.0 }) entries (record { worker = worker; act = act })
    (λ (entry : Entry) stands. entry_is entry worker act stands.worker (closed_act settings entry.act feature profiles stands.act)) not

pub reopened_unfit : (settings : Settings) (entries : List Entry) (worker : ℕ) (feature : FeatureId) (profiles : ProfileSet)
    → ¬ IsLegal (entries ++ record { worker = worker; act = Reopened (record { feature = feature; profiles = profiles }) } ∷ [])
    → MayNotFollow settings (record { worker = worker; act = reopened feature profiles.0 }) entries
reopened_unfit settings entries worker feature profiles not =
    let act = Reopened (record { feature = feature; profiles = profiles }) in
    one_entry settings (record { worker = worker; act = reopened feature profiles.0 }) entries (record { worker = worker; act = act })
    (λ (entry : Entry) stands. entry_is entry worker act stands.worker (reopened_act settings entry.act feature profiles stands.act)) not

-- files that make no venue stand for no entry
none_act : (settings : Settings) (files : Files) (act : Act) → ((venue : Venue) → IsVenueOf files settings venue → ⊥)
    → StandsForAct settings (published files.slots) act → ⊥
none_act settings files (Published venue) none stands = none (arc_value venue) stands
none_act settings files (Closed it) none stands = stands
none_act settings files (Reopened it) none stands = stands

pub rejected_unfit : (settings : Settings) (entries : List Entry) (worker : ℕ) (files : Files) → ((venue : Venue) → IsVenueOf files settings venue → ⊥)
    → MayNotFollow settings (record { worker = worker; act = published files.slots }) entries
rejected_unfit settings entries worker files none entry stands legal = none_act settings files entry.act none stands.act

-- files make one venue, so a publication that may follow may be made with any handle to it
abbrev pub OneVenue : Type 0
OneVenue = (files : Files) (settings : Settings) (one other : Venue) → length files.slots ≡ 17 → IsVenueOf files settings one → IsVenueOf files settings other → one ≡ other

abbrev pub MayEnter : Type 0
MayEnter = (h : List Entry) (v : Version) (e : Entry) → Replays h v → MayFollow v e → Replays (h ++ e ∷ []) (after v e.act)

abbrev pub MayHave : Type 0
MayHave = (h k : List Entry) (e : Entry) (v : Version) → Replays h v → IsLegal (h ++ e ∷ k) → ∥ MayFollow v e ∥₁

other_fits : (settings : Settings) (files : Files) (v : Version) (act : Act) (venue : Arc Venue Global) → OneVenue → length files.slots ≡ 17
    → IsVenueOf files settings (arc_value venue) → StandsForAct settings (published files.slots) act → Fits v act → Fits v (Published venue)
other_fits settings files v (Published other) venue one seventeen makes stands fits =
    subst (λ (w : Venue). (w.settings ≡ v.settings) × AreValid w.features v.settings)
    (one files settings (arc_value other) (arc_value venue) seventeen stands makes) fits
other_fits settings files v (Closed it) venue one seventeen makes stands fits = absurd stands
other_fits settings files v (Reopened it) venue one seventeen makes stands fits = absurd stands

other_follows : (settings : Settings) (files : Files) (worker : ℕ) (v : Version) (entry : Entry) (venue : Arc Venue Global) → OneVenue → length files.slots ≡ 17
    → IsVenueOf files settings (arc_value venue) → StandsFor settings (record { worker = worker; act = published files.slots }) entry
    → MayFollow v entry → MayFollow v (record { worker = worker; act = Published venue })
other_follows settings files worker v entry venue one seventeen makes stands may = record {
  room = may.room;
  worker_some = subst (λ (n : ℕ). 1 ≤ n) (sym stands.worker) may.worker_some;
  worker_range = subst (λ (n : ℕ). n ≤ 16) (sym stands.worker) may.worker_range;
  fits = other_fits settings files v entry.act venue one seventeen makes stands.act may.fits;
}

pub published_unfit : (settings : Settings) (entries : List Entry) (v : Version) (worker : ℕ) (files : Files) (venue : Arc Venue Global)
    → OneVenue → MayEnter → MayHave → length files.slots ≡ 17 → IsVenueOf files settings (arc_value venue) → Replays entries v
    → ¬ IsLegal (entries ++ record { worker = worker; act = Published venue } ∷ [])
    → MayNotFollow settings (record { worker = worker; act = published files.slots }) entries
published_unfit settings entries v worker files venue one enter have seventeen makes stands not entry is legal =
    let ours : Entry = record { worker = worker; act = Published venue } in
    ∥∥₁_elim (have entries [] entry v stands legal) ⊥_prop
    (λ (may : MayFollow v entry). not (enter entries v ours stands (other_follows settings files worker v entry venue one seventeen makes is may)).legal)

-- a first record that isn't a publication, or not by worker 0
abbrev pub FirstPublished : Type 0
FirstPublished = (e : Entry) (k : List Entry) → IsLegal (e ∷ k) → (venue : Venue) × IsPublished venue e.act

abbrev pub FirstWorker : Type 0
FirstWorker = (e : Entry) (k : List Entry) → IsLegal (e ∷ k) → e.worker ≡ 0

closed_first : (settings : Settings) (act : Act) (feature : FeatureId) (profiles : ℕ) (venue : Venue) → StandsForAct settings (closed feature profiles) act
    → IsPublished venue act → ⊥
closed_first settings (Published it) feature profiles venue stands is = stands
closed_first settings (Closed it) feature profiles venue stands is = is
closed_first settings (Reopened it) feature profiles venue stands is = is

reopened_first : (settings : Settings) (act : Act) (feature : FeatureId) (profiles : ℕ) (venue : Venue) → StandsForAct settings (reopened feature profiles) act
    → IsPublished venue act → ⊥
reopened_first settings (Published it) feature profiles venue stands is = stands
reopened_first settings (Closed it) feature profiles venue stands is = is
reopened_first settings (Reopened it) feature profiles venue stands is = is

pub closed_opens_nothing : (settings : Settings) (worker : ℕ) (feature : FeatureId) (profiles : ℕ) → FirstPublished
    → MayNotFollow settings (record { worker = worker; act = closed feature profiles }) []
closed_opens_nothing settings worker feature profiles first entry stands legal =
    let is = first entry [] legal in closed_first settings entry.act feature profiles is.0 stands.act is.1

pub reopened_opens_nothing : (settings : Settings) (worker : ℕ) (feature : FeatureId) (profiles : ℕ) → FirstPublished
    → MayNotFollow settings (record { worker = worker; act = reopened feature profiles }) []
reopened_opens_nothing settings worker feature profiles first entry stands legal =
    let is = first entry [] legal in reopened_first settings entry.act feature profiles is.0 stands.act is.1

pub opened_by_another : (settings : Settings) (kept : Logged) → FirstWorker → (kept.worker ≡ 0 → ⊥) → MayNotFollow settings kept []
opened_by_another settings kept first other entry stands legal = other (stands.worker ∙ first entry [] legal)

-- the venue that files make, as a call has answered it
pub venue_made : (settings given : Settings) (files : Files) (venue : Arc Venue Global) (made : Option (Arc Venue Global)) → made ≡ Some venue → given ≡ settings
    → Makes files given made → IsVenueOf files settings (arc_value venue)
venue_made settings given files venue made is same makes =
    subst (λ (s : Settings). IsVenueOf files s (arc_value venue)) same (subst (Makes files given) is makes)

pub none_made : (settings given : Settings) (files : Files) (made : Option (Arc Venue Global)) → made ≡ None → given ≡ settings
    → Makes files given made → (venue : Venue) → IsVenueOf files settings venue → ⊥
none_made settings given files made is same makes =
    subst (λ (s : Settings). (venue : Venue) → IsVenueOf files s venue → ⊥) same (subst (Makes files given) is makes)

-- a publication that was tried with one handle
pub published_judged : (settings given : Settings) (entries front : List Entry) (v : Version) (worker : ℕ) (files : Files) (venue : Arc Venue Global)
    → OneVenue → MayEnter → MayHave → length files.slots ≡ 17 → IsVenueOf files settings (arc_value venue) → Replays entries v
    → front ≡ entries → given ≡ settings → (longer : Option Resuming) → EntersBehind front given (record { worker = worker; act = Published venue }) longer
    → IsJudged settings (record { worker = worker; act = published files.slots }) entries longer
published_judged settings given entries front v worker files venue one enter have seventeen makes stands same under None added =
    published_unfit settings entries v worker files venue one enter have seventeen makes stands
    (subst (λ (h : List Entry). ¬ IsLegal (h ++ record { worker = worker; act = Published venue } ∷ [])) same added)
published_judged settings given entries front v worker files venue one enter have seventeen makes stands same under (Some new) added = (
  record {
    entry = record { worker = worker; act = Published venue };
    stands = record { worker = refl; act = makes };
    grown = subst (λ (h : List Entry). entries_of new.stamp ≡ h ++ record { worker = worker; act = Published venue } ∷ []) same added.0;
  },
  added.1 ∙ under,
)

pub opens : (settings : Settings) (worker : ℕ) (files : Files) (venue : Arc Venue Global) (new : List Entry) → worker ≡ 0
    → IsVenueOf files settings (arc_value venue) → new ≡ record { worker = 0; act = Published venue } ∷ []
    → Grows settings (record { worker = worker; act = published files.slots }) [] new
opens settings worker files venue new zero makes one =
    record { entry = record { worker = 0; act = Published venue }; stands = record { worker = zero; act = makes }; grown = one }
