-- The settings and the rows of every version to which a history leads.
use Rattle.std.proofs.Common.{◌≡◌, ◌∙◌, List, [], ◌∷◌, refl, sym, ap, subst, arith, Some}
use Rattle.std.proofs.Math.Logic.{∥∥₁_map, ∥∥₁_elim}
use Rattle.std.proofs.Props.{props}
use Rattle.std.proofs.lemmas.List.Elements.{All-cons, All-contains}
use Rattle.std.specs.Prelude.{All, Contains}
use Rattle.std.specs.Arc.{arc_value}
use Rattle.std.proofs.lemmas.Option.{same_Some}
use Rattle.venue_build.specs.Venues.{SeenVenue as Venue}
use Rattle.venue_build.specs.Report.{AreValid}
use Rattle.venue_types.specs.declared.settings.Settings.{Settings}
use Rattle.venue_history.specs.declared.entry.Entry.{Entry}
use Rattle.venue_history.specs.declared.entry.Act.{Act}
use Rattle.venue_history.specs.declared.entry.Act.TheVariants.{Published, Closed, Reopened}
use Rattle.venue_history.specs.Closed.{Version}
use Rattle.venue_history.specs.Versions.{Fits, after}
use Rattle.venue_history.specs.Histories.{after_all, MayAllFollow, opening_of, replay_from, IsLegalFrom, KeepsTheRules, IsPublished, Replays}

after_settings : (v : Version) (a : Act) → (after v a).settings ≡ v.settings
after_settings v (Published venue) = refl
after_settings v (Closed it) = refl
after_settings v (Reopened it) = refl

all_settings : (v : Version) (es : List Entry) → (after_all v es).settings ≡ v.settings
all_settings v [] = refl
all_settings v (e ∷ es) = all_settings (after v e.act) es ∙ after_settings v e.act

-- the settings are those of the venue that was published first
pub replay_settings : (a : Act) (venue : Venue) (es : List Entry) (v : Version) → replay_from a es ≡ Some v → IsPublished venue a → v.settings ≡ venue.settings
replay_settings (Published first) venue es v r o = ap (λ (w : Version). w.settings) (sym (same_Some (after_all _ es) v r)) ∙ (all_settings _ es ∙ ap (λ (w : Venue). w.settings) o)
replay_settings (Closed it) venue es v r o = absurd o
replay_settings (Reopened it) venue es v r o = absurd o

after_valid : (v : Version) (a : Act) → AreValid v.features v.settings → Fits v a → AreValid (after v a).features (after v a).settings
after_valid v (Published venue) valid fits = fits.1
after_valid v (Closed it) valid fits = valid
after_valid v (Reopened it) valid fits = valid

all_valid : (v : Version) (es : List Entry) → AreValid v.features v.settings → MayAllFollow v es → AreValid (after_all v es).features (after_all v es).settings
all_valid v [] valid l = valid
all_valid v (e ∷ es) valid l = all_valid (after v e.act) es (after_valid v e.act valid l.0.fits) l.1

act_valid : (a : Act) (es : List Entry) (v : Version) → replay_from a es ≡ Some v → IsLegalFrom a es → AreValid v.features v.settings
act_valid (Published venue) es v r l = subst (λ (w : Version). AreValid w.features w.settings) (same_Some (after_all _ es) v r) (all_valid _ es l.0 l.1)
act_valid (Closed it) es v r l = absurd l
act_valid (Reopened it) es v r l = absurd l

-- every phase accepts the rows
pub replay_valid : (h : List Entry) (v : Version) → Replays h v → ∥ AreValid v.features v.settings ∥₁
replay_valid [] v r = absurd (cc r.leads)
replay_valid (e ∷ es) v r = ∥∥₁_map r.legal (λ (k : KeepsTheRules (e ∷ es)). act_valid e.act es v r.leads k.1)

-- the act is a publication under these settings
IsUnder : Settings → Entry → Type 0
IsUnder settings e = (venue : Venue) → IsPublished venue e.act → venue.settings ≡ settings

fit_settings : (v : Version) (a : Act) (venue : Venue) → Fits v a → IsPublished venue a → venue.settings ≡ v.settings
fit_settings v (Published it) venue fits is = ap (λ (w : Venue). w.settings) (sym is) ∙ fits.0
fit_settings v (Closed it) venue fits is = absurd is
fit_settings v (Reopened it) venue fits is = absurd is

all_under : (v : Version) (es : List Entry) → MayAllFollow v es → All (IsUnder v.settings) es
unfolding IsUnder
all_under v [] l = λ k d below. absurd (omega arith)
all_under v (e ∷ es) l =
    All-cons (IsUnder v.settings) e es (λ venue is. fit_settings v e.act venue l.0.fits is)
    (subst (λ (s : Settings). All (IsUnder s) es) (after_settings v e.act) (all_under (after v e.act) es l.1))

act_under : (a : Act) (e : Entry) (es : List Entry) (v : Version) → e.act ≡ a → replay_from a es ≡ Some v → IsLegalFrom a es → All (IsUnder v.settings) (e ∷ es)
unfolding IsUnder
act_under (Published first) e es v same r l =
    let end = ap (λ (w : Version). w.settings) (same_Some (after_all (opening_of (arc_value first)) es) v r) in
    let settings : (arc_value first).settings ≡ v.settings = sym (all_settings (opening_of (arc_value first)) es) ∙ end in
    All-cons (IsUnder v.settings) e es
    (λ venue is. ap (λ (w : Venue). w.settings) (sym (subst (IsPublished venue) same is)) ∙ settings)
    (subst (λ (s : Settings). All (IsUnder s) es) settings (all_under (opening_of (arc_value first)) es l.1))
act_under (Closed it) e es v same r l = absurd l
act_under (Reopened it) e es v same r l = absurd l

-- every venue that the history publishes has the settings
pub replay_under : (h : List Entry) (v : Version) (e : Entry) (venue : Venue) → Replays h v → Contains h e → IsPublished venue e.act → venue.settings ≡ v.settings
unfolding IsUnder
replay_under [] v e venue r has is = absurd (cc r.leads)
replay_under (d ∷ es) v e venue r has is =
    ∥∥₁_elim r.legal (hlevel props)
    (λ (k : KeepsTheRules (d ∷ es)). All-contains (IsUnder v.settings) (d ∷ es) e (act_under d.act d es v refl r.leads k.1) has venue is)
