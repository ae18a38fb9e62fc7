-- Boards that stand for their stamps' lists.
use Rattle.std.proofs.Common.{◌≡◌, List, [], ◌∷◌, refl, sym, ap, ◌∙◌, subst}
use Rattle.std.specs.Arc.{arc_value}
use Rattle.std.specs.declared.alloc.Global.{Global}
use Rattle.std.specs.declared.sync.Arc.{Arc}
use Rattle.venue_types.specs.declared.settings.Settings.{Settings}
use Rattle.venue_state.specs.Venues.{SeenVenue as Venue}
use Rattle.venue_state.specs.Report.{AreValid}
use Rattle.venue_state.specs.Act.TheVariants.{Published}
use Rattle.venue_state.specs.Entry.{Entry}
use Rattle.venue_state.specs.Closed.{Version}
use Rattle.venue_state.specs.Histories.{Replays}
use Rattle.venue_state.specs.Versions.{opening}

-- a history and its version, by other names
pub replays_so : (h k : List Entry) (v w : Version) → Replays h v → k ≡ h → w ≡ v → Replays k w
replays_so h k v w stands list version = subst (λ (u : Version). Replays k u) (sym version) (subst (λ (l : List Entry). Replays l v) (sym list) stands)

abbrev pub published : Arc Venue Global → List Entry
published venue = record { worker = 0; act = Published venue } ∷ []

first : (venue : Arc Venue Global) → AreValid (arc_value venue).features (arc_value venue).settings
    → Replays (published venue) (opening (arc_value venue).features (arc_value venue).settings)
first venue valid = record { leads = refl; legal = ∣ (refl, (valid, tt)) ∣₁ }

-- a venue's publication is a legal history, at which its first board stands
pub begins : (venue : Arc Venue Global) (settings : Settings) (v : Version) (h : List Entry) → AreValid (arc_value venue).features (arc_value venue).settings
    → (arc_value venue).settings ≡ settings → v ≡ opening (arc_value venue).features settings → h ≡ published venue → Replays h v
begins venue settings v h valid same at one =
    let stands : v ≡ opening (arc_value venue).features (arc_value venue).settings = at ∙ ap (opening (arc_value venue).features) (sym same) in
    replays_so (published venue) h (opening (arc_value venue).features (arc_value venue).settings) v (first venue valid) one stands
