-- What the publication of a venue opens.
use Rattle.std.proofs.Common.{◌≡◌, [], ◌∷◌, refl, sym, ap, Global}
use Rattle.std.proofs.lemmas.List.Elements.{All-contains, All-nil, All-cons}
use Rattle.std.specs.Arc.{arc_value}
use Rattle.std.specs.declared.sync.Arc.{Arc}
use Rattle.venue_build.specs.Report.{AreValid}
use Rattle.venue_build.specs.Venues.{SeenVenue as Venue}
use Rattle.venue_history.specs.declared.entry.Act.TheVariants.{Published}
use Rattle.venue_history.specs.declared.entry.Entry.{Entry}
use Rattle.venue_history.specs.Histories.{IsPublished, IsLegal}
use Rattle.venue_history.specs.Openings.{opening_history, HaveSettings}

-- a venue's publication is a legal history
pub opening_legal : (venue : Arc Venue Global) → AreValid (arc_value venue).features (arc_value venue).settings → IsLegal (opening_history venue)
opening_legal venue valid = ∣ (refl, (valid, tt)) ∣₁

-- of which the venue has its own settings
pub opening_settings : (venue : Arc Venue Global) → HaveSettings (arc_value venue).settings (opening_history venue)
opening_settings venue e other has is =
    let Same : Entry → Type 0 = λ e. (v : Venue) → IsPublished v e.act → v.settings ≡ (arc_value venue).settings in
    let opens : Entry = record { worker = 0; act = Published venue } in
    All-contains Same (opens ∷ []) e (All-cons Same opens [] (λ v same. ap (λ (u : Venue). u.settings) (sym same)) (All-nil Same)) has other is
