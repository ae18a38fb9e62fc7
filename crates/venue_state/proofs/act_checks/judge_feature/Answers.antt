-- Rows in which no phase finds anything are valid.
use Rattle.std.proofs.Common.{◌≡◌, sym, subst}
use Rattle.std.specs.Arc.{arc_value}
use Rattle.venue_types.specs.declared.settings.Settings.{Settings}
use Rattle.venue_history.specs.Venues.{SeenVenue}
use Rattle.venue_history.specs.Report.{AreValid}
use Rattle.venue_history.specs.declared.entry.Act.{Act}
use Rattle.venue_history.specs.Versions.{Fits}
use Rattle.venue_state.specs.Boards.{version_of}
use Rattle.venue_state.specs.Preparing.{HasSettings}
use Rattle.venue_state.proofs.act_checks.judge_feature.Goals as goal

pub returns-in-Published-clause-fits : goal.returns-in-Published-clause-fits
returns-in-Published-clause-fits c =
    let venue = c.in-Published.venue in
    let settings : (arc_value venue).settings ≡ (version_of c.args.stand.now).settings = subst (HasSettings (version_of c.args.stand.now)) c.in-Published.is c.requires.settings in
    let own : AreValid (arc_value venue).features (arc_value venue).settings =
    subst (λ (v : SeenVenue). AreValid v.features v.settings) c.deref.ensures (record { sound = c.every_venue.ensures.sound; unbroken = c.every_venue.ensures.silent }) in
    let valid : AreValid (arc_value venue).features (version_of c.args.stand.now).settings = subst (λ (s : Settings). AreValid (arc_value venue).features s) settings own in
    subst (λ (act : Act). Fits (version_of c.args.stand.now) act) (sym c.in-Published.is) (settings, valid)
