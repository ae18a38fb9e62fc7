-- The profiles are those of the settings that stand.
use Rattle.std.proofs.Common.{sym, subst}
use Rattle.std.specs.Prelude.{◌↔◌, IsTrue}
use Rattle.venue_types.specs.declared.settings.Settings.{Settings}
use Rattle.venue_history.specs.declared.entry.Act.{Act}
use Rattle.venue_history.specs.Versions.{AreProfiles}
use Rattle.venue_state.specs.Boards.{version_of}
use Rattle.venue_state.specs.Preparing.{HasSettings}
use Rattle.venue_state.proofs.act_checks.has_settings.Goals as goal

pub returns-in-Closed : goal.returns-in-Closed
unfolding version_of
returns-in-Closed c =
    subst (λ (a : Act). IsTrue c.are_profiles.result ↔ HasSettings (version_of c.args.stand.now) a) (sym c.in-Closed.is)
    (subst (λ (s : Settings). IsTrue c.are_profiles.result ↔ AreProfiles s c.in-Closed.it.profiles) c.deref.ensures c.are_profiles.ensures)

pub returns-in-Reopened : goal.returns-in-Reopened
unfolding version_of
returns-in-Reopened c =
    subst (λ (a : Act). IsTrue c.are_profiles-in-Reopened.result ↔ HasSettings (version_of c.args.stand.now) a) (sym c.in-Reopened.is)
    (subst (λ (s : Settings). IsTrue c.are_profiles-in-Reopened.result ↔ AreProfiles s c.in-Reopened.it.profiles) c.deref-in-Reopened.ensures c.are_profiles-in-Reopened.ensures)
