-- Settings have a profile.
use Rattle.std.proofs.Common.{sym, subst}
use Rattle.venue_history.specs.Versions.{AreProfiles}
use Rattle.venue_state.proofs.NamedSets.{all_are_profiles}
use Rattle.venue_state.proofs.profile_names.everybody.Goals as goal

pub returns-clause-profiles : goal.returns-clause-profiles
returns-clause-profiles c = subst (AreProfiles c.args.settings.now) (sym (cc)) (all_are_profiles c.args.settings.now)
