use Rattle.toml.specs.View.{table_view}
use Rattle.venue_settings.proofs.Whole.{few_profiles, few_staff_keys}
use Rattle.venue_settings.proofs.settings.settings_of.Goals as goal

pub invariant_of-result-clause-profiles_range : goal.invariant_of-result-clause-profiles_range
invariant_of-result-clause-profiles_range c = rw c.requires.made (few_profiles (table_view c.args.table.now) c.requires.sound)

pub invariant_of-result-clause-staff_range : goal.invariant_of-result-clause-staff_range
invariant_of-result-clause-staff_range c = rw c.requires.staff (few_staff_keys (table_view c.args.table.now) c.requires.sound)
