-- The names are those of profiles of the settings.
use Rattle.std.proofs.Common.{◌≡◌, List, ℕ, length, Option, Some, None, sym, IfSome, IsTrue}
use Rattle.venue_types.specs.declared.profile_set.ProfileSet.{ProfileSet}
use Rattle.venue_types.specs.declared.settings.Settings.{Settings}
use Rattle.venue_types.specs.ProfileSets.{is_within}
use Rattle.venue_history.specs.Named.{set_of_names}
use Rattle.venue_history.proofs.Naming.{named_within}
use Rattle.venue_state.proofs.profile_names.named_set.Goals as goal

known : (settings : Settings) (names : List (List ℕ)) (o : Option ProfileSet) → o ≡ set_of_names settings names → IfSome o (λ set. IsTrue (is_within (length settings.profiles) set))
known settings names None e = tt
known settings names (Some set) e = named_within settings (Some names) set (sym e)

pub returns-in-Some-clause-known : goal.returns-in-Some-clause-known
returns-in-Some-clause-known c = known c.args.settings.now _ c.set_of_names.result c.set_of_names.ensures
