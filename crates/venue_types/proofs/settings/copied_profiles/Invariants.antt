use Rattle.std.proofs.Common.{◌≡◌, take}
use Rattle.venue_types.proofs.settings.copied_profiles.Given as goal

abbrev pub invariant-loop-profile : goal.invariant-loop-profile
invariant-loop-profile l = l.copies ≡ take l.profile-index l.profiles
