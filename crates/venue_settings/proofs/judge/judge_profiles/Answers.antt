use Rattle.std.proofs.Common.{◌∙◌}
use Rattle.venue_settings.specs.Values.{judged_profile_list}
use Rattle.venue_settings.proofs.Lists.{on_list_is}
use Rattle.venue_settings.proofs.judge.judge_profiles.Goals as goal

pub returns-in-Some : goal.returns-in-Some
returns-in-Some c = rw c.deref.ensures.value at c.judge_profile_list.ensures ∙ on_list_is (judged_profile_list c.args.low c.args.high) c.in-Some.values.now.items _ c.in-Some.ensures
