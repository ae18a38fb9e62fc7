use Rattle.std.proofs.Common.{◌∙◌}
use Rattle.std.proofs.lemmas.List.{length-map}
use Rattle.std.proofs.lemmas.List.Folds.{list_all-map}
use Rattle.venue_settings.proofs.judge.judge_profile_list.Goals as goal

pub returns : goal.returns
returns c = c.judge.ensures ∙ rw (c.are_tables.ensures, c.between.ensures) (simp (list_all-map, length-map))
