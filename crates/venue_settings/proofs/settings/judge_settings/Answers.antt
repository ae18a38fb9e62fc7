use Rattle.toml.specs.View.{table_view}
use Rattle.venue_settings.proofs.Whole.{sound_if_judged}
use Rattle.venue_settings.proofs.settings.judge_settings.Goals as goal

pub returns-clause-sound : goal.returns-clause-sound
returns-clause-sound c = sound_if_judged (table_view c.args.table.now) c.judge_table.result c.judge_table.ensures
