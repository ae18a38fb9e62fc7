use Rattle.std.proofs.Common.{rules, ◌≡◌, None, ◌∙◌}
use Rattle.toml.specs.View.{table_view}
use Rattle.venue_settings.specs.Faults.{first_fault, first_of, table_faults}
use Rattle.venue_settings.specs.Judged.{IsFault}
use Rattle.venue_settings.specs.Keys.{settings_rows}
use Rattle.venue_settings.proofs.Whole.{first_fault-keys, first_fault-later, later_faults}
use Rattle.venue_settings.proofs.settings.settings_in.Goals as goal

pub returns-in_err-judge_settings-clause-judged : goal.returns-in_err-judge_settings-clause-judged
returns-in_err-judge_settings-clause-judged c =
    let here : IsFault (first_of (table_faults settings_rows (table_view c.args.table.now))) c.in_err-judge_settings.field-0.0 = c.in_err-judge_settings.ensures.judged in
    let found : IsFault (first_fault (table_view c.args.table.now)) c.in_err-judge_settings.field-0.0 = λ known. first_fault-keys _ _ (here known) in
    search (rules, found)

pub returns-in_err-profiles-clause-judged : goal.returns-in_err-profiles-clause-judged
returns-in_err-profiles-clause-judged c =
    let good : first_of (table_faults settings_rows (table_view c.args.table.now)) ≡ None = c.in_ok-judge_settings.ensures.judged in
    let here : IsFault (first_of (later_faults (table_view c.args.table.now))) c.in_err-profiles.field-0.0 = c.in_err-profiles.ensures.judged in
    let found : IsFault (first_fault (table_view c.args.table.now)) c.in_err-profiles.field-0.0 = λ known. first_fault-later _ good ∙ here known in
    search (rules, found)

pub returns-clause-judged : goal.returns-clause-judged
returns-clause-judged c =
    let good : first_of (table_faults settings_rows (table_view c.args.table.now)) ≡ None = c.in_ok-judge_settings.ensures.judged in
    first_fault-later _ good ∙ c.in_ok-profiles.ensures.judged
