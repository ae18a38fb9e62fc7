use Rattle.std.proofs.Common.{rules, ◌≡◌, ◌∷◌, [], None}
use Rattle.toml.specs.View.{table_view}
use Rattle.venue_settings.specs.Faults.{first_of, profile_faults, profile_tables, twice_fault}
use Rattle.venue_settings.specs.Judged.{IsFault, IsJudged}
use Rattle.venue_settings.proofs.Phases.{first_of-found}
use Rattle.venue_settings.proofs.Whole.{judged_last, later_faults}
use Rattle.venue_settings.proofs.settings.profiles_of.Goals as goal

pub returns-in_err-judge_profiles-clause-judged : goal.returns-in_err-judge_profiles-clause-judged
returns-in_err-judge_profiles-clause-judged c =
    let tables = profile_tables (table_view c.args.table.now) in
    let here : IsFault (first_of (profile_faults tables)) c.in_err-judge_profiles.field-0.0 = rw c.list_at-values.ensures at c.in_err-judge_profiles.ensures in
    let found : IsFault (first_of (later_faults (table_view c.args.table.now))) c.in_err-judge_profiles.field-0.0 = λ known. first_of-found (profile_faults tables) (twice_fault tables ∷ []) _ (here known) in
    search (rules, found)

pub returns-clause-judged : goal.returns-clause-judged
returns-clause-judged c =
    let tables = profile_tables (table_view c.args.table.now) in
    let good : first_of (profile_faults tables) ≡ None = rw c.list_at-values.ensures at c.in_ok-judge_profiles.ensures in
    let last : IsJudged (twice_fault tables) c.all_profiles.result = rw c.list_at-values.ensures at c.all_profiles.ensures.judged in
    judged_last (profile_faults tables) (twice_fault tables) c.all_profiles.result good last
