use Rattle.std.proofs.Common.{rules, None, ◌≡◌, ◌+◌, ◌∷◌, drop, arith, ap, sym, ◌∙◌}
use Rattle.toml.specs.View.{table_view}
use Rattle.venue_settings.specs.Faults.{first_of, profile_faults, table_faults}
use Rattle.venue_settings.specs.Judged.{IsFault}
use Rattle.venue_settings.specs.Keys.{profile_rows}
use Rattle.venue_settings.proofs.Phases.{first_of-found, first_of-none, tables_of, tables_of-drop}
use Rattle.venue_settings.proofs.profiles.judge_profiles.Goals as goal

pub returns-in_err-judge_table : goal.returns-in_err-judge_table
returns-in_err-judge_table c =
    let next : tables_of (drop c.loop-value.value-index c.args.values.now) ≡ table_view c.in-Some.table.now ∷ tables_of (drop (c.loop-value.value-index + 1) c.args.values.now)
    = tables_of-drop c.args.values.now c.loop-value.value-index c.value-item.result _ (omega arith) c.value-item.is c.in-Some.ensures in
    let here : IsFault (first_of (table_faults profile_rows (table_view c.in-Some.table.now))) c.in_err-judge_table.field-0.0 = c.in_err-judge_table.ensures in
    let fault : IsFault (first_of (profile_faults (tables_of c.args.values.now))) c.in_err-judge_table.field-0.0 = λ known.
    sym c.loop-value.invariant ∙ ap (λ ts. first_of (profile_faults ts)) next ∙ first_of-found (table_faults profile_rows (table_view c.in-Some.table.now)) _ _ (here known) in
    search (rules, fault)

pub loop-value-preserved : goal.loop-value-preserved
loop-value-preserved c =
    let next : tables_of (drop c.loop-value.value-index c.args.values.now) ≡ table_view c.in-Some.table.now ∷ tables_of (drop (c.loop-value.value-index + 1) c.args.values.now)
    = tables_of-drop c.args.values.now c.loop-value.value-index c.value-item.result _ (omega arith) c.value-item.is c.in-Some.ensures in
    let good : first_of (table_faults profile_rows (table_view c.in-Some.table.now)) ≡ None = c.in_ok-judge_table.ensures in
    sym (ap (λ ts. first_of (profile_faults ts)) next ∙ first_of-none (table_faults profile_rows (table_view c.in-Some.table.now)) _ good) ∙ c.loop-value.invariant
