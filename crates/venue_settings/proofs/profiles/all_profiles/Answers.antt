use Rattle.std.proofs.Common.{rules, ◌≡◌, ◌+◌, ◌∷◌, codes, None, drop, map, option_map, arith, ap, sym, ◌∙◌}
use Rattle.toml.specs.View.{table_view}
use Rattle.venue_settings.specs.declared.fault.SettingsFault.TheVariants as fault
use Rattle.venue_settings.specs.Faults.{first_repeated, text_at, twice_fault}
use Rattle.venue_settings.specs.Judged.{IsFault}
use Rattle.venue_settings.proofs.Names.{name_of, repeats, has_name, made_next, repeated_found, repeated_next}
use Rattle.venue_settings.proofs.Phases.{tables_of, tables_of-drop}
use Rattle.venue_settings.proofs.profiles.all_profiles.Goals as goal

pub returns-in_err-add-clause-judged : goal.returns-in_err-add-clause-judged
returns-in_err-add-clause-judged c =
    let name = text_at (codes "name") (table_view c.in-Some.table.now) in
    let next : tables_of (drop c.loop-value.value-index c.args.values.now) ≡ table_view c.in-Some.table.now ∷ tables_of (drop (c.loop-value.value-index + 1) c.args.values.now)
    = tables_of-drop c.args.values.now c.loop-value.value-index c.value-item.result _ (omega arith) c.value-item.is c.in-Some.ensures in
    let here : IsFault (repeats (has_name c.loop-value.profiles name) name) c.in_err-add.field-0.0 = c.in_err-add.ensures.judged in
    let ahead = ap (λ ts. first_repeated (map name_of c.loop-value.profiles) (map (text_at (codes "name")) ts)) next in
    let found : IsFault (twice_fault (tables_of c.args.values.now)) c.in_err-add.field-0.0 = λ known.
    ap (option_map fault.Twice) (sym c.loop-value.invariant.repeated ∙ ahead) ∙ repeated_found c.loop-value.profiles (table_view c.in-Some.table.now) (tables_of (drop (c.loop-value.value-index + 1) c.args.values.now)) _ (here known) in
    search (rules, found)

pub loop-value-preserved : goal.loop-value-preserved
loop-value-preserved c =
    let name = text_at (codes "name") (table_view c.in-Some.table.now) in
    let next : tables_of (drop c.loop-value.value-index c.args.values.now) ≡ table_view c.in-Some.table.now ∷ tables_of (drop (c.loop-value.value-index + 1) c.args.values.now)
    = tables_of-drop c.args.values.now c.loop-value.value-index c.value-item.result _ (omega arith) c.value-item.is c.in-Some.ensures in
    let good : repeats (has_name c.loop-value.profiles name) name ≡ None = c.in_ok-add.ensures.judged in
    record {
      made = made_next c.loop-value.profiles _ _ (table_view c.in-Some.table.now) _ c.in_ok-add.ensures.added (rw next at c.loop-value.invariant.made);
      repeated = repeated_next c.loop-value.profiles _ (table_view c.in-Some.table.now) _ c.in_ok-add.ensures.added good ∙ rw next at c.loop-value.invariant.repeated;
    }
