use Rattle.std.proofs.Common.{Some, ap, sym, ◌∙◌}
use Rattle.venue_settings.specs.declared.fault.SettingsFault.TheVariants as fault
use Rattle.venue_settings.proofs.Least.{unknown_is}
use Rattle.venue_settings.proofs.table.judge_unknown.Goals as goal

pub returns-in_ok-owned-in-Some : goal.returns-in_ok-owned-in-Some
returns-in_ok-owned-in-Some c = λ _.
    unknown_is c.args.keys.now c.args.table.now.entries _ c.in-Some.ensures.found c.in-Some.ensures.ordered
    ∙ ap (λ text. Some (fault.Unknown text)) (sym (c.in_ok-owned-in-Some.ensures ∙ c.as_str.ensures.value))

pub returns-in-None : goal.returns-in-None
returns-in-None c = unknown_is c.args.keys.now c.args.table.now.entries _ c.in-None.ensures.found c.in-None.ensures.ordered
