use Rattle.std.proofs.Common.{◌∙◌, ap, true, cond}
use Rattle.std.proofs.lemmas.Map.Text.{is_eq-slice_cmp}
use Rattle.imdf_schema.specs.Names.{has_name}
use Rattle.imdf_schema.proofs.texts.is_new.Goals as goal

pub returns-clause-names : goal.returns-clause-names
returns-clause-names c = λ other.
    c.in_ok-insert.ensures.updates.0 (record c.args.name { now = other })
    ∙ ap (λ b. cond b true (has_name c.args.names.now other)) (is_eq-slice_cmp c.args.name.now other)
