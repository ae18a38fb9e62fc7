use Rattle.std.proofs.Common.{ap, ap₂, ◌∙◌}
use Rattle.imdf_schema.specs.Values.{id_of}
use Rattle.imdf_schema.specs.Forms.{type_of}
use Rattle.imdf_rows.specs.Fields.{ref_of_both}
use Rattle.imdf_rows.proofs.fields.ref_of.Goals as goal

pub returns : goal.returns
returns c =
    c.ref_of_both.ensures ∙ ap₂ ref_of_both (c.id-id.ensures ∙ ap id_of c.member-name.ensures) (c.type_of-file.ensures ∙ ap type_of c.member-kind.ensures)
