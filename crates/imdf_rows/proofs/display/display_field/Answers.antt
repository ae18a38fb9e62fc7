use Rattle.std.proofs.Common.{sym, ap, subst}
use Rattle.exact_json.specs.Json.{Json}
use Rattle.exact_json.specs.View.{tree_view}
use Rattle.imdf_schema.specs.Values.{seen}
use Rattle.imdf_rows.specs.Fields.{IsDisplay}
use Rattle.imdf_rows.proofs.Shown.{shown}
use Rattle.imdf_rows.proofs.display.display_field.Goals as goal

pub returns-in-Some : goal.returns-in-Some
returns-in-Some c =
    let s = c.point.result in
    let P : Json → Type 0 = λ v. IsDisplay v s.value in
    subst P (sym (ap seen c.in-Some.is))
    (shown (tree_view c.in-Some.tree.now) s.value s.bad_position s.bad_form c.point.ensures.bad_form c.point.ensures.value c.point.ensures.there c.point.ensures.bad_position)
