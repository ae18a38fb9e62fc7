use Rattle.std.proofs.Common.{◌≡◌, ◌∙◌, Bool, true, ◌&&◌, is_some, sym, ap, codes}
use Rattle.exact_json.specs.Json.{Json, member}
use Rattle.imdf_schema.specs.Values.{seen, is_id}
use Rattle.imdf_schema.specs.Forms.{type_of}
use Rattle.imdf_schema.proofs.forms.is_reference.Goals as goal

pub returns-then-is_id : goal.returns-then-is_id
returns-then-is_id c =
    let v = seen c.args.value in
    let named : Bool = is_some (type_of (member v (codes "feature_type"))) in
    let id : is_id (member v (codes "id")) ≡ true = ap is_id (sym c.member.ensures) ∙ sym c.is_id.ensures ∙ c.if-is_id.true in
    let types : c.is_some.result ≡ named = c.is_some.ensures ∙ ap is_some c.type_of.ensures ∙ ap (λ (w : Json). is_some (type_of w)) c.member-then-is_id.ensures in
    types ∙ sym (ap (λ (b : Bool). b && named) id)
