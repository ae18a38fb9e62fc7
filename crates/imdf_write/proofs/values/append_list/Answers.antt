-- The values stand between brackets, with commas between them.
use Rattle.std.proofs.Common.{[], ◌∷◌, ◌∙◌, ◌≡◌, ap, map}
use Rattle.json_text.specs.Compact.{first_items}
use Rattle.json_text.specs.Drafts.{onto}
use Rattle.imdf_write.specs.Values.{items_of}
use Rattle.imdf_write.proofs.Lists.{first_and_more, no_item}
use Rattle.imdf_write.proofs.Pieces.{three}
use Rattle.imdf_write.proofs.values.append_list.Goals.{in-Some, in_default}
use Rattle.imdf_write.proofs.values.append_list.Goals as goal

pub returns : goal.returns
returns g c =
    let value = g.T.Written.value in
    let items = c.args.items.now in
    let out = c.push.new.self in
    let inside = first_items (items_of (map value items)) in
    let all : c.match-split_first.out ≡ onto out inside = elim c.match-split_first.branch [
      | in-Some w ↦ w.out-is ∙ first_and_more value items w.in-Some.others.now w.in-Some.first.now out w.append.new.out w.append_more.new.out w.in-Some.ensures.cases.0 w.append.ensures w.append_more.ensures
      | in_default w ↦ w.out-is ∙ no_item value items out w.in_default.ensures.cases
    ] in
    c.push-2.ensures ∙ ap (λ d. onto d (93 ∷ [])) (all ∙ ap (λ d. onto d inside) c.push.ensures) ∙ three c.args.out.now (91 ∷ []) inside (93 ∷ [])
