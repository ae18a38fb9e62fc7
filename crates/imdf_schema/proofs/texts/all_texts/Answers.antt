use Rattle.std.proofs.Common.{◌≡◌, ◌∙◌, true, map, IfOk, sym, ap, subst}
use Rattle.std.specs.List.{list_all}
use Rattle.exact_json.specs.Json.{Members, object}
use Rattle.exact_json.specs.View.{pair_view, members_view, object_view}
use Rattle.imdf_schema.specs.Values.{is_text, has_texts}
use Rattle.imdf_schema.proofs.Names.{texts_count, texts_last, same_members}
use Rattle.imdf_schema.proofs.texts.all_texts.Goals as goal

pub returns-then-are_texts : goal.returns-then-are_texts
returns-then-are_texts c =
    let xs = c.as_slice-pairs.result.now in
    let members = object_view c.args.members.now in
    let all : list_all (λ p. is_text p.1) (map pair_view xs) ≡ true = sym c.are_texts.ensures ∙ c.if-are_texts.true in
    sym (ap (λ (ms : Members). has_texts (object ms)) (sym (same_members xs members c.as_slice-pairs.ensures)) ∙ texts_count (members_view xs) (texts_last xs all))

pub returns : goal.returns
returns c =
    let same = same_members c.as_slice-pairs.result.now (object_view c.args.members.now) c.as_slice-pairs.ensures in
    subst (λ (ms : Members). IfOk c.last_are_texts.result (λ all. all ≡ has_texts (object ms))) same c.last_are_texts.ensures
