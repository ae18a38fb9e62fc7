use Rattle.std.proofs.Common.{refl, sym, ap, ◌∙◌, arith}
use Rattle.std.specs.List.{prefix_len}
use Rattle.json_text.specs.Runs.{stands_as_it_is}
use Rattle.std.proofs.lemmas.Bool.{and_parts}
use Rattle.json_text.proofs.Runs.{passes_one, drop_none}
use Rattle.json_text.proofs.texts.are_eight.Goals as goal

pub returns-in-len8-up : goal.returns-in-len8-up
returns-in-len8-up c = λ all.
    let xs = c.args.bytes.now in
    let h = and_parts _ _ all in
    let g = and_parts _ _ h.0 in
    let f = and_parts _ _ g.0 in
    let e = and_parts _ _ f.0 in
    let d = and_parts _ _ e.0 in
    let third = and_parts _ _ d.0 in
    let second = and_parts _ _ third.0 in
    let from7 = passes_one xs 7 _ (omega arith) c.stands_as_it_is-in-len8-up-7.ensures h.1 refl in
    let from6 = passes_one xs 6 _ (omega arith) c.stands_as_it_is-in-len8-up-6.ensures g.1 from7 in
    let from5 = passes_one xs 5 _ (omega arith) c.stands_as_it_is-in-len8-up-5.ensures f.1 from6 in
    let from4 = passes_one xs 4 _ (omega arith) c.stands_as_it_is-in-len8-up-4.ensures e.1 from5 in
    let from3 = passes_one xs 3 _ (omega arith) c.stands_as_it_is-in-len8-up-3.ensures d.1 from4 in
    let from2 = passes_one xs 2 _ (omega arith) c.stands_as_it_is-in-len8-up-2.ensures third.1 from3 in
    let from1 = passes_one xs 1 _ (omega arith) c.stands_as_it_is-in-len8-up.ensures second.1 from2 in
    let counted = passes_one xs 0 _ (omega arith) c.stands_as_it_is.ensures second.0 from1 in
    (c.in-len8-up.len_at_least, ap (prefix_len stands_as_it_is) (sym (drop_none xs)) ∙ counted ∙ omega arith)
