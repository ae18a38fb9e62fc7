use Rattle.std.proofs.Common.{refl, sym, ap, ◌∙◌, arith}
use Rattle.std.specs.List.{prefix_len}
use Rattle.exact_json.specs.StringReading.{is_plain}
use Rattle.std.proofs.lemmas.Bool.{and_parts}
use Rattle.exact_json.proofs.Texts.{passes_one, drop_none}
use Rattle.exact_json.proofs.text.are_eight_plain.Goals as goal

pub returns-in-len8-up : goal.returns-in-len8-up
returns-in-len8-up c = λ all.
    let xs = c.args.text.now in
    let h = and_parts _ _ all in
    let g = and_parts _ _ h.0 in
    let f = and_parts _ _ g.0 in
    let e = and_parts _ _ f.0 in
    let d = and_parts _ _ e.0 in
    let third = and_parts _ _ d.0 in
    let second = and_parts _ _ third.0 in
    let counted = passes_one xs 0 _ (omega arith) c.is_plain.ensures second.0 (passes_one xs 1 _ (omega arith) c.is_plain-in-len8-up.ensures second.1 (passes_one xs 2 _ (omega arith) c.is_plain-in-len8-up-2.ensures third.1 (passes_one xs 3 _ (omega arith) c.is_plain-in-len8-up-3.ensures d.1 (passes_one xs 4 _ (omega arith) c.is_plain-in-len8-up-4.ensures e.1 (passes_one xs 5 _ (omega arith) c.is_plain-in-len8-up-5.ensures f.1 (passes_one xs 6 _ (omega arith) c.is_plain-in-len8-up-6.ensures g.1 (passes_one xs 7 _ (omega arith) c.is_plain-in-len8-up-7.ensures h.1 refl))))))) in
    (c.in-len8-up.len_at_least, ap (prefix_len is_plain) (sym (drop_none xs)) ∙ counted ∙ omega arith)
