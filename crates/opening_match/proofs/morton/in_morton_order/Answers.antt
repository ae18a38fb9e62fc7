use Rattle.std.proofs.Common.{◌≡◌, ◌∙◌, List, Vec, Global, map, ap, sym, subst}
use Rattle.std.specs.Prelude.{IsPermutation}
use Rattle.std.proofs.lemmas.List.Sorted.{IsPermutation-map}
use Rattle.std.proofs.lemmas.Result.{IfOk-weaker}
use Rattle.opening_match.specs.declared.entries.Entry.{Entry}
use Rattle.opening_match.specs.Morton.{entry_of}
use Rattle.opening_match.proofs.morton.in_morton_order.Goals as goal

pub returns : goal.returns
returns c =
    let entries = c.args.entries.now in
    let coded = c.in_ok-coded.coded.items in
    let sorted = c.sort_unstable.new.self.items in
    let moved : IsPermutation entries (map entry_of sorted) = subst (λ (es : List Entry). IsPermutation es (map entry_of sorted)) c.in_ok-coded.ensures (IsPermutation-map entry_of coded sorted c.sort_unstable.ensures.permutation) in
    IfOk-weaker c.plain_of.result (λ (list : Vec Entry Global). list.items ≡ map entry_of c.as_slice.result.now) (λ (list : Vec Entry Global). IsPermutation entries list.items)
    (λ list is. subst (λ (es : List Entry). IsPermutation entries es) (sym (is ∙ ap (map entry_of) c.as_slice.ensures.value)) moved) c.plain_of.ensures
