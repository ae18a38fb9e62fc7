use Rattle.std.proofs.Common.{sym, subst}
use Rattle.exact_json.specs.View.{tree_view}
use Rattle.exact_json.specs.Slices.{AreTextsBefore}
use Rattle.exact_json.proofs.Slices.{token_texts}
use Rattle.exact_json.proofs.values.read_scalar.Goals as goal

pub returns-in-Some-clause-slices : goal.returns-in-Some-clause-slices
returns-in-Some-clause-slices c =
    let b = c.args.text.now in
    let rest = c.in-Some.rest.now in
    subst (λ ts. AreTextsBefore ts b rest) (sym c.in-Some.ensures.texts) (token_texts b (tree_view c.in-Some.tree) rest (sym c.in-Some.ensures.value))
