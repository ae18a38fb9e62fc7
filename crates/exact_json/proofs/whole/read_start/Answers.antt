use Rattle.std.proofs.Common.{◌≡◌, [], length, subst, rules, sym, ap, ◌∙◌, arith}
use Rattle.exact_json.specs.Reading.{skip}
use Rattle.exact_json.specs.View.{tree_view}
use Rattle.exact_json.specs.Grammar.{Misread}
use Rattle.exact_json.specs.declared.fault.JsonFault.TheVariants.{Text}
use Rattle.exact_json.specs.Slices.{texts_of, AreTextsBefore}
use Rattle.exact_json.proofs.Document.{same_value, blank, no_bytes, misread, starts_with_value}
use Rattle.exact_json.proofs.Slices.{then_quiet, spaces, all_of_it}
use Rattle.exact_json.proofs.whole.read_start.Goals as goal

pub returns-then-is_empty-clause-only : goal.returns-then-is_empty-clause-only
returns-then-is_empty-clause-only c = λ j z sp reads. (same_value c.args.start.now j (tree_view c.in-Ok.tree) z c.in-Ok.rest.now reads c.in-Ok.ensures.value).0

pub returns-then-is_empty-clause-found : goal.returns-then-is_empty-clause-found
returns-then-is_empty-clause-found c =
    let none : length c.skip_spaces.result.now ≡ 0 = first_of (grind arith, search rules) in
    let empty = no_bytes c.skip_spaces.result.now none in
    starts_with_value c.args.start.now (tree_view c.in-Ok.tree) c.in-Ok.rest.now c.in-Ok.ensures.value (sym c.skip_spaces.ensures.value ∙ empty)

pub returns-in-Ok-clause-only : goal.returns-in-Ok-clause-only
returns-in-Ok-clause-only c = λ j z sp reads.
    let same = same_value c.args.start.now j (tree_view c.in-Ok.tree) z c.in-Ok.rest.now reads c.in-Ok.ensures.value in
    let empty : c.skip_spaces.result.now ≡ [] = c.skip_spaces.ensures.value ∙ ap skip same.1 ∙ blank z sp in
    grind (arith, empty)

pub returns-in-Err-Text-clause-only : goal.returns-in-Err-Text-clause-only
returns-in-Err-Text-clause-only c = λ j z sp reads.
    let e = c.in-Err-Text.field-0 in
    let is : e ≡ Text = first_of (grind arith, search rules) in
    subst (Misread j) is (misread c.args.start.now j z reads e c.in-Err-Text.ensures.value)

pub returns-then-is_empty-clause-slices : goal.returns-then-is_empty-clause-slices
returns-then-is_empty-clause-slices c =
    let none : length c.skip_spaces.result.now ≡ 0 = first_of (grind arith, search rules) in
    let empty = no_bytes c.skip_spaces.result.now none in
    let start = c.args.start.now in
    let rest = c.in-Ok.rest.now in
    let texts = texts_of c.in-Ok.tree in
    all_of_it texts start (subst (AreTextsBefore texts start) empty (then_quiet texts start rest c.skip_spaces.result.now c.in-Ok.ensures.slices (spaces rest c.skip_spaces.result.now c.skip_spaces.ensures.value)))
