use Rattle.std.proofs.Common.{List, ℕ, ◌≡◌, ◌<◌, ◌++◌, sym, ap, ◌∙◌, arith, codes}
use Rattle.std.proofs.lemmas.List.{append_cancel_left}
use Rattle.std.proofs.lemmas.Fmt.{decimal_injective}
use Rattle.std.specs.Fmt.{decimal}
use Rattle.line_forms.specs.Lines.{word}
use Rattle.line_forms.proofs.LineLemmas.{word_unique}
use Rattle.route_certificate.proofs.AnswerLines.{at_tail, small_potential}
use Rattle.route_certificate.proofs.answer_lines.potential_of.Goals as goal
use Rattle.route_certificate.proofs.answer_lines.potential_of.Goals.{else-low-node-via-then-low-node+then-node-end+else-value-lt-COST_END, else-low-node-via-then-low-node+else-node-end, else-low-node-via-else-low-node}

pub returns-in_err-value-clause-none : goal.returns-in_err-value-clause-none
returns-in_err-value-clause-none c =
    rw c.from_residual-in_err-value.ensures (λ p fits e.
    let small = small_potential c.args.nodes p fits.fits in
    let node = c.in_ok-node.ensures.found in
    let tail = append_cancel_left (codes "at ") c.in_ok-after.field-0.now (at_tail p) (sym c.in_ok-after.ensures.found ∙ e) in
    let words = word_unique c.in_ok-node.node p.node c.in_ok-node.rest.now (decimal p.value) node.1 small.node (sym node.0 ∙ tail) in
    c.in_err-value.ensures.none p.value small.value words.1)

pub overflow_cast-result : goal.overflow_cast-result
overflow_cast-result c = omega (arith, ((c.node_end-end.ensures c.in_ok-node.node).0 c.if-node-end.true).small)

pub returns-then-value-lt-COST_END-clause-found : goal.returns-then-value-lt-COST_END-clause-found
returns-then-value-lt-COST_END-clause-found c = (
  c.in_ok-after.ensures.found ∙ ap (λ (t : List ℕ). codes "at " ++ t) (c.in_ok-node.ensures.found.0 ∙ ap (word (decimal c.in_ok-node.node)) c.in_ok-value.ensures.found.0),
  record {
    fits = record { node = (c.node_end-end.ensures c.in_ok-node.node).0 c.if-node-end.true; value = omega (arith, c.if-value-lt-COST_END.true) };
    above = c.if-low-node.true;
  },
)

pub returns-else-low-node-clause-none : goal.returns-else-low-node-clause-none
returns-else-low-node-clause-none c = λ p fits e.
    let small = small_potential c.args.nodes p fits.fits in
    let node = c.in_ok-node.ensures.found in
    let value = c.in_ok-value.ensures.found in
    let tail = append_cancel_left (codes "at ") c.in_ok-after.field-0.now (at_tail p) (sym c.in_ok-after.ensures.found ∙ e) in
    let words = word_unique c.in_ok-node.node p.node c.in_ok-node.rest.now (decimal p.value) node.1 small.node (sym node.0 ∙ tail) in
    let same : c.in_ok-value.value ≡ p.value = decimal_injective c.in_ok-value.value p.value value.1 small.value (sym value.0 ∙ words.1) in
    let most : p.node < c.node_end-end.result = (c.node_end-end.ensures p.node).1 fits.fits.node in
    elim c.else-low-node.branch [
      | else-low-node-via-then-low-node+then-node-end+else-value-lt-COST_END w ↦ omega (arith, same, fits.fits.value)
      | else-low-node-via-then-low-node+else-node-end w ↦ omega (arith, words.0, most)
      | else-low-node-via-else-low-node w ↦ omega (arith, words.0, fits.above)
    ]
