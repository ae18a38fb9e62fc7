use Rattle.std.proofs.Common.{◌++◌, List, ℕ, codes, sym, ap, ◌∙◌}
use Rattle.std.proofs.lemmas.List.{append_cancel_left}
use Rattle.line_forms.specs.Lines.{line}
use Rattle.venue_types.specs.Identifier.{identifier_text}
use Rattle.route_certificate.proofs.LineLemmas.{node_line_words}
use Rattle.route_certificate.proofs.table_lines.next_node.Goals as goal

pub returns-in_err-rest-clause-none : goal.returns-in_err-rest-clause-none
returns-in_err-rest-clause-none c = rw c.from_residual.ensures (λ id more fits e.
    c.in_err-rest.ensures.none (line (identifier_text id) ++ more) (e ∙ node_line_words id more))

pub returns-in_err-id-clause-none : goal.returns-in_err-id-clause-none
returns-in_err-id-clause-none c = rw c.from_residual-in_err-id.ensures (λ id more fits e.
    c.in_err-id.ensures.none id more fits
    (append_cancel_left (codes "node ") c.in_ok-rest.rest.now (line (identifier_text id) ++ more) (sym c.in_ok-rest.ensures.found ∙ e ∙ node_line_words id more)))

pub returns-clause-found : goal.returns-clause-found
returns-clause-found c =
    let found = c.in_ok-id.ensures.found in
    (c.in_ok-rest.ensures.found ∙ ap (λ (t : List ℕ). codes "node " ++ t) found.0 ∙ sym (node_line_words c.in_ok-id.id c.in_ok-id.rest.now), found.1)
