use Rattle.std.proofs.Common.{◌≡◌, ◌++◌, List, ℕ, codes, sym, ap, ◌∙◌, arith}
use Rattle.std.specs.Fmt.{decimal}
use Rattle.line_forms.specs.Lines.{line, word}
use Rattle.route_certificate.specs.declared.table.TableLink.{TableLink}
use Rattle.route_certificate.specs.Forms.{FitsLink}
use Rattle.venue_types.specs.Identifier.{identifier_text}
use Rattle.route_certificate.proofs.LineLemmas.{small_link, link_words, link_0, link_1, link_2, link_3, link_line_words}
use Rattle.route_certificate.proofs.table_lines.next_link.Goals as goal
use Rattle.route_certificate.proofs.table_lines.next_link.Goals.{else-from-nodes-via-then-from-nodes+then-to-nodes+else-cost-le-MAX_COST, else-from-nodes-via-then-from-nodes+else-to-nodes, else-from-nodes-via-else-from-nodes}

pub returns-in_err-rest-clause-none : goal.returns-in_err-rest-clause-none
returns-in_err-rest-clause-none c = rw c.from_residual.ensures (λ link more fits e.
    c.in_err-rest.ensures.none (link_words link (line (identifier_text link.via) ++ more)) (e ∙ link_line_words link more))

pub returns-in_err-from-clause-none : goal.returns-in_err-from-clause-none
returns-in_err-from-clause-none c =
    rw c.from_residual-in_err-from.ensures (λ link more fits e.
    let small = small_link c.args.nodes link (omega arith) fits in
    let rest = link_0 c.in_ok-rest.rest.now (line (identifier_text link.via) ++ more) link (sym c.in_ok-rest.ensures.found ∙ e ∙ link_line_words link more) in
    c.in_err-from.ensures.none link.from _ small.from rest)

pub returns-in_err-to-clause-none : goal.returns-in_err-to-clause-none
returns-in_err-to-clause-none c =
    rw c.from_residual-in_err-to.ensures (λ link more fits e.
    let small = small_link c.args.nodes link (omega arith) fits in
    let end = line (identifier_text link.via) ++ more in
    let rest = link_0 c.in_ok-rest.rest.now end link (sym c.in_ok-rest.ensures.found ∙ e ∙ link_line_words link more) in
    let from = c.in_ok-from.ensures.found in
    let one = link_1 c.in_ok-from.from c.in_ok-from.rest.now end link from.1 small (sym from.0 ∙ rest) in
    c.in_err-to.ensures.none link.to _ small.to one.1)

pub returns-in_err-cost-clause-none : goal.returns-in_err-cost-clause-none
returns-in_err-cost-clause-none c =
    rw c.from_residual-in_err-cost.ensures (λ link more fits e.
    let small = small_link c.args.nodes link (omega arith) fits in
    let end = line (identifier_text link.via) ++ more in
    let rest = link_0 c.in_ok-rest.rest.now end link (sym c.in_ok-rest.ensures.found ∙ e ∙ link_line_words link more) in
    let from = c.in_ok-from.ensures.found in
    let to = c.in_ok-to.ensures.found in
    let whole = ap (word (decimal c.in_ok-from.from)) (sym to.0) ∙ sym from.0 ∙ rest in
    let two = link_2 c.in_ok-from.from c.in_ok-to.to c.in_ok-to.rest.now end link from.1 to.1 small whole in
    c.in_err-cost.ensures.none link.cost _ small.cost two.2)

pub returns-in_err-via-clause-none : goal.returns-in_err-via-clause-none
returns-in_err-via-clause-none c =
    rw c.from_residual-in_err-via.ensures (λ link more fits e.
    let small = small_link c.args.nodes link (omega arith) fits in
    let end = line (identifier_text link.via) ++ more in
    let rest = link_0 c.in_ok-rest.rest.now end link (sym c.in_ok-rest.ensures.found ∙ e ∙ link_line_words link more) in
    let from = c.in_ok-from.ensures.found in
    let to = c.in_ok-to.ensures.found in
    let cost = c.in_ok-cost.ensures.found in
    let whole = ap (word (decimal c.in_ok-from.from)) (ap (word (decimal c.in_ok-to.to)) (sym cost.0) ∙ sym to.0) ∙ sym from.0 ∙ rest in
    let three = link_3 c.in_ok-from.from c.in_ok-to.to c.in_ok-cost.cost c.in_ok-cost.rest.now end link from.1 to.1 cost.1 small whole in
    c.in_err-via.ensures.none link.via more fits.via three.3)

pub returns-else-from-nodes-clause-none : goal.returns-else-from-nodes-clause-none
returns-else-from-nodes-clause-none c = λ link more fits e.
    let small = small_link c.args.nodes link (omega arith) fits in
    let end = line (identifier_text link.via) ++ more in
    let rest = link_0 c.in_ok-rest.rest.now end link (sym c.in_ok-rest.ensures.found ∙ e ∙ link_line_words link more) in
    let from = c.in_ok-from.ensures.found in
    let to = c.in_ok-to.ensures.found in
    let cost = c.in_ok-cost.ensures.found in
    let whole = ap (word (decimal c.in_ok-from.from)) (ap (word (decimal c.in_ok-to.to)) (sym cost.0) ∙ sym to.0) ∙ sym from.0 ∙ rest in
    let three = link_3 c.in_ok-from.from c.in_ok-to.to c.in_ok-cost.cost c.in_ok-cost.rest.now end link from.1 to.1 cost.1 small whole in
    elim c.else-from-nodes.branch [
      | else-from-nodes-via-then-from-nodes+then-to-nodes+else-cost-le-MAX_COST w ↦ omega (arith, three.2, fits.cost)
      | else-from-nodes-via-then-from-nodes+else-to-nodes w ↦ omega (arith, three.1, fits.to)
      | else-from-nodes-via-else-from-nodes w ↦ omega (arith, three.0, fits.from)
    ]

pub returns-then-cost-le-MAX_COST-clause-found : goal.returns-then-cost-le-MAX_COST-clause-found
returns-then-cost-le-MAX_COST-clause-found c =
    let link : TableLink = record { from = c.in_ok-from.from; to = c.in_ok-to.to; cost = c.in_ok-cost.cost; via = c.in_ok-via.via } in
    let from = c.in_ok-from.ensures.found in
    let to = c.in_ok-to.ensures.found in
    let cost = c.in_ok-cost.ensures.found in
    let via = c.in_ok-via.ensures.found in
    let words : c.in_ok-rest.rest.now ≡ link_words link (line (identifier_text c.in_ok-via.via) ++ c.in_ok-via.rest.now) =
    from.0 ∙ ap (word (decimal link.from)) (to.0 ∙ ap (word (decimal link.to)) (cost.0 ∙ ap (word (decimal link.cost)) via.0)) in
    let fits : FitsLink c.args.nodes link = record {
      from = omega (arith, c.if-from-nodes.true);
      to = omega (arith, c.if-to-nodes.true);
      cost = omega (arith, c.if-cost-le-MAX_COST.true);
      via = via.1;
    } in
    (c.in_ok-rest.ensures.found ∙ ap (λ (t : List ℕ). codes "link " ++ t) words ∙ sym (link_line_words link c.in_ok-via.rest.now), fits)
