use Rattle.std.proofs.Common.{ℕ, length, take, drop, sym, ap, ◌∙◌, arith}
use Rattle.route_certificate.proofs.LineLemmas.{id_line_length, id_line_front, id_line_end, id_line_parts}
use Rattle.route_certificate.proofs.table_lines.id_line.Goals as goal

pub returns-then-text-lt36-clause-none : goal.returns-then-text-lt36-clause-none
returns-then-text-lt36-clause-none c = λ id more fits e.
    omega (arith, c.if-text-lt36.true, ap (length {A = ℕ}) e, id_line_length id more)

pub returns-in_err-id-clause-none : goal.returns-in_err-id-clause-none
returns-in_err-id-clause-none c = rw c.from_residual.ensures (λ id more fits e.
    c.in_err-id.ensures.none id fits (c.split_at.ensures.front ∙ ap (take 36) e ∙ id_line_front id more))

pub returns-in_err-rest-clause-none : goal.returns-in_err-rest-clause-none
returns-in_err-rest-clause-none c = rw c.from_residual-in_err-rest.ensures (λ id more fits e.
    c.in_err-rest.ensures.none more (c.split_at.ensures.back ∙ ap (drop 36) e ∙ id_line_end id more))

pub returns-clause-found : goal.returns-clause-found
returns-clause-found c =
    let found = c.in_ok-id.ensures.found in
    (id_line_parts c.args.text.now c.in_ok-rest.rest.now c.in_ok-id.id (sym c.split_at.ensures.front ∙ found.0) (sym c.split_at.ensures.back ∙ c.in_ok-rest.ensures.found), found.1)
