use Rattle.std.proofs.Common.{◌≡◌, ℕ, ◌<◌, ◌^◌, sym, ◌∙◌, arith, codes}
use Rattle.std.proofs.lemmas.List.{append_cancel_left}
use Rattle.std.proofs.lemmas.Fmt.{decimal_injective}
use Rattle.std.specs.Fmt.{decimal}
use Rattle.std.specs.Prelude.{IfNone, Result, Ok, Err}
use Rattle.std.specs.Result.{OkIff, result_ok}
use Rattle.route_certificate.specs.Forms.{from_body, FitsNode}
use Rattle.route_certificate.proofs.walk_lines.from_of.Goals as goal

none_is : {E : Type 0} (nodes place : ℕ) (r : Result ℕ E) (P : ℕ → Type 0) → OkIff r (place < 2 ^ 32) place → ((n : ℕ) → FitsNode nodes n → P n → place ≡ n)
    → IfNone (result_ok r) ((n : ℕ) → FitsNode nodes n → P n → ⊥)
none_is nodes place (Ok x) P h same = tt
none_is nodes place (Err e) P h same = λ n fits p. h (omega (arith, same n fits p, fits.small))

pub returns-then-place-nodes-clause-none : goal.returns-then-place-nodes-clause-none
returns-then-place-nodes-clause-none c =
    let number = c.in_ok-place.ensures.found in
    let none = none_is c.args.nodes c.in_ok-place.place c.try_from.result (λ n. c.args.body.now ≡ from_body n) c.try_from.ensures
    (λ n fits e. decimal_injective c.in_ok-place.place n number.1 (omega (arith, fits.small)) (sym number.0 ∙ append_cancel_left (codes "from ") c.in_ok-after.field-0.now (decimal n) (sym c.in_ok-after.ensures.found ∙ e))) in
    rw c.ok.ensures.value none

pub returns-else-place-nodes-clause-none : goal.returns-else-place-nodes-clause-none
returns-else-place-nodes-clause-none c = λ n fits e.
    let number = c.in_ok-place.ensures.found in
    let same = decimal_injective c.in_ok-place.place n number.1 (omega (arith, fits.small)) (sym number.0 ∙ append_cancel_left (codes "from ") c.in_ok-after.field-0.now (decimal n) (sym c.in_ok-after.ensures.found ∙ e)) in
    omega (arith, same, fits.node, c.if-place-nodes.false)
