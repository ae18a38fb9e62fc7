use Rattle.std.proofs.Common.{◌≡◌, ℕ, sym, ◌∙◌, arith, codes}
use Rattle.std.proofs.lemmas.List.{append_cancel_left}
use Rattle.std.proofs.lemmas.Fmt.{decimal_injective}
use Rattle.std.specs.Fmt.{decimal}
use Rattle.std.specs.Prelude.{IfNone, Result, Ok, Err, ◌<◌, ◌^◌}
use Rattle.std.specs.Result.{OkIff, result_ok}
use Rattle.route_certificate.specs.Forms.{step_body}
use Rattle.route_certificate.proofs.walk_lines.step_of.Goals as goal

none_is : {E : Type 0} (place : ℕ) (r : Result ℕ E) (P : ℕ → Type 0) → OkIff r (place < 2 ^ 32) place → ((k : ℕ) → k < 2 ^ 32 → P k → place ≡ k) → IfNone (result_ok r) ((k : ℕ) → k < 2 ^ 32 → P k → ⊥)
none_is place (Ok x) P h same = tt
none_is place (Err e) P h same = λ k fits p. h (omega (arith, same k fits p))

pub returns-clause-none : goal.returns-clause-none
returns-clause-none c =
    let number = c.in_ok-place.ensures.found in
    let none = none_is c.in_ok-place.place c.try_from.result (λ k. c.args.body.now ≡ step_body k) c.try_from.ensures
    (λ k fits e. decimal_injective c.in_ok-place.place k number.1 (omega arith) (sym number.0 ∙ append_cancel_left (codes "step ") c.in_ok-after.field-0.now (decimal k) (sym c.in_ok-after.ensures.found ∙ e))) in
    rw c.ok.ensures.value none
