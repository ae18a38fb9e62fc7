use Rattle.std.proofs.Common.{◌+◌, ◌/◌, ◌%◌, List, ℕ, [], ◌∷◌, ◌++◌, sym, ap, ◌∙◌, append_assoc, arith}
use Rattle.std.proofs.lemmas.Fmt.{decimal_digit, decimal_step}
use Rattle.std.specs.Fmt.{decimal}
use Rattle.line_forms.proofs.numbers.+push_digits.Goals as goal

pub returns-then-n-lt10-clause-ok : goal.returns-then-n-lt10-clause-ok
returns-then-n-lt10-clause-ok t c = c.in_ok-push.ensures.items ∙ ap (λ (ds : List ℕ). c.args.out.now.items ++ ds) (sym (decimal_digit c.args.n c.if-n-lt10.true))

pub returns-clause-ok : goal.returns-clause-ok
returns-clause-ok t c =
    c.in_ok-push-2.ensures.items ∙ ap (λ (xs : List ℕ). xs ++ (48 + c.args.n % 10) ∷ []) c.in_ok-push_digits.ensures.ok
    ∙ append_assoc c.args.out.now.items (decimal (c.args.n / 10)) ((48 + c.args.n % 10) ∷ [])
    ∙ ap (λ (ds : List ℕ). c.args.out.now.items ++ ds) (sym (decimal_step c.args.n c.if-n-lt10.false (omega arith)))
