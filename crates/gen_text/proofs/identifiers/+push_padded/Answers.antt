use Rattle.std.proofs.Common.{◌≡◌, ◌+◌, ◌-◌, ◌/◌, ◌%◌, [], ◌∷◌, ◌++◌, sym, append-nil, append_assoc, arith}
use Rattle.gen_text.specs.Numbers.{padded}
use Rattle.gen_text.proofs.Pieces.{padded_none, padded_step}
use Rattle.gen_text.proofs.identifiers.+push_padded.Goals as goal

pub returns-then-width-eq0 : goal.returns-then-width-eq0
returns-then-width-eq0 t c =
    let none : padded c.args.width c.args.n ≡ [] = padded_none c.args.width c.args.n c.if-width-eq0.true in
    rw none (sym (append-nil c.args.out.now.items))

pub returns : goal.returns
returns t c =
    let step : padded c.args.width c.args.n ≡ padded (c.args.width - 1) (c.args.n / 10) ++ (48 + c.args.n % 10) ∷ [] = padded_step c.args.width c.args.n (omega (arith, c.if-width-eq0.false)) in
    simp (step, c.in_ok-push_padded.ensures, c.in_ok-push.ensures.items, append_assoc)
