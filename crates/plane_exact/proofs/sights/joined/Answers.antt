use Rattle.std.proofs.Common.{◌≡◌, Bool, true, false, ◌||◌, refl, sym, ◌∙◌, ap}
use Rattle.plane_exact.specs.Looks.{joined_look}
use Rattle.plane_exact.proofs.LookLemmas.{same_look, unequal}
use Rattle.plane_exact.proofs.sights.joined.Goals as goal
use Rattle.plane_exact.proofs.sights.joined.Goals.{then-one, else-one}

first : (a b r : Bool) → a ≡ true → r ≡ a → r ≡ (a || b)
first a b r e f = f ∙ e ∙ sym (ap (λ (x : Bool). x || b) e)

second : (a b r : Bool) → a ≡ false → r ≡ b → r ≡ (a || b)
second a b r e f = f ∙ sym (ap (λ (x : Bool). x || b) e)

pub returns-then-one-2 : goal.returns-then-one-2
unfolding joined_look
returns-then-one-2 c =
    let s : c.if-one.result ≡ (c.args.one.stopped || c.args.more.stopped) = elim c.if-one.branch [ then-one w ↦ first _ _ _ w.if-one.true w.result-is | else-one w ↦ second _ _ _ w.if-one.false w.result-is ] in
    same_look s (unequal c.args.one.odd c.args.more.odd) (first _ _ _ c.if-one-2.true refl)

pub returns-else-one-2 : goal.returns-else-one-2
unfolding joined_look
returns-else-one-2 c =
    let s : c.if-one.result ≡ (c.args.one.stopped || c.args.more.stopped) = elim c.if-one.branch [ then-one w ↦ first _ _ _ w.if-one.true w.result-is | else-one w ↦ second _ _ _ w.if-one.false w.result-is ] in
    same_look s (unequal c.args.one.odd c.args.more.odd) (second _ _ _ c.if-one-2.false refl)
