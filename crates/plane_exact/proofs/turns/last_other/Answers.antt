use Rattle.std.proofs.Common.{◌∷◌, [], ◌++◌, ◌-◌, length, ap, sym, refl, arith}
use Rattle.std.proofs.lemmas.List.{take_all}
use Rattle.plane_exact.specs.Corners.{before_last}
use Rattle.plane_exact.proofs.WalkLemmas.{back_step, back_found, back_none, told_other, told_same, same_point}
use Rattle.plane_exact.proofs.turns.last_other.Goals as goal

pub loop-i-init : goal.loop-i-init
loop-i-init c = ap (λ xs. before_last c.args.first c.args.first (xs ++ c.args.last ∷ [])) (take_all (length c.args.line.now - 0) c.args.line.now (omega arith))

pub returns-then-ne : goal.returns-then-ne
returns-then-ne c = back_found c.args.first c.args.last _ _ _ c.args.line.now c.loop-i.i _ c.loop-i-test.true refl refl (told_other _ _ c.ne.ensures c.if-ne.true) c.loop-i.invariant

pub loop-i-preserved : goal.loop-i-preserved
loop-i-preserved c = back_step c.args.first c.args.last _ _ c.args.line.now c.loop-i.i _ c.loop-i-test.true refl (sym (same_point c.args.last _ (told_same _ _ c.ne.ensures c.if-ne.false))) c.loop-i.invariant

pub returns : goal.returns
returns c = back_none c.args.first c.args.last _ c.args.line.now c.loop-i.i c.loop-i-test.false c.loop-i.invariant
