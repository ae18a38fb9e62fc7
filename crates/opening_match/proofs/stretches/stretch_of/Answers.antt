use Rattle.std.proofs.Common.{List, arith, subst, sym}
use Rattle.std.proofs.lemmas.Int.{ints}
use Rattle.opening_match.specs.declared.entries.Entry.{Entry}
use Rattle.opening_match.specs.Entries.{AreRising}
use Rattle.opening_match.proofs.Stretching.{cut_out, rising_drop}
use Rattle.opening_match.proofs.stretches.stretch_of.Goals as goal

pub front_count-requires-2 : goal.front_count-requires-2
front_count-requires-2 c = subst (λ (list : List Entry). AreRising list) (sym c.split_at.ensures.back) (rising_drop c.front_count.result c.args.entries.now c.requires.rising)

pub returns : goal.returns
returns c =
    cut_out c.args.entries.now c.split_at.result.1.now c.split_at-2.result.0.now c.args.level c.args.frame c.args.tolerance c.front_count.result c.front_count-2.result _ _ c.requires.apart (omega (arith, ints)) (omega (arith, ints))
    c.front_count.ensures c.front_count-2.ensures c.split_at.ensures.back c.split_at-2.ensures.front
