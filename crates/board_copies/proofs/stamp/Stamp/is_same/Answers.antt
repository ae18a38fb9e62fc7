use Rattle.std.proofs.Common.{arith, ◌≡◌, List, ap, sym, ◌∙◌, subst}
use Rattle.std.proofs.lemmas.Bool.Decides.{nat_tests}
use mathlib.Core.List.{IsPrefix}
use Rattle.board_copies.specs.declared.counter.Tried.{Tried}
use Rattle.board_copies.specs.Lists.{listed}
use Rattle.board_copies.proofs.Fronts.{listed_prefix}
use Rattle.board_copies.proofs.stamp.Stamp.is_same.Goals as goal

pub returns-clause-same : goal.returns-clause-same
returns-clause-same c t =
    let both = c.learn.new.self.log in
    let a = c.args.self.now in
    let b = c.args.other.now in
    let mine : IsPrefix a.seen.log both = subst (λ (l : List Tried). IsPrefix l both) (ap (λ s. s.log) c.again-both.ensures) c.learn.ensures.2 in
    let same : a.number ≡ b.number = grind (arith, nat_tests) in
    sym (listed_prefix a.seen.log both a.number mine a.within) ∙ (ap (λ n. listed both n) same ∙ listed_prefix b.seen.log both b.number c.learn.ensures.3 b.within)
