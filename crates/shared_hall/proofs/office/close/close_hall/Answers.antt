use Rattle.std.proofs.Common.{rules, arith, ◌≡◌, ◌+◌, List, [], ◌∷◌, ◌++◌, All, sym, ap, ◌∙◌, subst, length}
use mathlib.Core.List.{IsPrefix}
use Rattle.venue_hall.specs.Histories.{IsLegal}
use Rattle.venue_hall.specs.Facts.{Facts}
use Rattle.venue_hall.specs.Standing.{AreRecordsOf}
use Rattle.shared_hall.specs.Offices.{OfficeFacts, made_of, Begins}
use Rattle.shared_hall.proofs.Passes.{made_push, begins_push}
use Rattle.shared_hall.proofs.office.close.close_hall.Goals as goal

pub returns-clause-history : goal.returns-clause-history
returns-clause-history g c =
    let xs : List Facts = c.pop.new.self.items in
    let ys : List Facts = c.args.passes.items in
    let p = c.in-Some.pass in
    let e : ys ≡ xs ++ p ∷ [] = search rules in
    let h = c.into_inner-office.result.entries in
    let rest : All (Begins h) xs = subst (λ (z : OfficeFacts). All (Begins z.entries) xs) c.take_in-first.ensures.office c.take_in_all-all.ensures.begins in
    let last = c.take_in_all-all.ensures.office ∙ c.take_in-first.ensures.office in
    let made : made_of ys ≡ made_of xs + p.made = ap made_of e ∙ made_push xs p in
    let told : c.end.result.changes ≡ made_of ys = omega (arith, c.end.ensures.told, c.take_in_all-all.ensures.amount, c.take_in-first.ensures.amount, made) in
    record {
      entries = h;
      legal = subst (λ (z : OfficeFacts). IsLegal z.entries) last c.end.ensures.legal;
      opened = subst (λ (z : OfficeFacts). IsPrefix g.N.HallName.opening z.entries) last c.end.ensures.opened;
      number_is = c.end.ensures.number ∙ ap (λ (z : OfficeFacts). length z.entries) last;
      begun = subst (All (Begins h)) (sym e) (begins_push h xs p c.take_in-first.ensures.begins rest);
      told = told;
      counted = c.end.ensures.counted;
      kept = subst (λ (z : OfficeFacts). AreRecordsOf (g.J.Log.records c.end.result.log) z.entries) last c.end.ensures.records;
    }
