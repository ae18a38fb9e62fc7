use Rattle.std.proofs.Common.{rules, arith, ◌≡◌, ◌+◌, List, [], ◌∷◌, ◌++◌, All, sym, ap, ◌∙◌, subst}
use Rattle.venue_hall.specs.Facts.{Facts}
use Rattle.shared_hall.specs.Offices.{OfficeFacts, parts_of, made_of, Begins}
use Rattle.shared_hall.proofs.Passes.{parts_push, made_push, begins_push}
use Rattle.shared_hall.proofs.office.close.take_in_all.Goals as goal

pub loop-pass-preserved : goal.loop-pass-preserved
loop-pass-preserved g c =
    let i = c.loop-pass.invariant in
    let xs : List Facts = c.pop.new.self.items in
    let ys : List Facts = c.loop-pass.passes.items in
    let p = c.in-Some.pass in
    let e : ys ≡ xs ++ p ∷ [] = search rules in
    let parts : parts_of ys ≡ parts_of xs + p.parts = ap parts_of e ∙ parts_push xs p in
    let made : made_of ys ≡ made_of xs + p.made = ap made_of e ∙ made_push xs p in
    let one : Begins c.args.office.now.entries p = subst (λ (o : OfficeFacts). Begins o.entries p) i.0 c.take_in.ensures.begins in (
      c.take_in.ensures.office ∙ i.0,
      omega (arith, i.1, c.merge.ensures.parts, c.take_in.ensures.parts, parts),
      omega (arith, i.2, c.merge.ensures.amount, c.take_in.ensures.amount, made),
      λ all. i.3 (subst (All (Begins c.args.office.now.entries)) (sym e) (begins_push c.args.office.now.entries xs p one all)),
    )
