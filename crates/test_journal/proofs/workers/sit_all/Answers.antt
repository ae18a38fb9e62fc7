use Rattle.std.proofs.Common.{arith, ◌≡◌, ◌+◌, List, [], ◌∷◌, ◌++◌, ap, ◌∙◌, length, length-append, Option}
use Rattle.std.specs.Option.{option_to_list}
use Rattle.shared_hall.specs.Facts.{Facts}
use Rattle.shared_hall.specs.Offices.{parts_of}
use Rattle.shared_hall.proofs.Passes.{parts_push}
use Rattle.test_journal.proofs.workers.sit_all.Goals as goal

pub loop-pass-preserved : goal.loop-pass-preserved
loop-pass-preserved g c =
    let i = c.loop-pass.invariant in
    let xs : List Facts = c.pop.new.self.items in
    let ys : List Facts = c.loop-pass.passes.items in
    let zs : List Facts = c.loop-pass.seats.items in
    let p : Facts = c.in-Some.pass in
    let s : Facts = c.sit.result in
    let taken : ys ≡ xs ++ p ∷ [] = c.pop.ensures.items ∙ ap (λ (o : Option Facts). xs ++ option_to_list o) c.in-Some.is in
    let grown : c.push.new.self.items ≡ zs ++ s ∷ [] = c.in_ok-push.ensures.items in
    let same : s.parts ≡ p.parts = ap (λ (q : Facts). q.parts) c.sit.ensures in (
      omega (arith, i.0, ap (λ (l : List Facts). length l) grown, ap (λ (l : List Facts). length l) taken, length-append zs (s ∷ []), length-append xs (p ∷ [])),
      omega (arith, i.1, ap parts_of grown ∙ parts_push zs s, ap parts_of taken ∙ parts_push xs p, same),
    )
