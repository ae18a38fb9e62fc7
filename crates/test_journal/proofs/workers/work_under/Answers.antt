use Rattle.std.proofs.Common.{rules, arith, ◌≡◌, ◌++◌, ◌∙◌, ap, subst, length, List}
use Rattle.std.proofs.Math.ListN.{take}
use Rattle.std.proofs.Math.Seq.{take-append_seam}
use Rattle.shared_hall.specs.Facts.{Facts}
use Rattle.shared_hall.specs.Offices.{parts_of}
use Rattle.test_journal.proofs.workers.work_under.Goals as goal

pub close_hall-requires-clause-parts : goal.close_hall-requires-clause-parts
close_hall-requires-clause-parts g c =
    let now : List Facts = c.work_all.new.seats in
    let len : length now ≡ c.in_ok-seats.seats.len = search rules in
    let cut : (ys : List Facts) → take c.in_ok-seats.seats.len (now ++ ys) ≡ now = λ ys. subst (λ n. take n (now ++ ys) ≡ now) len (take-append_seam now ys) in
    let left = c.in_ok-passes.ensures in
    let a : parts_of c.in_ok-passes.passes.items ≡ parts_of now = left.parts ∙ ap parts_of (cut _) in
    let b : parts_of now ≡ parts_of c.in_ok-seats.seats.items = search rules in
    let d : parts_of c.in_ok-seats.seats.items ≡ parts_of c.in-Ok.opened.passes.items = search rules in
    a ∙ (b ∙ (d ∙ search rules))
