use Rattle.std.proofs.lemmas.Result.{on_ok_weaker}
use Rattle.wire_replies.proofs.Lists.{after}
use Rattle.wire_replies.proofs.tours.write_tour.Goals as goal

pub returns : goal.returns
returns c =
    on_ok_weaker c.end.result
    (λ last. after c.in_ok-begin.ensures
    (after c.in_ok-member.ensures
    (after c.in_ok-member-2.ensures
    (after c.in_ok-member-3.ensures
    (after c.in_ok-member-4.ensures
    (after c.in_ok-member-5.ensures
    (after c.in_ok-member-6.ensures
    (after c.in_ok-member-7.ensures
    (after c.in_ok-member-8.ensures
    last)))))))))
    c.end.ensures
