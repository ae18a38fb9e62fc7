use Rattle.std.proofs.lemmas.Result.{on_ok_weaker}
use Rattle.wire_replies.proofs.Lists.{after}
use Rattle.wire_replies.proofs.rows.write_corner.Goals as goal

pub returns : goal.returns
returns c =
    on_ok_weaker c.end.result
    (λ last. after c.in_ok-begin.ensures
    (after c.in_ok-member.ensures
    (after c.in_ok-member-2.ensures
    last)))
    c.end.ensures
