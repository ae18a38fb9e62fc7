use Rattle.std.proofs.lemmas.Result.{on_ok_weaker}
use Rattle.wire_replies.proofs.Lists.{after, where_there_front}
use Rattle.wire_replies.proofs.rows.MarkWritten.write_to.Goals as goal

pub returns : goal.returns
returns c =
    simp where_there_front (on_ok_weaker c.end.result
    (λ last. after c.in_ok-begin.ensures
    (after c.in_ok-member_where_there.ensures
    (after c.in_ok-member.ensures
    (after c.in_ok-member-2.ensures
    last))))
    c.end.ensures)
