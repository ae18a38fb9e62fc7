use Rattle.std.proofs.lemmas.Result.{on_ok_weaker}
use Rattle.wire_replies.proofs.Lists.{after}
use Rattle.wire_replies.proofs.labels.write_label.Goals as goal

pub returns : goal.returns
returns c =
    let named = rw c.as_str.ensures.value at c.in_ok-member.ensures in
    on_ok_weaker c.end.result
    (λ last. after c.in_ok-begin.ensures (after named last))
    c.end.ensures
