use Rattle.std.proofs.lemmas.Result.{on_ok_weaker}
use Rattle.wire_replies.proofs.Lists.{after}
use Rattle.wire_replies.proofs.Tags.{texts_list}
use Rattle.wire_replies.proofs.labels.write_texts.Goals as goal

pub returns : goal.returns
returns c =
    rw (texts_list c.args.texts.entries)
    (on_ok_weaker c.end.result (λ last. after c.in_ok-begin.ensures (after c.in_ok-write_members.ensures last)) c.end.ensures)
