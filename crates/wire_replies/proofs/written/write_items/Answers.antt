use Rattle.std.proofs.lemmas.List.{take_all}
use Rattle.std.proofs.lemmas.Result.{on_ok_weaker}
use Rattle.wire_replies.proofs.Lists.{after, items_list}
use Rattle.wire_replies.proofs.written.write_items.Goals as goal

pub returns : goal.returns
returns g c =
    let written = rw (take_all c.loop-item.item-index c.args.items.now c.loop-item-test.false) at c.loop-item.invariant in
    on_ok_weaker c.end_list.result
    (λ last. rw (items_list g.T.Written.shown c.args.items.now)
    (after c.in_ok-begin_list.ensures (after written last)))
    c.end_list.ensures
