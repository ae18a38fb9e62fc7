use Rattle.board_copies.specs.Leading.{LeadsTo}
use Rattle.board_copies.specs.Stamps.{entries_of}
use Rattle.board_copies.proofs.resuming.Resuming.let_go.Goals as goal

pub invariant_of-result : goal.invariant_of-result
invariant_of-result c =
    let old = c.args.self in
    let leads : LeadsTo (entries_of old.stamp) c.in_ok-left.left = record { version = old.version; replays = old.stands; left_is = c.in_ok-left.ensures } in
    record { stands = ∣ leads ∣₁; book = old.book }
