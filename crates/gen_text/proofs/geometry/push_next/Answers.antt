use Rattle.std.proofs.Common.{append_assoc}
use Rattle.gen_text.proofs.geometry.push_next.Goals as goal

pub returns : goal.returns
returns c =
    simp
    (c.in_ok-push.ensures.items, c.in_ok-push_position.ensures, append_assoc)
