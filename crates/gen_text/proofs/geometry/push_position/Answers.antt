use Rattle.std.proofs.Common.{append_assoc}
use Rattle.gen_text.specs.Geometry.{position}
use Rattle.gen_text.proofs.geometry.push_position.Goals as goal

pub returns : goal.returns
unfolding position
returns c =
    simp
    (c.in_ok-extend_from_slice.ensures.items, c.in_ok-push_padded.ensures, c.in_ok-extend_from_slice-2.ensures.items, c.in_ok-push_padded-2.ensures, c.in_ok-push.ensures.items, append_assoc)
