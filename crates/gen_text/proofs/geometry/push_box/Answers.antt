use Rattle.std.proofs.Common.{append_assoc}
use Rattle.gen_text.specs.Geometry.{box_text}
use Rattle.gen_text.proofs.geometry.push_box.Goals as goal

pub returns : goal.returns
unfolding box_text
returns c =
    simp (
      c.in_ok-extend_from_slice.ensures.items,
      c.in_ok-push_ring.ensures,
      c.in_ok-extend_from_slice-2.ensures.items,
      append_assoc,
    )
