use Rattle.std.proofs.Common.{append_assoc}
use Rattle.gen_text.specs.Geometry.{ring}
use Rattle.gen_text.proofs.geometry.push_ring.Goals as goal

pub returns : goal.returns
unfolding ring
returns c =
    simp (
      c.in_ok-push_position.ensures,
      c.in_ok-push_next.ensures,
      c.in_ok-push_next-2.ensures,
      c.in_ok-push_next-3.ensures,
      c.in_ok-push_next-4.ensures,
      append_assoc,
    )
