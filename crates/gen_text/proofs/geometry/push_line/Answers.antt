use Rattle.std.proofs.Common.{append_assoc}
use Rattle.gen_text.specs.Geometry.{line_text}
use Rattle.gen_text.proofs.geometry.push_line.Goals as goal

pub returns : goal.returns
unfolding line_text
returns c =
    simp (
      c.in_ok-extend_from_slice.ensures.items,
      c.in_ok-push_position.ensures,
      c.in_ok-push_next.ensures,
      c.in_ok-extend_from_slice-2.ensures.items,
      append_assoc,
    )
