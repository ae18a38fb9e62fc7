use Rattle.std.proofs.Common.{append_assoc}
use Rattle.gen_text.specs.Texts.{opening_item, item}
use Rattle.gen_text.proofs.items.push_opening.Goals as goal

pub returns : goal.returns
unfolding opening_item item
returns c =
    simp (
      c.opening_number.ensures,
      c.in_ok-push_front.ensures,
      c.in_ok-push_line.ensures,
      c.in_ok-extend_from_slice.ensures.items,
      c.in_ok-push_opening_properties.ensures,
      c.in_ok-extend_from_slice-2.ensures.items,
      append_assoc,
    )
