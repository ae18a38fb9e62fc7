use Rattle.std.proofs.Common.{append_assoc}
use Rattle.gen_text.specs.Texts.{unit_item, item}
use Rattle.gen_text.proofs.items.push_unit.Goals as goal

pub returns : goal.returns
unfolding unit_item item
returns c =
    simp (
      c.unit_number.ensures,
      c.in_ok-push_front.ensures,
      c.in_ok-push_box.ensures,
      c.in_ok-extend_from_slice.ensures.items,
      c.in_ok-push_unit_properties.ensures,
      c.in_ok-extend_from_slice-2.ensures.items,
      append_assoc,
    )
