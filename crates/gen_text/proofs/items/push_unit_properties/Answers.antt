use Rattle.std.proofs.Common.{append_assoc}
use Rattle.gen_text.specs.Texts.{unit_properties}
use Rattle.gen_text.proofs.items.push_unit_properties.Goals as goal

pub returns : goal.returns
unfolding unit_properties
returns c =
    simp (
      c.in_ok-extend_from_slice.ensures.items,
      c.level_number.ensures,
      c.in_ok-push_identifier.ensures,
      c.in_ok-extend_from_slice-2.ensures.items,
      c.in_ok-extend_from_slice-3.ensures.items,
      c.in_ok-extend_from_slice-4.ensures.items,
      append_assoc,
    )
