use Rattle.std.proofs.Common.{append_assoc}
use Rattle.gen_text.specs.Texts.{opening_properties}
use Rattle.gen_text.proofs.items.push_opening_properties.Goals as goal

pub returns : goal.returns
unfolding opening_properties
returns c =
    simp (
      c.in_ok-extend_from_slice.ensures.items,
      c.level_number.ensures,
      c.in_ok-push_identifier.ensures,
      c.in_ok-extend_from_slice-2.ensures.items,
      append_assoc,
    )
