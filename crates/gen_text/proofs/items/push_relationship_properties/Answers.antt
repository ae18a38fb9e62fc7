use Rattle.std.proofs.Common.{append_assoc}
use Rattle.gen_text.specs.Texts.{relationship_properties}
use Rattle.gen_text.proofs.items.push_relationship_properties.Goals as goal

pub returns : goal.returns
unfolding relationship_properties
returns c =
    simp (
      c.in_ok-extend_from_slice.ensures.items,
      c.in_ok-extend_from_slice-2.ensures.items,
      c.in_ok-extend_from_slice-3.ensures.items,
      c.in_ok-push_reference.ensures,
      c.in_ok-extend_from_slice-4.ensures.items,
      c.in_ok-push_reference-2.ensures,
      c.in_ok-extend_from_slice-5.ensures.items,
      append_assoc,
    )
