use Rattle.std.proofs.Common.{append_assoc}
use Rattle.gen_text.specs.Texts.{item}
use Rattle.gen_text.proofs.items.push_relationship.Goals as goal

pub returns : goal.returns
unfolding item
returns c =
    simp (
      c.in_ok-push_front.ensures,
      c.in_ok-extend_from_slice.ensures.items,
      c.in_ok-extend_from_slice-2.ensures.items,
      c.in_ok-push_relationship_properties.ensures,
      c.in_ok-extend_from_slice-3.ensures.items,
      append_assoc,
    )
