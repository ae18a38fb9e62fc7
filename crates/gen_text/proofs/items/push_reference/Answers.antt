use Rattle.std.proofs.Common.{append_assoc}
use Rattle.gen_text.specs.Texts.{reference}
use Rattle.gen_text.proofs.items.push_reference.Goals as goal

pub returns : goal.returns
unfolding reference
returns c =
    simp (
      c.in_ok-extend_from_slice.ensures.items,
      c.in_ok-push_identifier.ensures,
      c.in_ok-extend_from_slice-2.ensures.items,
      c.in_ok-extend_from_slice-3.ensures.items,
      c.in_ok-extend_from_slice-4.ensures.items,
      append_assoc,
    )
