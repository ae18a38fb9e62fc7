use Rattle.std.proofs.Common.{append_assoc}
use Rattle.gen_text.specs.Numbers.{identifier}
use Rattle.gen_text.proofs.identifiers.push_identifier.Goals as goal

pub returns : goal.returns
unfolding identifier
returns c =
    simp
    (c.in_ok-extend_from_slice.ensures.items, c.in_ok-push_padded.ensures, append_assoc)
