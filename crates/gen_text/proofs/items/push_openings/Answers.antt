use Rattle.std.proofs.Common.{append_assoc, append-nil}
use Rattle.gen_text.specs.Texts.{opening_items}
use Rattle.gen_text.proofs.EndedLemmas.{ended-append}
use Rattle.gen_text.proofs.items.push_openings.Goals as goal

pub returns : goal.returns
unfolding opening_items
returns c =
    simp (
      c.in_ok-push_room_openings.ensures,
      c.in_ok-push_opening.ensures,
      c.in_ok-push_opening-2.ensures,
      ended-append,
      append-nil,
      append_assoc,
    )
