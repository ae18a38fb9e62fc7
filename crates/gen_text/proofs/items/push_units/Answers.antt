use Rattle.std.proofs.Common.{append_assoc, append-nil}
use Rattle.gen_text.specs.Texts.{unit_items}
use Rattle.gen_text.proofs.EndedLemmas.{ended-append}
use Rattle.gen_text.proofs.items.push_units.Goals as goal

pub returns : goal.returns
unfolding unit_items
returns c =
    simp (
      c.in_ok-push_unit.ensures,
      c.in_ok-push_room_units.ensures,
      c.in_ok-push_unit-2.ensures,
      c.in_ok-push_unit-3.ensures,
      ended-append,
      append-nil,
      append_assoc,
    )
