use Rattle.gen_text.specs.Texts.{room_unit_item}
use Rattle.gen_text.proofs.items.push_room_unit.Goals as goal

pub returns : goal.returns
unfolding room_unit_item
returns c =
    simp c.in_ok-push_unit.ensures
