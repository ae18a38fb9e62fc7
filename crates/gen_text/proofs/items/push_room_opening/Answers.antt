use Rattle.gen_text.specs.Texts.{room_opening_item}
use Rattle.gen_text.proofs.items.push_room_opening.Goals as goal

pub returns : goal.returns
unfolding room_opening_item
returns c =
    simp c.in_ok-push_opening.ensures
