use Rattle.std.proofs.Common.{◌≡◌, ◌++◌, map}
use Rattle.std.specs.List.{range_with_len}
use Rattle.gen_text.specs.Ended.{ended}
use Rattle.gen_text.specs.Texts.{room_unit_item}
use Rattle.gen_text.proofs.items.push_room_units.Given as goal

abbrev pub invariant-loop-room : goal.invariant-loop-room
invariant-loop-room l = l.out.items ≡ l.initial.out.items ++ ended (map (room_unit_item l.levels l.level) (range_with_len 0 l.room))
