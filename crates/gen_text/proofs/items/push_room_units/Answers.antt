use Rattle.std.proofs.Common.{arith}
use Rattle.gen_text.specs.Texts.{room_unit_item}
use Rattle.gen_text.proofs.EndedLemmas.{ended_map_more, all_rooms}
use Rattle.gen_text.proofs.items.push_room_units.Goals as goal

pub loop-room-preserved : goal.loop-room-preserved
loop-room-preserved c =
    ended_map_more (room_unit_item c.args.levels c.args.level) c.args.out.now.items c.loop-room.out.items c.push_room_unit.new.out.items c.loop-room.room c.loop-room.invariant
    c.in_ok-push_room_unit.ensures

pub returns : goal.returns
returns c =
    all_rooms (room_unit_item c.args.levels c.args.level) c.args.out.now.items c.loop-room.out.items c.loop-room.room (omega (arith, c.loop-room-test.false, c.loop-room.auto.room-end)) c.loop-room.invariant
