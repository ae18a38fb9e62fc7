use Rattle.std.proofs.Common.{rules}
use Rattle.venue_types.specs.Room.{HasRoom}
use Rattle.venue_service.proofs.Moving.{moved, room_moved}
use Rattle.venue_service.proofs.seats.sit_all.Goals as goal

pub loop-pass-preserved : goal.loop-pass-preserved
loop-pass-preserved g c =
    let kept = c.loop-pass.invariant in
    let taken = c.in-Some.ensures.steps.0 in (
      tt,
      tt,
      moved c.loop-pass.seats.items c.push_reserved.new.items.items c.loop-pass.pass-iterator.rest.items c.next.new.self.rest.items c.args.passes.items c.in-Some.pass (search rules) taken kept.2,
      room_moved (HasRoom c.loop-pass.seats) (HasRoom c.push_reserved.new.items) c.loop-pass.pass-iterator.rest.items c.next.new.self.rest.items c.in-Some.pass taken c.push_reserved.ensures.room kept.3,
    )
