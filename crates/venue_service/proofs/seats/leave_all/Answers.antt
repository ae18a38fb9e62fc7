use Rattle.std.proofs.Common.{rules, sym, subst, ap, length, ◌∙◌}
use Rattle.venue_types.specs.Room.{HasRoom}
use Rattle.shared_hall.specs.Offices.{parts_of}
use Rattle.venue_service.proofs.Moving.{moved, room_moved, all_moved, none_moved}
use Rattle.venue_service.proofs.seats.leave_all.Goals as goal

pub loop-seat-init : goal.loop-seat-init
loop-seat-init g c =
    let given = c.into_iter-seat-iterator.ensures.into_iter_gives.0 in (
      tt,
      tt,
      none_moved c.args.passes.now.items c.into_iter-seat-iterator.result.rest.items c.args.seats.items c.requires.none given,
      subst (λ seats. HasRoom c.args.passes.now (length seats)) (sym given) c.requires.room,
    )

pub loop-seat-preserved : goal.loop-seat-preserved
loop-seat-preserved g c =
    let kept = c.loop-seat.invariant in
    let taken = c.in-Some.ensures.steps.0 in (
      tt,
      tt,
      moved c.loop-seat.passes.items c.push_reserved.new.items.items c.loop-seat.seat-iterator.rest.items c.next.new.self.rest.items c.args.seats.items c.in-Some.seat (search rules) taken kept.2,
      room_moved (HasRoom c.loop-seat.passes) (HasRoom c.push_reserved.new.items) c.loop-seat.seat-iterator.rest.items c.next.new.self.rest.items c.in-Some.seat taken c.push_reserved.ensures.room kept.3,
    )

pub returns-clause-count : goal.returns-clause-count
returns-clause-count g c =
    let rest = c.loop-seat.seat-iterator.rest in
    ap length (all_moved c.loop-seat.passes.items rest.items c.args.seats.items (sym rest.ok.0 ∙ c.in-None.ensures.steps.0) c.loop-seat.invariant.2)

pub returns-clause-parts : goal.returns-clause-parts
returns-clause-parts g c =
    let rest = c.loop-seat.seat-iterator.rest in
    ap parts_of (all_moved c.loop-seat.passes.items rest.items c.args.seats.items (sym rest.ok.0 ∙ c.in-None.ensures.steps.0) c.loop-seat.invariant.2)
