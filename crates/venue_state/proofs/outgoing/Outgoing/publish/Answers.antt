use Rattle.std.proofs.Common.{subst}
use Rattle.venue_history.specs.Report.{AreValid}
use Rattle.venue_history.specs.Venues.{SeenVenue as Venue}
use Rattle.venue_state.proofs.Outgoings.{none_behind, one_behind}
use Rattle.venue_state.proofs.outgoing.Outgoing.publish.Goals as goal

pub returns-then-not-has_room_for : goal.returns-then-not-has_room_for
returns-then-not-has_room_for c =
    none_behind c.args.self c.args.worker c.args.venue (λ room. absurd (cc (c.has_room_for.ensures.1 room, c.if-not-has_room_for.true)))

pub returns : goal.returns
returns c =
    let seen : AreValid c.deref.result.now.features c.deref.result.now.settings = record { sound = c.every_venue.ensures.sound; unbroken = c.every_venue.ensures.silent } in
    let valid = subst (λ (v : Venue). AreValid v.features v.settings) c.deref.ensures seen in
    one_behind c.args.self c.args.worker c.args.venue _ (c.has_room_for.ensures.0 c.if-not-has_room_for.false) c.requires valid c.in_ok-stand.ensures.next
