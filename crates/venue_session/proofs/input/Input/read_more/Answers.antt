use Rattle.std.proofs.Common.{◌-◌, ◌≤◌, sym, ◌∙◌, take, drop, length, arith, length-drop}
use Rattle.std.proofs.lemmas.List.{length-take-le}
use Rattle.venue_session.proofs.Moving.{consumes_move}
use Rattle.venue_session.proofs.Waiting.{waits_more}
use Rattle.venue_session.proofs.input.Input.read_more.Goals as goal

pub returns-clause-ok : goal.returns-clause-ok
returns-clause-ok g c =
    let size = c.self.inside.end - c.self.inside.start in
    let bytes = c.read_behind.new.bytes.items in
    let count = c.in_ok-count.count in
    let room = c.in_ok-count.ensures.room in
    let within : count ≤ length (drop size bytes) = omega (arith, c.in_ok-count.ensures.bound, room, length-drop size bytes) in (
      take count (drop size bytes),
      sym (length-take-le count (drop size bytes) within),
      waits_more bytes c.args.self.now size count (c.in_ok-count.ensures.kept ∙ c.make_ready.ensures.front ∙ c.move_to_front.ensures.front ∙ c.self.view_is),
      consumes_move (g.L.Stream.left c.args.connection.now) (g.L.Stream.left c.read_behind.new.connection) count (drop size bytes) c.in_ok-count.ensures.bytes,
    )
