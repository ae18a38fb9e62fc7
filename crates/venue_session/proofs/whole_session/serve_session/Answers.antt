use Rattle.std.proofs.Common.{refl}
use Rattle.venue_session.specs.Going.{Moment, moment}
use Rattle.venue_session.proofs.Endings.{ends_starved}
use Rattle.venue_session.proofs.Goings.{going_first}
use Rattle.venue_session.proofs.Served.{session_serves}
use Rattle.venue_session.proofs.whole_session.serve_session.Goals as goal

pub returns-in-Ok-clause-hall : goal.returns-in-Ok-clause-hall
returns-in-Ok-clause-hall g c = session_serves c.args.front.now _ _ _ _ c.serve.ensures.session

pub returns-in-Err-clause-session : goal.returns-in-Err-clause-session
unfolding going_first
returns-in-Err-clause-session g c =
    let first : Moment = moment (g.H.Asks.facts c.args.hall.now) (g.L.Stream.left c.args.connection.now) (g.L.Stream.written c.args.connection.now) (g.L.Stream.starts c.args.connection.now)
    (g.L.Stream.faults c.args.connection.now) in
    let ended = ends_starved c.args.front.now first _ _ _ _ _ 0 _ (going_first c.args.front.now first c.number-number.ensures.legal) refl in
    ended.session
