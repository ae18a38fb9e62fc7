use Rattle.std.proofs.Common.{◌+◌, ◌-◌, ◌^◌, ◌<◌, ◌≤◌, ℕ, List, [], sym, subst, arith}
use Rattle.venue_session.specs.Going.{Moment, moment, Awaits}
use Rattle.venue_session.proofs.Endings.{ends_worn}
use Rattle.venue_session.proofs.Goings.{going_first, going_renamed, nothing_awaits}
use Rattle.venue_session.proofs.whole_session.serve.Goals as goal

pub reads-init : goal.reads-init
reads-init g c =
    let first : Moment = moment (g.H.Asks.facts c.args.hall.now) (g.L.Stream.left c.args.connection.now) (g.L.Stream.written c.args.connection.now) (g.L.Stream.starts c.args.connection.now)
    (g.L.Stream.faults c.args.connection.now) in (
      going_renamed c.args.front.now first first 0 [] c.args.input.now (going_first c.args.front.now first c.requires.legal) c.requires.empty,
      subst (λ (b : List ℕ). Awaits b 0) (sym c.requires.empty) nothing_awaits,
    )

pub read_on-requires : goal.read_on-requires
read_on-requires g c = c.more_is_short_law.ensures c.args.front.now c.reads.input 0 c.reads.invariant.1.0

pub overflow_add-taken : goal.overflow_add-taken
overflow_add-taken g c =
    let heard = c.in-More.ensures c.args.front.now _ _ c.reads.taken c.reads.least c.reads.invariant.0 c.reads.invariant.1 c.reads-test.true in
    let most : c.in-More.count ≤ 81920 = heard.1 in
    let below : c.reads.taken < 2 ^ 40 = c.reads-test.true in
    omega (arith, most, below)

pub returns-in-Ended-run_where_due : goal.returns-in-Ended-run_where_due
returns-in-Ended-run_where_due g c =
    let heard = c.in-More.ensures c.args.front.now _ _ c.reads.taken c.reads.least c.reads.invariant.0 c.reads.invariant.1 c.reads-test.true in
    c.in-Ended-run_where_due.ensures
    (moment (g.H.Asks.facts c.args.hall.now) (g.L.Stream.left c.args.connection.now) (g.L.Stream.written c.args.connection.now) (g.L.Stream.starts c.args.connection.now)
    (g.L.Stream.faults c.args.connection.now))
    (c.reads.taken + c.in-More.count) heard.2 heard.3

pub reads-smaller : goal.reads-smaller
reads-smaller g c =
    let heard = c.in-More.ensures c.args.front.now _ _ c.reads.taken c.reads.least c.reads.invariant.0 c.reads.invariant.1 c.reads-test.true in
    let some : 0 < c.in-More.count = heard.0 in
    let less : 2 ^ 40 - (c.reads.taken + c.in-More.count) < 2 ^ 40 - c.reads.taken = omega (arith, some, c.reads-test.true) in
    less

pub reads-preserved : goal.reads-preserved
reads-preserved g c =
    let heard = c.in-More.ensures c.args.front.now _ _ c.reads.taken c.reads.least c.reads.invariant.0 c.reads.invariant.1 c.reads-test.true in
    c.in-Waiting.ensures
    (moment (g.H.Asks.facts c.args.hall.now) (g.L.Stream.left c.args.connection.now) (g.L.Stream.written c.args.connection.now) (g.L.Stream.starts c.args.connection.now)
    (g.L.Stream.faults c.args.connection.now))
    (c.reads.taken + c.in-More.count) heard.2 heard.3

pub returns : goal.returns
returns g c = ends_worn c.args.front.now _ _ _ _ _ _ c.reads.taken c.reads.input c.reads.invariant.0 c.reads.invariant.1.0 c.reads-test.false
