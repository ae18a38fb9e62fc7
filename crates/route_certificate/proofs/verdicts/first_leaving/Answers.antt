use Rattle.std.proofs.Common.{rules}
use Rattle.route_certificate.specs.Verdicts.{IsClosed}
use Rattle.route_certificate.proofs.VerdictLemmas.{holds_more, holds_all}
use Rattle.route_certificate.proofs.verdicts.first_leaving.Goals as goal

pub loop-place-preserved : goal.loop-place-preserved
loop-place-preserved c =
    let closed = c.is_closed.ensures.0 (search rules) in
    holds_more (IsClosed c.args.reached.now) c.args.links.now c.loop-place.place _ c.loop-place.invariant closed

pub returns-clause-none : goal.returns-clause-none
returns-clause-none c = holds_all (IsClosed c.args.reached.now) c.args.links.now c.loop-place.place c.loop-place-test.false c.loop-place.invariant
