use Rattle.std.proofs.Common.{rules}
use Rattle.route_certificate.specs.Verdicts.{IsGentle}
use Rattle.route_certificate.proofs.VerdictLemmas.{holds_more, holds_all}
use Rattle.route_certificate.proofs.verdicts.first_steep.Goals as goal

pub loop-place-preserved : goal.loop-place-preserved
loop-place-preserved c =
    let gentle = c.is_gentle.ensures.0 (search rules) in
    holds_more (IsGentle c.args.cost c.args.at.now) c.args.links.now c.loop-place.place _ c.loop-place.invariant gentle

pub returns-clause-none : goal.returns-clause-none
returns-clause-none c = holds_all (IsGentle c.args.cost c.args.at.now) c.args.links.now c.loop-place.place c.loop-place-test.false c.loop-place.invariant
