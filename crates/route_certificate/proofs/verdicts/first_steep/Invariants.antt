use Rattle.route_certificate.specs.Verdicts.{IsGentle}
use Rattle.route_certificate.proofs.VerdictLemmas.{HoldsBefore}
use Rattle.route_certificate.proofs.verdicts.first_steep.Given as goal

abbrev pub invariant-loop-place : goal.invariant-loop-place
invariant-loop-place l = HoldsBefore (IsGentle l.cost l.at) l.links l.place
