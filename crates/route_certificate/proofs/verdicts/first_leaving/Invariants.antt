use Rattle.route_certificate.specs.Verdicts.{IsClosed}
use Rattle.route_certificate.proofs.VerdictLemmas.{HoldsBefore}
use Rattle.route_certificate.proofs.verdicts.first_leaving.Given as goal

abbrev pub invariant-loop-place : goal.invariant-loop-place
invariant-loop-place l = HoldsBefore (IsClosed l.reached) l.links l.place
