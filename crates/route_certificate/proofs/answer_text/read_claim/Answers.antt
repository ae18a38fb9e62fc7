use Rattle.std.proofs.Common.{arith}
use Rattle.route_certificate.specs.declared.answer.Claim.{Claim}
use Rattle.route_certificate.proofs.FaultNames.{named}
use Rattle.route_certificate.proofs.ClaimFaults.{no_claim}
use Rattle.route_certificate.proofs.answer_text.read_claim.Goals as goal

pub returns-in-None-clause-fault : goal.returns-in-None-clause-fault
returns-in-None-clause-fault c = λ n is.
    record {
      line = 1;
      behind = omega (arith, named {T = Claim} _ n is);
      fault = no_claim c.args.nodes c.args.text.now c.in_default.ensures.none c.in-None.ensures.none;
    }
