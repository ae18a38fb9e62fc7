use Rattle.route_certificate.proofs.VerdictLemmas.{claim_true}
use Rattle.route_certificate.proofs.OneVerdict.{one_claim_verdict}
use Rattle.route_certificate.proofs.laws.verdict_law.Goals as goal

pub returns-clause-one_verdict : goal.returns-clause-one_verdict
returns-clause-one_verdict c table answer = one_claim_verdict table.links answer.from answer.to answer.claim

pub returns-clause-truth : goal.returns-clause-truth
returns-clause-truth c table answer = claim_true c.least_law.ensures.least c.cut_law.ensures table.links answer.from answer.to answer.claim
