use Rattle.route_certificate.proofs.VerdictLemmas.{proved_exactly}
use Rattle.route_certificate.proofs.verdicts.verify.Goals as goal

pub returns-clause-proved : goal.returns-clause-proved
returns-clause-proved c = proved_exactly c.verdict_law.ensures.one_verdict c.args.table.now c.args.answer.now c.judge.result c.judge.ensures

pub returns-clause-proof : goal.returns-clause-proof
returns-clause-proof c is =
    c.verdict_law.ensures.truth c.args.table.now c.args.answer.now
    ((proved_exactly c.verdict_law.ensures.one_verdict c.args.table.now c.args.answer.now c.judge.result c.judge.ensures).0 is)
