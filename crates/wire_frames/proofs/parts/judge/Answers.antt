use Rattle.wire_frames.proofs.PartLemmas.{judged}
use Rattle.wire_frames.proofs.parts.judge.Goals as goal

pub returns-clause-ok : goal.returns-clause-ok
returns-clause-ok c = λ h holds.
    judged c.args.request.now h _ c.in-Some-version.minor holds c.in-Some.is c.in-Some-path.is c.in-Some-version.is
    c.in_ok-body.ensures.ok c.find_named-staff_key.ensures c.closes-close.ensures
