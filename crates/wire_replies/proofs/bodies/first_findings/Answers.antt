use Rattle.std.proofs.Common.{ℕ, ◌∙◌, ap, take}
use Rattle.std.proofs.lemmas.List.{take_min}
use Rattle.wire_replies.proofs.bodies.first_findings.Goals as goal

pub returns : goal.returns
returns c = ap (λ (n : ℕ). take n c.args.findings.now) c.min.ensures ∙ take_min 500 c.args.findings.now
