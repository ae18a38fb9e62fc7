use Rattle.std.proofs.Common.{ap, ◌∙◌}
use Rattle.imdf_access.specs.declared.parts.EndFacts.{EndFacts}
use Rattle.route_answers.specs.Passing.{passes_facts, passes_node}
use Rattle.route_answers.proofs.Judging.{same_test, facts_are}
use Rattle.route_answers.proofs.passes.may_pass.Goals as goal

pub returns : goal.returns
unfolding passes_node
returns c =
    let means = facts_are c.args.profile.now c.ends.result in
    same_test c.passes_end.result (passes_facts c.args.profile.now c.ends.result) (λ h. means.1 (c.passes_end.ensures.facts.0 h)) (λ h. c.passes_end.ensures.facts.1 (means.0 h))
    ∙ ap (λ (facts : EndFacts). passes_facts c.args.profile.now facts) c.ends.ensures
