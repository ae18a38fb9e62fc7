use Rattle.route_answers.specs.Passing.{passes_by}
use Rattle.route_answers.proofs.Judging.{same_test, by_is}
use Rattle.route_answers.proofs.passes.may_cross.Goals as goal

pub returns : goal.returns
returns c =
    let means = by_is c.args.profile.now c.args.area.kind c.args.area.restricted in
    same_test c.passes_way.result (passes_by c.args.profile.now c.args.area.kind c.args.area.restricted) (λ h. means.1 (c.passes_way.ensures.0 h)) (λ h. c.passes_way.ensures.1 (means.0 h))
