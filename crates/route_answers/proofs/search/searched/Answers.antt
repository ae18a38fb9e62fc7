use Rattle.std.proofs.Common.{List, [], subst}
use Rattle.std.proofs.lemmas.Result.{IfOk-weaker}
use Rattle.venue_types.specs.declared.feature_id.FeatureId.{FeatureId}
use Rattle.link_graph.specs.Graphs.{network}
use Rattle.link_graph.specs.Marking.{marked}
use Rattle.link_graph.specs.Networks.{IsPassable}
use Rattle.route_search.specs.Answers.{IsAnswer}
use Rattle.route_answers.proofs.search.searched.Goals as goal

pub returns-clause-answer : goal.returns-clause-answer
returns-clause-answer g c =
    let given = network c.args.graph.now in
    let profile = c.args.profile.now in
    IfOk-weaker c.least.result (IsAnswer (IsPassable given (marked given c.in_ok-marks.marks 0) profile) c.args.from c.args.to) (IsAnswer (IsPassable given [] profile) c.args.from c.args.to)
    (λ found. subst (λ (closed : List FeatureId). IsAnswer (IsPassable given closed profile) c.args.from c.args.to found) (c.in_ok-marks.ensures.none 0))
    c.least.ensures.answer
