use Rattle.link_graph.specs.Graphs.{network}
use Rattle.route_answers.proofs.GoodAnswers.{over_allowed, answer_good}
use Rattle.route_answers.proofs.answers.route_answer.Goals as goal

pub claim_of-requires-clause-allowed : goal.claim_of-requires-clause-allowed
claim_of-requires-clause-allowed c = over_allowed (network c.args.graph.now) c.args.profile.now c.args.from c.args.to c.in_ok-found.found c.in_ok-found.ensures.answer

pub returns-clause-answer : goal.returns-clause-answer
returns-clause-answer c = λ features settings is.
    answer_good c.passable_law.ensures features settings (network c.args.graph.now) c.args.profile.now c.args.from c.args.to c.range_law.ensures.nodes c.range_law.ensures.links is
    c.requires.from c.requires.to c.in_ok-found.found c.in_ok-claim.claim c.in_ok-found.ensures.answer c.in_ok-found.ensures.small (c.in_ok-claim.ensures.told features settings is)
