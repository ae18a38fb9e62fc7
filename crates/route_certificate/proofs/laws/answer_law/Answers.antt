use Rattle.route_certificate.proofs.AnswerFaults.{one_answer}
use Rattle.route_certificate.proofs.MoreNodes.{answer_more}
use Rattle.route_certificate.proofs.laws.answer_law.Goals as goal

pub returns-clause-one_answer : goal.returns-clause-one_answer
returns-clause-one_answer c = one_answer

pub returns-clause-more_nodes : goal.returns-clause-more_nodes
returns-clause-more_nodes c = answer_more
