-- What can be passed over the graph is what can be used at the version.
use Rattle.std.proofs.lemmas.Result.{IfOk-weaker}
use Rattle.route_search.specs.Graphs.{network}
use Rattle.route_search.specs.Marking.{marked}
use Rattle.route_search.specs.Networks.{IsPassable}
use Rattle.route_search.specs.Answers.{IsAnswer}
use Rattle.venue_history.specs.Ways.{Usable}
use Rattle.venue_state.proofs.Routes.{version_answer}
use Rattle.venue_state.proofs.trips.searched.Goals as goal

pub returns-clause-answer : goal.returns-clause-answer
returns-clause-answer g c =
    let given = network c.graph.result.now in
    let marks = c.marks.result.now in
    let number = c.args.traveller.now.number in
    let profile = c.args.traveller.now.profile.now in
    IfOk-weaker c.least.result (IsAnswer (IsPassable given (marked given marks number) profile) c.args.a c.args.b) (IsAnswer (Usable c.args.board.now number profile) c.args.a c.args.b)
    (λ found. version_answer c.passable_law.ensures c.args.board.now given marks number profile c.args.a c.args.b found c.graph.ensures c.marks.ensures.closed)
    c.least.ensures.answer
