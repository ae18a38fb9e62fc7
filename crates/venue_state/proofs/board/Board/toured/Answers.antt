-- The best order of the table's costs is a best tour.
use Rattle.std.proofs.Common.{◌∙◌, List, Option, length, ap, subst}
use Rattle.std.proofs.lemmas.Result.{IfOk-weaker}
use Rattle.venue_types.specs.declared.feature_id.FeatureId.{FeatureId}
use Rattle.venue_types.specs.declared.query.Ask.TheVariants as ask
use Rattle.venue_history.specs.Answers.{AnswersAsk}
use Rattle.venue_history.specs.Ways.{Usable}
use Rattle.venue_state.specs.declared.tour_ways.Way.{Way}
use Rattle.venue_state.specs.Touring.{AreCostsOf, TellsNoTour, TellsTour}
use Rattle.venue_state.proofs.TourAnswers.{no_tour_answers, tour_answers}
use Rattle.venue_state.proofs.TourOrders.{small_costs}
use Rattle.venue_state.proofs.board.Board.toured.Goals as goal

pub best-requires-clause-small : goal.best-requires-clause-small
best-requires-clause-small c =
    let are = subst (λ (table : List (List (Option Way))). AreCostsOf table c.costs_of.result) c.as_slice.ensures c.costs_of.ensures.costs in
    small_costs (Usable c.args.self.now c.args.traveller.now.number c.args.traveller.now.profile.now) c.args.a c.args.stops.now c.args.b c.in_ok-table.table c.costs_of.result
    c.in_ok-table.ensures are

pub returns-in-Some : goal.returns-in-Some
returns-in-Some c =
    let v = c.args.self.now in
    let asked = c.args.asked.now in
    let table = c.in_ok-table.table in
    let order = c.in-Some.order in
    let are = subst (λ (table : List (List (Option Way))). AreCostsOf table c.costs_of.result) c.as_slice.ensures c.costs_of.ensures.costs in
    let count = c.costs_of.ensures.stops ∙ c.len-count.ensures ∙ ap (λ (ids : List FeatureId). length ids) c.stops.ensures.stops in
    IfOk-weaker c.tour_told.result (TellsTour v asked c.as_slice-in-Some.result.now order) (AnswersAsk v (ask.Tour asked))
    (λ told is. tour_answers v asked c.args.traveller.now.number c.args.traveller.now.profile.now c.args.a c.args.stops.now c.args.b table c.costs_of.result order c.requires.trip
    c.in_ok-table.ensures are count c.stops.ensures.few c.stops.ensures.some c.in-Some.ensures.best told
    (subst (λ (table : List (List (Option Way))). TellsTour v asked table order told) c.as_slice-in-Some.ensures is))
    c.tour_told.ensures

pub returns : goal.returns
returns c =
    let v = c.args.self.now in
    let asked = c.args.asked.now in
    let are = subst (λ (table : List (List (Option Way))). AreCostsOf table c.costs_of.result) c.as_slice.ensures c.costs_of.ensures.costs in
    let count = c.costs_of.ensures.stops ∙ c.len-count.ensures ∙ ap (λ (ids : List FeatureId). length ids) c.stops.ensures.stops in
    IfOk-weaker c.no_tour_told.result (TellsNoTour v asked) (AnswersAsk v (ask.Tour asked))
    (λ told is. no_tour_answers v asked c.args.traveller.now.number c.args.traveller.now.profile.now c.args.a c.args.stops.now c.args.b c.in_ok-table.table c.costs_of.result
    c.requires.trip c.in_ok-table.ensures are count c.stops.ensures.few c.stops.ensures.some c.in-None.ensures.none told is)
    c.no_tour_told.ensures
