-- What can be closed has a number, and its mark tells for whom it is.
use Rattle.std.proofs.Common.{◌≡◌, ◌∙◌, List, ap, sym, subst, Contains, Some, arith}
use Rattle.std.proofs.lemmas.Option.{slice_get_within}
use Rattle.venue_types.specs.declared.feature_id.FeatureId.{FeatureId}
use Rattle.route_search.specs.Nodes.{closables}
use Rattle.route_search.specs.Numbering.{number_among}
use Rattle.route_search.proofs.Finding.{stands_there}
use Rattle.venue_history.specs.declared.entry.Closing.{Closing}
use Rattle.venue_history.specs.Closed.{set_in}
use Rattle.venue_state.specs.Boards.{version_of}
use Rattle.venue_state.proofs.Marking.{no_number, numbered, marked_here}
use Rattle.venue_state.proofs.stand.Stand.state.Goals as goal

pub returns-in-None-clause-none : goal.returns-in-None-clause-none
returns-in-None-clause-none c =
    λ has. no_number _ c.args.id (sym c.in-None.ensures) (subst (λ (xs : List FeatureId). Contains xs c.args.id) (sym c.graph.ensures.closables_are) has)

pub profiles-requires : goal.profiles-requires
profiles-requires c =
    let at : number_among (closables (version_of c.args.self.now).features) c.args.id ≡ Some c.in-Some.k =
    subst (λ (xs : List FeatureId). number_among xs c.args.id ≡ Some c.in-Some.k) c.graph.ensures.closables_are (sym c.in-Some.ensures) in
    let within = slice_get_within (closables (version_of c.args.self.now).features) c.in-Some.k c.args.id (stands_there _ _ _ at) in
    omega (arith, within, c.marks.ensures.whole)

pub returns-in-Some-clause-some : goal.returns-in-Some-clause-some
returns-in-Some-clause-some c =
    let at : number_among (closables (version_of c.args.self.now).features) c.args.id ≡ Some c.in-Some.k =
    subst (λ (xs : List FeatureId). number_among xs c.args.id ≡ Some c.in-Some.k) c.graph.ensures.closables_are (sym c.in-Some.ensures) in (
      numbered _ _ _ at,
      c.profiles.ensures ∙ marked_here c.marks.result.now _ _ _ c.marks.ensures.whole c.order_law.ensures.once at
          ∙ ap (λ (closed : List Closing). set_in closed c.args.id) c.marks.ensures.closed,
    )
