use Rattle.std.proofs.Common.{◌≡◌, ◌<◌, ℕ, List, Option, All, map, sym, ap, subst, ◌∙◌, arith}
use Rattle.std.proofs.lemmas.List.{length-map}
use Rattle.venue_types.specs.declared.link.Potential.{Potential}
use Rattle.nearest_laws.specs.Nearest.{last_cost}
use Rattle.walk_laws.specs.Reaches.{IsReach, IsWithin, AreBelow}
use Rattle.link_graph.specs.Networks.{IsPassable}
use Rattle.link_graph.specs.Views.{link_view, potential_view}
use Rattle.route_search.specs.Reaches.{bound_of, cost_of}
use Rattle.nearest_place.specs.declared.near.NearWalk.{NearWalk}
use Rattle.nearest_place.specs.Entries.{AreFirstEntries}
use Rattle.nearest_place.specs.Near.{row_of}
use Rattle.nearest_place.proofs.AnswerLemmas.{IsKnown, IsListed, first_rows, rows_known, are_first, are_shown, are_reached, fewer_rows, small_rows, small_reached}
use Rattle.nearest_place.proofs.RowLemmas.{last_within}
use Rattle.nearest_place.proofs.answers.answer.Goals as goal

pub rows_of-requires : goal.rows_of-requires
rows_of-requires c =
    (subst (AreFirstEntries (cost_of c.args.reach.now) c.args.targets.now c.args.limit) (sym c.deref.ensures.value) c.in_ok-entries.ensures).known

pub costs_below-requires : goal.costs_below-requires
costs_below-requires c =
    let reach = c.args.reach.now in
    let rows = c.in_ok-rows.rows in
    let are = first_rows reach c.args.targets.now c.args.limit c.deref.result.now rows
    (subst (AreFirstEntries (cost_of c.args.reach.now) c.args.targets.now c.args.limit) (sym c.deref.ensures.value) c.in_ok-entries.ensures) c.in_ok-rows.ensures in
    let last : c.last_of.result ≡ last_cost (map row_of rows) = c.last_of.ensures ∙ ap (λ (rs : List NearWalk). last_cost (map row_of rs)) c.as_slice.ensures in
    subst (IsWithin (bound_of reach)) (sym last) (last_within reach rows (rows_known reach c.args.targets.now c.args.limit rows are))

pub reached_if-requires : goal.reached_if-requires
reached_if-requires c asked =
    let reach = c.args.reach.now in
    let rows = c.in_ok-rows.rows in
    let are = first_rows reach c.args.targets.now c.args.limit c.deref.result.now rows
    (subst (AreFirstEntries (cost_of c.args.reach.now) c.args.targets.now c.args.limit) (sym c.deref.ensures.value) c.in_ok-entries.ensures) c.in_ok-rows.ensures in
    fewer_rows reach c.args.targets.now c.args.limit rows c.requires.enough are (c.is_short.ensures.0 asked)

pub returns-clause-near : goal.returns-clause-near
returns-clause-near c network closed profile nodes from over small =
    let IsLink = IsPassable network closed profile in
    let reach = c.args.reach.now in
    let targets = c.args.targets.now in
    let rows = c.in_ok-rows.rows in
    let listed = c.in_ok-potentials.potentials in
    let told = c.in_ok-reached.ensures.told in
    let are = first_rows reach targets c.args.limit c.deref.result.now rows
    (subst (AreFirstEntries (cost_of c.args.reach.now) c.args.targets.now c.args.limit) (sym c.deref.ensures.value) c.in_ok-entries.ensures) c.in_ok-rows.ensures in
    let last : c.last_of.result ≡ last_cost (map row_of rows) = c.last_of.ensures ∙ ap (λ (rs : List NearWalk). last_cost (map row_of rs)) c.as_slice.ensures in
    let within = last_within reach rows (rows_known reach targets c.args.limit rows are) in
    let below : AreBelow potential_view (cost_of reach) (last_cost (map row_of rows)) listed
    = subst (λ (limit : ℕ). AreBelow potential_view (cost_of reach) limit listed) last c.in_ok-potentials.ensures.costs in
    let known : IsKnown IsLink from reach = record {
      start = over.knows.start;
      least = λ n cost some. (c.reach_law.ensures.has_least (network, closed, profile) from n cost (bound_of reach) (cost_of reach) over.knows some).1.least;
      beyond = λ n bound some none. c.reach_law.ensures.beyond (network, closed, profile) from n bound (cost_of reach)
          (subst (λ (b : Option ℕ). IsReach link_view IsLink from b (cost_of reach)) some over.knows) none;
      reached = λ none n. c.reach_law.ensures.reached (network, closed, profile) from n (cost_of reach)
          (subst (λ (b : Option ℕ). IsReach link_view IsLink from b (cost_of reach)) none over.knows);
    } in
    let tells : IsListed IsLink from reach (last_cost (map row_of rows)) listed = record {
      certificate = λ n cost some low. c.below_law.ensures.certificate (network, closed, profile) from n cost (last_cost (map row_of rows)) (bound_of reach) (cost_of reach) listed over.knows within below some low;
      lesser_of = λ n. c.below_law.ensures.lesser (cost_of reach) (last_cost (map row_of rows)) n listed below;
    } in
    record {
      first = are_first network closed profile from reach targets c.args.limit rows over known c.requires.enough are;
      shown = are_shown IsLink nodes from reach targets c.args.limit rows listed known tells are below
          (subst (λ (m : ℕ). All (λ (p : Potential). p.node < m) listed) small.nodes_are c.in_ok-potentials.ensures.nodes);
      told = (
        (λ some. let fewer = c.is_short.ensures.0 (told.0 some) in omega (arith, fewer, length-map rows row_of)),
        (λ fewer. told.1 (c.is_short.ensures.1 (omega (arith, fewer, length-map rows row_of)))),
      );
      exact = are_reached IsLink from reach c.in_ok-reached.reached known c.in_ok-reached.ensures.exact c.in_ok-reached.ensures.whole c.in_ok-reached.ensures.rising;
    }

pub returns-clause-small : goal.returns-clause-small
returns-clause-small c nodes small =
    let reach = c.args.reach.now in
    let rows = c.in_ok-rows.rows in
    let are = first_rows reach c.args.targets.now c.args.limit c.deref.result.now rows
    (subst (AreFirstEntries (cost_of c.args.reach.now) c.args.targets.now c.args.limit) (sym c.deref.ensures.value) c.in_ok-entries.ensures) c.in_ok-rows.ensures in
    record {
      rows = small_rows reach c.args.targets.now c.args.limit nodes rows are small;
      reached = small_reached reach nodes c.in_ok-reached.reached small c.in_ok-reached.ensures.nodes;
    }
