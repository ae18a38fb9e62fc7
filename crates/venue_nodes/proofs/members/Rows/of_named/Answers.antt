use Rattle.std.proofs.Common.{◌≡◌, ◌≤◌, List, ℕ, length, map, filter, sym, subst, ap, ◌∙◌, arith}
use Rattle.std.proofs.lemmas.List.{length-map}
use Rattle.venue_types.specs.declared.feature_id.FeatureId.{FeatureId}
use Rattle.venue_types.specs.declared.features.UnitRow.{UnitRow}
use Rattle.feature_rows.specs.Indexes.{AreOnce}
use Rattle.venue_nodes.specs.Members.{places_where}
use Rattle.venue_nodes.specs.Naming.{can_walk, numbers, unit_id, named_by, row_in}
use Rattle.venue_nodes.specs.Filling.{AreNumbers}
use Rattle.venue_nodes.specs.Standing.{AreStandings}
use Rattle.venue_nodes.specs.Rows.{row_list, unit_indexes, node_total}
use Rattle.venue_nodes.proofs.Folder.{few_lists, paired}
use Rattle.venue_nodes.proofs.members.Rows.of_named.Goals as goal

pub of-requires-clause-once : goal.of-requires-clause-once
of-requires-clause-once c =
    subst (λ (rows : List UnitRow). AreOnce (map unit_id rows)) (sym c.as_slice.ensures) c.requires.once

pub filled-requires-clause-few : goal.filled-requires-clause-few
filled-requires-clause-few c =
    let features = c.args.features.now in
    let walkables = c.in_ok-walkables.ensures in
    few_lists features c.args.inside c.args.touches.now.rows c.in_ok-walkables.walkables.ids.items c.in_ok-named.named c.requires.few c.requires.few_corners
    (walkables.ids_are ∙ ap (λ (rows : List UnitRow). map unit_id (filter can_walk rows)) c.as_slice.ensures) c.in_ok-named.ensures

pub invariant_of-result : goal.invariant_of-result
invariant_of-result c =
    let features = c.args.features.now in
    let owns = c.in_ok-walkables.walkables.ids.items in
    let walkables = c.in_ok-walkables.ensures in
    let nodes = named_by features c.args.inside c.args.touches.now.rows owns in
    let are : AreNumbers owns nodes c.in_ok-named.named = record { each = c.in_ok-named.ensures } in
    let filled = c.in_ok-filling.ensures nodes are in
    let rows = c.in_ok-filling.filling.rows.items in
    let members : c.in_ok-members.members ≡ rows = c.in_ok-members.ensures ∙ c.as_slice-2.ensures.value in
    let own : owns ≡ map unit_id (filter can_walk features.units) = walkables.ids_are ∙ ap (λ (rows : List UnitRow). map unit_id (filter can_walk rows)) c.as_slice.ensures in
    let few : length owns ≤ 100000 = walkables.known.few in
    let many : length c.in_ok-members.members ≡ length owns = ap length members ∙ ap length filled.rows_are ∙ length-map owns (row_in nodes) in
    record {
      seated = subst (λ (rs : List (List ℕ)). AreStandings rs c.in_ok-filling.filling.seats) (sym members) filled.standing;
      paired = paired c.as_slice.result.now owns c.in_ok-walkables.walkables.indexes.items rows c.in_ok-members.members (row_in nodes) walkables.ids_are walkables.indexes_are filled.rows_are members;
      few = omega arith;
      few_nodes = omega (arith, filled.count, few_lists features c.args.inside c.args.touches.now.rows owns c.in_ok-named.named c.requires.few c.requires.few_corners own c.in_ok-named.ensures, length-map nodes (numbers owns), ap length c.in_ok-named.ensures);
    }

pub returns : goal.returns
unfolding row_list unit_indexes node_total
returns c =
    let features = c.args.features.now in
    let owns = c.in_ok-walkables.walkables.ids.items in
    let touched = c.args.touches.now.rows in
    let walkables = c.in_ok-walkables.ensures in
    let are : AreNumbers owns (named_by features c.args.inside touched owns) c.in_ok-named.named = record { each = c.in_ok-named.ensures } in
    let filled = c.in_ok-filling.ensures (named_by features c.args.inside touched owns) are in
    let own : owns ≡ map unit_id (filter can_walk features.units) = walkables.ids_are ∙ ap (λ (rows : List UnitRow). map unit_id (filter can_walk rows)) c.as_slice.ensures in
    record {
      named_are = c.in_ok-members.ensures ∙ c.as_slice-2.ensures.value ∙ filled.rows_are ∙ ap (λ (ids : List FeatureId). map (row_in (named_by features c.args.inside touched ids)) ids) own;
      indexes_are = walkables.indexes_are ∙ ap (λ (rows : List UnitRow). places_where can_walk 0 rows) c.as_slice.ensures;
      total_is = filled.count ∙ ap (λ (ids : List FeatureId). length (named_by features c.args.inside touched ids)) own;
    }
