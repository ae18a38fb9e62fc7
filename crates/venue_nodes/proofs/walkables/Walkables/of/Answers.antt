use Rattle.std.proofs.Common.{◌≡◌, ◌≤◌, List, length, map, filter, sym, subst, ◌∙◌}
use Rattle.std.proofs.lemmas.List.{map-id}
use Rattle.venue_types.specs.declared.feature_id.FeatureId.{FeatureId}
use Rattle.feature_rows.specs.Indexes.{AreOnce, IsIndex}
use Rattle.venue_nodes.specs.Naming.{can_walk, unit_id}
use Rattle.venue_nodes.proofs.Named.{once_kept, few_kept}
use Rattle.venue_nodes.proofs.walkables.Walkables.of.Goals as goal

pub returns : goal.returns
returns c =
    let units = c.args.units.now in
    let ids = c.in_ok-ids.ids.items in
    let are : ids ≡ map unit_id (filter can_walk units) = c.in_ok-ids.ensures in
    let listed : map (λ (id : FeatureId). id) c.as_slice.result.now ≡ ids = map-id c.as_slice.result.now ∙ c.as_slice.ensures.value in
    record {
      ids_are = are;
      indexes_are = c.in_ok-indexes.ensures;
      known = record {
        once = subst (λ (xs : List FeatureId). AreOnce xs) (sym are) (once_kept unit_id can_walk units c.requires.once);
        places_are = subst (λ (xs : List FeatureId). IsIndex xs c.in_ok-places.places) listed c.in_ok-places.ensures;
        few = subst (λ (xs : List FeatureId). length xs ≤ 100000) (sym are) (few_kept unit_id can_walk units c.requires.few);
      };
    }
