use Rattle.std.proofs.Common.{ap, ◌∙◌}
use Rattle.venue_build.specs.Places.{places}
use Rattle.venue_build.specs.Placing.{place_id, walkable_indexes}
use Rattle.venue_build.proofs.FirstRows.{ids_find}
use Rattle.venue_build.proofs.FewPlaces.{few_places}
use Rattle.venue_build.proofs.place_table.Places.of.Goals as goal

pub ids_of-requires-clause-few : goal.ids_of-requires-clause-few
ids_of-requires-clause-few c = few_places c.args.features.now c.requires

pub ordinals_of-requires-clause-few : goal.ordinals_of-requires-clause-few
ordinals_of-requires-clause-few c = few_places c.args.features.now c.requires

pub returns : goal.returns
returns c =
    let features = c.args.features.now in
    record {
      index_is = ids_find place_id (places features) c.as_slice-2.result.now c.in_ok-index.index (c.as_slice-2.ensures.value ∙ c.in_ok-ids.ensures) c.in_ok-index.ensures;
      ordinals_are = c.in_ok-ordinals.ensures;
      units_are = c.in_ok-units.ensures ∙ ap walkable_indexes c.as_slice.ensures;
      few = few_places features c.requires;
    }
