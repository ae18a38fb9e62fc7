use Rattle.std.proofs.Common.{length, get_or, arith, ap, refl, ◌∙◌}
use Rattle.std.proofs.lemmas.Option.{slice_get_read}
use Rattle.link_graph.proofs.Places.{places_within}
use Rattle.venue_build.specs.Placing.{can_walk}
use Rattle.venue_build.proofs.PlaceRanges.{as_many, unit_there, index_there}
use Rattle.venue_build.proofs.place_table.unit_at.Goals as goal

pub offset_bounds-indexes-n : goal.offset_bounds-indexes-n
offset_bounds-indexes-n c = omega (arith, c.requires.few, c.requires.there)

pub bounds-indexes-n : goal.bounds-indexes-n
bounds-indexes-n c = omega (arith, ap length c.requires.indexes, as_many c.args.units.now, c.requires.there)

pub bounds-units-index : goal.bounds-units-index
bounds-units-index c =
    let index = get_or c.args.indexes.now c.args.n 0 in
    places_within can_walk c.args.units.now c.args.n index (index_there c.args.units.now c.args.indexes.now c.args.n c.requires.indexes c.requires.there)

pub returns : goal.returns
returns c =
    let units = c.args.units.now in
    let index = get_or c.args.indexes.now c.args.n 0 in
    let at = index_there units c.args.indexes.now c.args.n c.requires.indexes c.requires.there in
    unit_there units c.args.n index c.requires.there at
    ∙ slice_get_read units (length units) index c.index-units-index.result refl (places_within can_walk units c.args.n index at) c.index-units-index.is
