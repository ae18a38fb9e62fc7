use Rattle.std.proofs.Common.{◌+◌, sym, ◌∙◌, arith}
use Rattle.route_answers.proofs.AllPlaces.{across, in_unit, of_unit, place_few}
use Rattle.route_answers.proofs.places.across.Goals as goal

pub place_inside-requires-clause-there : goal.place_inside-requires-clause-there
place_inside-requires-clause-there c = λ area at.
    let graph = c.args.graph.now in
    let unit = of_unit graph c.args.profile.now c.args.starts.now c.args.start c.requires.starts c.requires.start in
    in_unit graph c.args.start.area area c.args.link.now c.areas_law.ensures c.units_law.ensures.rise c.units_law.ensures.apart at (sym (unit.is.via area at) ∙ c.requires.via) c.requires.there

pub returns : goal.returns
returns c =
    across c.args.graph.now c.args.profile.now c.args.starts.now c.args.start c.args.link.now c.in_ok-inside.inside
    (record { links = c.areas_law.ensures; once = c.range_law.ensures.once; units = c.units_law.ensures.within; vias = c.range_law.ensures.via })
    c.units_law.ensures.rise c.requires.starts c.requires.start c.requires.via c.requires.there c.in_ok-inside.ensures

pub overflow_add-result : goal.overflow_add-result
overflow_add-result c =
    let few = place_few c.args.graph.now c.args.profile.now c.args.link.now (c.args.start.first + c.in_ok-inside.inside)
    (across c.args.graph.now c.args.profile.now c.args.starts.now c.args.start c.args.link.now c.in_ok-inside.inside
    (record { links = c.areas_law.ensures; once = c.range_law.ensures.once; units = c.units_law.ensures.within; vias = c.range_law.ensures.via })
    c.units_law.ensures.rise c.requires.starts c.requires.start c.requires.via c.requires.there c.in_ok-inside.ensures) in
    let bound = c.range_law.ensures.links in
    omega (arith, few, bound)
