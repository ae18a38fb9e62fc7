use Rattle.std.proofs.Common.{◌≢◌, ◌+◌, refl, sym, subst, arith}
use Rattle.std.specs.Prelude.{All, IsSome}
use Rattle.route_answers.specs.declared.starts.AreaStart.{AreaStart}
use Rattle.route_answers.proofs.AllPlaces.{between, place_few, stands_known}
use Rattle.route_answers.proofs.places.place.Goals as goal

pub first_place-requires : goal.first_place-requires
first_place-requires c =
    let known = between c.args.graph.now c.args.profile.now c.args.starts.now c.args.firsts.now c.args.link.now
    (record { links = c.areas_law.ensures; once = c.range_law.ensures.once; units = c.units_law.ensures.within; vias = c.range_law.ensures.via })
    c.requires.starts c.requires.firsts (subst (All (λ (start : AreaStart). start.via ≢ c.args.link.now.via)) c.deref.ensures.value c.in-None.ensures) c.requires.there c.requires.allowed in
    subst IsSome (sym known.found) refl

pub returns-in-None : goal.returns-in-None
returns-in-None c =
    stands_known c.args.graph.now c.args.profile.now c.args.firsts.now c.args.starts.now c.args.link.now c.first_place.result
    (between c.args.graph.now c.args.profile.now c.args.starts.now c.args.firsts.now c.args.link.now
    (record { links = c.areas_law.ensures; once = c.range_law.ensures.once; units = c.units_law.ensures.within; vias = c.range_law.ensures.via })
    c.requires.starts c.requires.firsts (subst (All (λ (start : AreaStart). start.via ≢ c.args.link.now.via)) c.deref.ensures.value c.in-None.ensures) c.requires.there c.requires.allowed)
    c.first_place.ensures

pub overflow_add-result : goal.overflow_add-result
overflow_add-result c =
    let few = place_few c.args.graph.now c.args.profile.now c.args.link.now (c.args.starts.now.passages + c.first_place.result)
    (stands_known c.args.graph.now c.args.profile.now c.args.firsts.now c.args.starts.now c.args.link.now c.first_place.result
    (between c.args.graph.now c.args.profile.now c.args.starts.now c.args.firsts.now c.args.link.now
    (record { links = c.areas_law.ensures; once = c.range_law.ensures.once; units = c.units_law.ensures.within; vias = c.range_law.ensures.via })
    c.requires.starts c.requires.firsts (subst (All (λ (start : AreaStart). start.via ≢ c.args.link.now.via)) c.deref.ensures.value c.in-None.ensures) c.requires.there c.requires.allowed)
    c.first_place.ensures) in
    let bound = c.range_law.ensures.links in
    omega (arith, few, bound)
