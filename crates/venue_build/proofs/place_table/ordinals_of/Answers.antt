use Rattle.std.proofs.Common.{rules, length, to_z, of_z, ap, ◌∙◌}
use mir.Syntax.{w16}
use mir.Val.{SFits}
use Rattle.std.proofs.lemmas.Int.{to_z-of_z}
use Rattle.venue_types.specs.declared.features.Features.{Features}
use Rattle.venue_build.specs.PlaceFeatures.{feature_ordinal, feature_place}
use Rattle.venue_build.specs.Places.{places}
use Rattle.venue_build.specs.Placing.{place_ordinal}
use Rattle.venue_build.proofs.PlaceRanges.{as_many, mapped_more}
use Rattle.venue_build.proofs.place_table.ordinals_of.Goals as goal

pub place_count-n-end-requires-clause-units : goal.place_count-n-end-requires-clause-units
place_count-n-end-requires-clause-units c = ap length c.requires.units ∙ as_many c.args.features.now.units

pub loop-n-preserved : goal.loop-n-preserved
loop-n-preserved c =
    let features = c.args.features.now in
    let fits : SFits w16 c.of_place.result = search rules in
    mapped_more place_ordinal (places features) c.loop-n.n (feature_place features c.feature_at.result) (to_z w16 (of_z w16 c.of_place.result)) c.loop-n.ordinals.items c.push.new.self.items
    c.feature_at.ensures c.loop-n.invariant
    (to_z-of_z w16 c.of_place.result fits ∙ c.of_place.ensures ∙ ap (λ (f : Features). feature_ordinal f c.feature_at.result) c.in_ok-known.ensures) c.in_ok-push.ensures.items
