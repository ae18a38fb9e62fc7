use Rattle.std.proofs.Common.{length, ap, ◌∙◌}
use Rattle.venue_build.specs.PlaceFeatures.{feature_place}
use Rattle.venue_build.specs.Places.{places}
use Rattle.venue_build.specs.Placing.{place_id}
use Rattle.venue_build.proofs.PlaceRanges.{as_many, mapped_more}
use Rattle.venue_build.proofs.place_table.ids_of.Goals as goal

pub place_count-n-end-requires-clause-units : goal.place_count-n-end-requires-clause-units
place_count-n-end-requires-clause-units c = ap length c.requires.units ∙ as_many c.args.features.now.units

pub loop-n-preserved : goal.loop-n-preserved
loop-n-preserved c =
    let features = c.args.features.now in
    mapped_more place_id (places features) c.loop-n.n (feature_place features c.feature_at.result) c.id.result c.loop-n.ids.items c.push.new.self.items
    c.feature_at.ensures c.loop-n.invariant c.id.ensures c.in_ok-push.ensures.items
