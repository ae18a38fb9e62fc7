use Rattle.std.proofs.Common.{arith}
use Rattle.std.proofs.lemmas.Grind.{common_steps}
use Rattle.link_graph.proofs.Places.{places_more}
use Rattle.venue_build.specs.Placing.{can_walk}
use Rattle.venue_build.proofs.place_table.walkable_indexes.Goals as goal

pub loop-k-preserved : goal.loop-k-preserved
loop-k-preserved c =
    let more = places_more can_walk c.args.units.now c.loop-k.k c.index-units-k.result (omega arith) in
    grind (arith, common_steps, more)
