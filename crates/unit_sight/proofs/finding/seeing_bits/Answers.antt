use Rattle.std.proofs.Common.{map, ◌∙◌}
use Rattle.venue_types.specs.declared.point.Spot.{Spot}
use Rattle.plane_exact.specs.Plane.{IsInRange}
use Rattle.plane_exact.specs.Figure.{vertices}
use Rattle.plane_exact.specs.Scaled.{times}
use Rattle.plane_exact.specs.Sight.{at_spot}
use Rattle.unit_sight.proofs.RoomLemmas.{All-behind, made_near, room_fits}
use Rattle.unit_sight.proofs.finding.seeing_bits.Goals as goal

pub scaled-requires-clause-range : goal.scaled-requires-clause-range
scaled-requires-clause-range c = All-behind IsInRange (map at_spot c.args.spots.now) (vertices c.args.shape.now) c.requires.range

pub of-requires : goal.of-requires
of-requires c = made_near c.in_ok-quadrupled.quadrupled c.args.shape.now (map (λ (s : Spot). times 2 (at_spot s)) c.args.spots.now) c.in_ok-quadrupled.ensures c.requires.near

pub join_seeing-requires-clause-fits : goal.join_seeing-requires-clause-fits
join_seeing-requires-clause-fits c = room_fits c.in_ok-bands.bands c.args.shape.now c.args.spots.now c.args.t (c.in_ok-bands.ensures ∙ c.in_ok-quadrupled.ensures) c.requires.near c.requires.range c.requires.few c.requires.tolerance
