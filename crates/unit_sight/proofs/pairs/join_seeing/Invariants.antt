use Rattle.std.proofs.Common.{◌≡◌, length, IfSome}
use Rattle.venue_types.specs.declared.point.Shape.{Shape}
use Rattle.plane_exact.specs.Scaled.{scaled}
use Rattle.plane_exact.specs.Walls.{IsWallOf}
use Rattle.unit_sight.specs.Tables.{table_of}
use Rattle.unit_sight.specs.Rooms.{sees_in}
use Rattle.unit_sight.specs.Finding.{asked}
use Rattle.unit_sight.proofs.pairs.join_seeing.Given as goal

abbrev pub invariant-loop-i : goal.invariant-loop-i
invariant-loop-i l = record {
  wall : IfSome l.last (λ it. IsWallOf l.room.bands it);
  size : length l.bits ≡ length l.room.spots.now;
  told : (shape : Shape) → l.room.bands ≡ scaled 4 shape → l.bits ≡ table_of (length l.room.spots.now) (asked (sees_in shape l.room.spots.now l.room.tolerance) l.i 0);
}
