use Rattle.std.proofs.Common.{ℕ, ◌<◌, not, true, length, filter, get_or, IfSome}
use Rattle.unit_sight.specs.Tables.{places}
use Rattle.unit_sight.specs.Rooms.{AreLengths}
use Rattle.unit_sight.specs.Nearest.{IsNearest}
use Rattle.unit_sight.proofs.hosts.nearest_of.Given as goal

abbrev pub invariant-loop-b : goal.invariant-loop-b
invariant-loop-b l = record {
  place : IfSome l.best (λ best. best.place < length l.lengths.spots.now);
  told : (far : ℕ → ℕ → ℕ) → AreLengths l.lengths.spots.now l.lengths.kx l.lengths.ky far → IsNearest (far l.a) (filter (λ b. not (get_or l.blind b true)) (places l.b)) l.best;
}
