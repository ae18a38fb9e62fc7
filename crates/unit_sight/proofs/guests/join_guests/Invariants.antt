use Rattle.std.proofs.Common.{◌≡◌, ℕ, ◌||◌, Bool, length, map}
use Rattle.unit_sight.specs.Joined.{is_blind}
use Rattle.unit_sight.specs.Tables.{places, table_of}
use Rattle.unit_sight.specs.Rooms.{AreLengths}
use Rattle.unit_sight.specs.Finding.{are_tied}
use Rattle.unit_sight.proofs.guests.join_guests.Given as goal

abbrev pub invariant-loop-a : goal.invariant-loop-a
invariant-loop-a l = record {
  size : length l.bits ≡ length l.lengths.spots.now;
  told : (sees test : ℕ → ℕ → Bool) → (far : ℕ → ℕ → ℕ) → AreLengths l.lengths.spots.now l.lengths.kx l.lengths.ky far → l.blind ≡ map (is_blind sees (places (length l.lengths.spots.now))) (places (length l.lengths.spots.now)) → l.fn.bits ≡ table_of (length l.lengths.spots.now) test → l.bits ≡ table_of (length l.lengths.spots.now) (λ i j. test i j || are_tied sees far (length l.lengths.spots.now) l.a i j);
}
