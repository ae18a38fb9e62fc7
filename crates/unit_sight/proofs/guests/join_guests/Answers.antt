use Rattle.std.proofs.Common.{◌≡◌, ◌||◌, ℕ, length, ap, ◌∙◌, arith}
use Rattle.unit_sight.specs.Tables.{table_of}
use Rattle.unit_sight.specs.Finding.{are_tied}
use Rattle.unit_sight.proofs.GuestLemmas.{guests_next}
use Rattle.unit_sight.proofs.guests.join_guests.Goals as goal

pub loop-a-preserved : goal.loop-a-preserved
loop-a-preserved c = record {
  size = c.join_guest.ensures.size;
  told =
      λ sees test far lengths same start.
      let n = length c.args.lengths.now.spots.now in
      guests_next sees far n c.loop-a.a test c.join_guest.new.bits
      (c.join_guest.ensures.told sees (λ i j. test i j || are_tied sees far n c.loop-a.a i j) far lengths same (c.loop-a.invariant.told sees test far lengths same start));
}

pub returns : goal.returns
returns c =
    λ sees test far lengths same start.
    let n = length c.args.lengths.now.spots.now in
    let size = c.size-a-end.ensures.size in
    let last : c.loop-a.a ≡ n = omega arith in
    c.loop-a.invariant.told sees test far lengths same start ∙ ap (λ (k : ℕ). table_of n (λ i j. test i j || are_tied sees far n k i j)) last
