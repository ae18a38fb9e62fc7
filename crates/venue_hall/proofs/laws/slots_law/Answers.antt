use Rattle.std.proofs.Common.{◌<◌, ℕ, subst}
use Rattle.venue_hall.proofs.Sizes.{all_within}
use Rattle.venue_hall.proofs.laws.slots_law.Goals as goal

pub returns : goal.returns
returns c files settings venue seventeen of = record {
  seventeen = seventeen;
  within = all_within files.slots (λ k bytes less there. c.sizes_law.ensures files settings venue k bytes of (subst (λ (n : ℕ). k < n) seventeen less) there);
}
