use Rattle.venue_build.proofs.Sizes.{within}
use Rattle.venue_build.proofs.law.sizes_law.Goals as goal

pub returns : goal.returns
returns c files settings venue number bytes of less there = within files of.first number bytes less there
