use Rattle.venue_program.proofs.KeptHeadline.{kept_says}
use Rattle.venue_program.proofs.laws.kept_headline_law.Goals as goal

pub returns : goal.returns
returns c = kept_says c.headline_law.ensures.whole
