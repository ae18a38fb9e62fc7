use Rattle.venue_commands.proofs.Headlining.{says_headline}
use Rattle.venue_commands.proofs.laws.run_headline_law.Goals as goal

pub returns : goal.returns
returns c = says_headline c.headline_law.ensures.whole
