use Rattle.venue_types.proofs.IdentifierLemmas.{read-identifier_text}
use Rattle.venue_types.proofs.feature_id.identifier_law.Goals as goal

pub returns : goal.returns
returns c id fits = read-identifier_text id fits
