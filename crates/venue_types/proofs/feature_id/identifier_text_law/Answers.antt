use Rattle.std.proofs.lemmas.Str.{IsUtf8-from_ascii}
use Rattle.venue_types.specs.Identifier.{identifier_text}
use Rattle.venue_types.proofs.IdentifierLemmas.{identifier_text-ascii}
use Rattle.venue_types.proofs.feature_id.identifier_text_law.Goals as goal

pub returns-clause-ascii : goal.returns-clause-ascii
returns-clause-ascii c = identifier_text-ascii

pub returns-clause-utf8 : goal.returns-clause-utf8
returns-clause-utf8 c = λ id. IsUtf8-from_ascii (identifier_text id) (identifier_text-ascii id)
