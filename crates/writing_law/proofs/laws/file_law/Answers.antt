use Rattle.writing_law.proofs.Files.{features_back}
use Rattle.writing_law.proofs.laws.file_law.Goals as goal

pub returns : goal.returns
returns c features fits limit = features_back c.compact_law.ensures c.same_numbers_law.ensures features fits limit
