use Rattle.wire_frames.proofs.LawLemmas.{short_length}
use Rattle.wire_frames.proofs.laws.short_law.Goals as goal

pub returns : goal.returns
returns c = short_length
