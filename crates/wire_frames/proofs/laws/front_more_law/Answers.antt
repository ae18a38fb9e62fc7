use Rattle.wire_frames.proofs.LawLemmas.{refused_more, framed_more}
use Rattle.wire_frames.proofs.laws.front_more_law.Goals as goal

pub returns : goal.returns
returns c = record { refused = refused_more; framed = framed_more }
