use Rattle.wire_frames.proofs.HeadLemmas.{request_extent}
use Rattle.wire_frames.proofs.laws.head_extent_law.Goals as goal

pub returns : goal.returns
returns c = request_extent
