use Rattle.plane_exact.proofs.LengthLemmas.{Spans-reaches}
use Rattle.plane_exact.proofs.lengths.spans.Goals as goal

pub returns : goal.returns
returns c =
    let same = Spans-reaches c.args.a c.args.b c.args.kx c.args.ky c.way_square.result c.args.c c.way_square.ensures.value in
    (λ h. same.0 (c.reaches.ensures.0 h), λ h. c.reaches.ensures.1 (same.1 h))
