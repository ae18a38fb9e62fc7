use Rattle.wire_frames.proofs.LawLemmas.{short_not_refused, short_not_framed, head_not_refused, one_front_refusal, one_frame}
use Rattle.wire_frames.proofs.laws.one_front_law.Goals as goal

pub returns : goal.returns
returns c = record {
  short_or_refused = short_not_refused;
  short_or_framed = short_not_framed;
  refused_or_framed = λ bytes r f x y. head_not_refused bytes y.extent y.h y.size r y.head x;
  one_refusal = one_front_refusal;
  one_frame = one_frame;
}
