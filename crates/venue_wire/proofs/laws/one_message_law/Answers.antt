use Rattle.std.proofs.Common.{ap, sym, subst, ◌∙◌}
use Rattle.wire_frames.specs.Frames.{PlainFrame}
use Rattle.venue_wire.specs.Messages.{IsTaken}
use Rattle.venue_wire.proofs.MessageLemmas.{one_taken}
use Rattle.venue_wire.proofs.laws.one_message_law.Goals as goal

pub returns : goal.returns
returns c = record {
  more_or_fault = λ keys bytes least r x y. c.one_front_law.ensures.short_or_refused bytes r x y;
  more_or_message = λ keys bytes least m length close x y. c.one_front_law.ensures.short_or_framed bytes y.0 x y.1;
  fault_or_message = λ keys bytes r m length close x y. c.one_front_law.ensures.refused_or_framed bytes r y.0 x y.1;
  one_fault = λ keys bytes r q x y. c.one_front_law.ensures.one_refusal bytes r q x y;
  one_message = λ keys bytes m n length size close closes x y.
      let same = c.one_front_law.ensures.one_frame bytes x.0 y.0 x.1 y.1 in (
        one_taken keys y.0 m n (subst (λ (f : PlainFrame). IsTaken keys f m) same x.2) y.2,
        x.3 ∙ ap (λ (f : PlainFrame). f.length) same ∙ sym y.3,
        x.4 ∙ ap (λ (f : PlainFrame). f.close) same ∙ sym y.4,
      );
}
