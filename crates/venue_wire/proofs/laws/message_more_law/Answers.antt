use Rattle.venue_wire.proofs.laws.message_more_law.Goals as goal

pub returns : goal.returns
returns c = record {
  fault = λ keys bytes more r x. c.front_more_law.ensures.refused bytes more r x;
  message = λ keys bytes more m length close x. (x.0, c.front_more_law.ensures.framed bytes more x.0 x.1, x.2, x.3, x.4);
}
