use Rattle.ring_rules.proofs.bounds.Bounds.join.Goals as goal

pub returns : goal.returns
returns c = λ xs ys h k. record { x = c.join.ensures _ xs ys h.x k.x; y = c.join-2.ensures _ xs ys h.y k.y }
