use Rattle.ring_rules.proofs.positioned.PartHasPositions.bounds.Goals as goal

pub returns : goal.returns
returns c = c.join.ensures _ _ c.bounds.ensures c.bounds_of.ensures
