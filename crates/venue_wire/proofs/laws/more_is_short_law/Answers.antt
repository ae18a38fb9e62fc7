use Rattle.venue_wire.proofs.laws.more_is_short_law.Goals as goal

pub returns : goal.returns
returns c = λ keys bytes least x. c.short_law.ensures bytes x
