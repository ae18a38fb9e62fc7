-- Links and potentials, as walks and certificates read them.
use Rattle.venue_types.specs.declared.link.Link.{Link}
use Rattle.venue_types.specs.declared.link.Potential.{Potential}
use Rattle.walk_laws.specs.Views.{LinkView, PotentialView}

-- a link's ends and its cost
abbrev pub link_view : LinkView Link
link_view = record { from = λ (l : Link). l.from; to = λ (l : Link). l.to; cost = λ (l : Link). l.cost }

-- a potential's node and its value
abbrev pub potential_view : PotentialView Potential
potential_view = record { node = λ (p : Potential). p.node; value = λ (p : Potential). p.value }
