use Rattle.std.proofs.Common.{◌≡◌, ◌++◌, take}
use Rattle.venue_nodes.specs.Views.{find_place}
use Rattle.link_graph.specs.Making.{places_on}
use Rattle.link_graph.proofs.trails.add_places.Given as goal

-- the places that the references before name are added
abbrev pub invariant-loop-reference : goal.invariant-loop-reference
invariant-loop-reference l = l.chain.items ≡ l.initial.chain.items ++ places_on (find_place l.nodes) (take l.reference-index l.references)
