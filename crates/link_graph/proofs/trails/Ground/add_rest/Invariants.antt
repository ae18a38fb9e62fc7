use Rattle.std.proofs.Common.{◌≡◌, ◌++◌, ◌<◌, length, drop}
use Rattle.venue_nodes.specs.Nodes.{nodes}
use Rattle.link_graph.specs.Links.{chain_links}
use Rattle.link_graph.proofs.trails.Ground.add_rest.Given as goal

-- the links along what is left of the chain are to come
abbrev pub invariant-loop-next : goal.invariant-loop-next
invariant-loop-next l =
    (l.last < length (nodes l.self.features.now l.self.settings.now))
    × (l.links.items ++ chain_links l.self.features.now l.self.settings.now l.trail.via l.trail.kind l.trail.directed l.last (drop l.next-index l.rest)
    ≡ l.initial.links.items ++ chain_links l.self.features.now l.self.settings.now l.trail.via l.trail.kind l.trail.directed l.first l.rest)
