use Rattle.std.proofs.Common.{◌≡◌, ◌+◌, ◌++◌, length, drop}
use Rattle.std.specs.Prelude.{flat_map}
use Rattle.std.specs.List.{enumerate_from}
use Rattle.link_graph.specs.Links.{relationship_links}
use Rattle.link_graph.specs.Making.{passages_from}
use Rattle.link_graph.proofs.trails.Ground.passages.Given as goal

-- the links by the relationships that are left are to come
abbrev pub invariant-loop-row : goal.invariant-loop-row
invariant-loop-row l =
    (l.via ≡ length l.self.features.now.openings + l.row-index)
    × (l.links.items ++ flat_map (relationship_links l.self.features.now l.self.settings.now) (enumerate_from l.via (drop l.row-index l.row-items))
    ≡ passages_from l.self.features.now l.self.settings.now (length l.self.features.now.openings))
