use Rattle.std.proofs.Common.{◌≡◌, take}
use Rattle.link_graph.specs.Making.{crossings_from}
use Rattle.link_graph.proofs.trails.Ground.crossings.Given as goal

abbrev pub invariant-loop-w : goal.invariant-loop-w
invariant-loop-w l = l.crossings.items ≡ take l.w (crossings_from l.self.features.now l.self.settings.now l.first l.self.features.now.units)
