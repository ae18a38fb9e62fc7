use Rattle.std.proofs.Common.{◌≡◌, ℕ, ◌<◌, Some}
use Rattle.std.specs.Prelude.{slice_get}
use Rattle.link_graph.specs.declared.stretches.Stretch.{Stretch}
use Rattle.link_graph.specs.Graphs.{network}
use Rattle.route_search.specs.Scans.{IsOwn}
use Rattle.route_search.proofs.quiet.is_quiet.Given as goal

abbrev pub invariant-loop-k : goal.invariant-loop-k
invariant-loop-k l = (j : ℕ) (stretch : Stretch) → j < l.k → slice_get ((network l.graph).stretches l.node) j ≡ Some stretch → IsOwn (network l.graph) l.link.via l.link.from l.node stretch
