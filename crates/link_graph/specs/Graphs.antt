-- What a graph is seen as.
use Rattle.link_graph.specs.declared.graph.Graph.{Graph}
use Rattle.link_graph.specs.Networks.{Network}
use Rattle.link_graph.specs.Cores.{network_in}

-- its nodes, what can be closed, and all links
unfoldable pub network : Graph → Network
network graph = network_in graph.core
