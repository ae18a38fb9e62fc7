-- Why there is no graph of some features.
use Rattle.std.specs.Prelude.{Some}
use Rattle.venue_types.specs.declared.features.Features.{Features}
use Rattle.venue_types.specs.declared.settings.Settings.{Settings}
use Rattle.venue_nodes.specs.declared.limits.Crowding.TheVariants as crowding
use Rattle.venue_nodes.specs.Crowds.{Crowds}
use Rattle.link_graph.specs.declared.faults.GraphFault.{GraphFault}
use Rattle.link_graph.specs.declared.faults.GraphFault.TheVariants.{Members, Links, Nodes, Sight, OutOfMemory}

-- the unit of this index is the first that can be walked through and has more than 4,096 members; or none has, and the squares of
-- their numbers sum to more than 20,000,000; or these are few, one walks round walls, and there are more than 400,000 nodes; or there
-- are not, and the squares, each times its unit's edges, sum to more than 2,000,000,000; memory may always run out
abbrev pub IsFault : Features → Settings → GraphFault → Type 0
IsFault features settings (Members k) = Crowds features settings (Some (crowding.Members k))
IsFault features settings Links = Crowds features settings (Some crowding.Squares)
IsFault features settings Nodes = Crowds features settings (Some crowding.Nodes)
IsFault features settings Sight = Crowds features settings (Some crowding.Sight)
IsFault features settings OutOfMemory = Unit {0}
