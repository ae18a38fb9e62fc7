-- What every venue keeps.
use Rattle.venue_types.specs.declared.features.Features.{Features}
use Rattle.venue_types.specs.declared.settings.Settings.{Settings}
use Rattle.link_graph.specs.Networks.{Network, IsNetworkOf}
use Rattle.venue_build.specs.declared.place_table.Places.{Places}
use Rattle.venue_build.specs.Placing.{ArePlaces}
use Rattle.venue_build.specs.Report.{AreValid}

-- every phase accepts the rows, and the network and what is kept of places are theirs
pub record IsKept (features : Features) (settings : Settings) (network : Network) (places : Places) : Type 0 where
  pub valid : AreValid features settings
  pub graph_is : IsNetworkOf features settings network
  pub places_are : ArePlaces features places
