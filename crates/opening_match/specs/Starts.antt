-- Where openings begin, in two orders.
use Rattle.std.specs.Prelude.{List}
use Rattle.venue_types.specs.declared.features.OpeningRow.{OpeningRow}
use Rattle.opening_match.specs.declared.starts.Starts.{Starts}
use Rattle.opening_match.specs.Entries.{AreEntries, AreRising}
use Rattle.opening_match.specs.Trees.{IsTreeOf}

-- one entry for each opening, in order, and a tree of the same
pub record AreStarts (openings : List OpeningRow) (starts : Starts) : Type 0 where
  pub entries : AreEntries openings starts.entries.items
  pub rising : AreRising starts.entries.items
  pub tree : IsTreeOf starts.entries.items starts.tree
