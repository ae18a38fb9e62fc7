use Rattle.std.proofs.Common.{◌≡◌, take}
use Rattle.std.specs.List.{filter_map}
use Rattle.feature_rows.specs.Indexes.{place_of}
use Rattle.venue_nodes.proofs.walkables.Walkables.found.Given as goal

abbrev pub invariant-loop-id : goal.invariant-loop-id
invariant-loop-id l = l.found.items ≡ filter_map (place_of l.self.places) (take l.id-index l.ids)
