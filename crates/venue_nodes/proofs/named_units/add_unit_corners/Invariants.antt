use Rattle.std.proofs.Common.{◌≡◌, ◌++◌}
use Rattle.std.specs.Prelude.{replicate}
use Rattle.venue_nodes.proofs.named_units.add_unit_corners.Given as goal

abbrev pub invariant-loop : goal.invariant-loop
invariant-loop l = l.lists ≡ l.initial.lists ++ replicate l.counter l.numbers.items
