use Rattle.std.proofs.Common.{◌≡◌, ◌++◌, List, ℕ, map, take}
use Rattle.venue_nodes.specs.Naming.{numbers, ids_at}
use Rattle.venue_nodes.proofs.named_units.add_openings.Given as goal

abbrev pub invariant-loop-row : goal.invariant-loop-row
invariant-loop-row l = l.lists ≡ l.initial.lists ++ map (λ (row : List ℕ). numbers l.walkables.ids.items (ids_at l.units row)) (take l.row-index l.touched)
