use Rattle.std.proofs.Common.{◌≡◌, ℕ, List, length, drop}
use Rattle.venue_nodes.specs.Filling.{joined}
use Rattle.venue_nodes.proofs.unit_rows.join.Given as goal

-- as many rows, and what is left to join makes of them what all makes of the first ones
pub record IsJoining (node : ℕ) (left all : List ℕ) (rows first : List (List ℕ)) : Type 0 where
  pub many : length rows ≡ length first
  pub leads : joined node left rows ≡ joined node all first

abbrev pub invariant-loop-unit : goal.invariant-loop-unit
invariant-loop-unit l = IsJoining l.node (drop l.unit-index l.numbers) l.numbers l.rows.items l.initial.rows.items
