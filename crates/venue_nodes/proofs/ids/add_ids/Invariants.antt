use Rattle.std.proofs.Common.{◌≡◌, ◌++◌, map, take}
use Rattle.venue_nodes.proofs.ids.add_ids.Given as goal

-- the identifiers of the rows before are added
abbrev pub invariant-loop-row : goal.invariant-loop-row
invariant-loop-row g l = l.ids.items ≡ l.initial.ids.items ++ map g.R.Identified.id_of (take l.row-index l.rows)
