-- A link that leads to its end at a lower cost than is known.
use Rattle.std.specs.Prelude.{ℕ, ◌+◌, List, Option, Some, None, nat_lt, slice_index_or, if◌then◌else◌}
use Rattle.venue_types.specs.declared.link.Link.{Link}

-- the link, if it leads from a node that costs so much to its end at less than is listed there
abbrev pub lower_of : List ℕ → ℕ → Link → Option Link
lower_of least base link = if nat_lt (base + link.cost) (slice_index_or least link.to 0) then Some link else None
