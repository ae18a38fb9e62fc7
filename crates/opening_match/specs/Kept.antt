-- What is kept of which openings touch which units.
use Rattle.std.specs.Prelude.{ℕ, List, length}
use Rattle.venue_types.specs.declared.features.Features.{Features}
use Rattle.venue_types.specs.declared.features.OpeningRow.{OpeningRow}
use Rattle.venue_types.specs.declared.features.UnitRow.{UnitRow}
use Rattle.plane_exact.specs.Opening.{AreTouches}
use Rattle.opening_match.specs.declared.matches.Matches.{Matches}
use Rattle.opening_match.specs.declared.matches.Matches.TheVariants.{Each, Many}
use Rattle.venue_nodes.specs.TouchCounts.{TouchFew, TouchMany}
use Rattle.opening_match.specs.Rows.{AreRowsBelow}

abbrev pub AreKept : ℕ → Features → Matches → Type 0
AreKept border_tol features (Each touches) = AreTouches border_tol features touches × TouchFew border_tol features.openings features.units
AreKept border_tol features (Many counts) = TouchMany border_tol features.openings features.units counts

-- the same of lists, as rows grow unit by unit
abbrev pub AreKeptOf : ℕ → List OpeningRow → List UnitRow → Matches → Type 0
AreKeptOf border_tol openings units (Each touches) = AreRowsBelow border_tol openings units (length units) touches.rows × TouchFew border_tol openings units
AreKeptOf border_tol openings units (Many counts) = TouchMany border_tol openings units counts
