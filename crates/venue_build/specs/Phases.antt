-- The third phase of rules, the fourth and the fifth.
use Rattle.std.specs.Prelude.{ℕ, ◌⊎◌}
use Rattle.venue_types.specs.declared.features.Features.{Features}
use Rattle.venue_types.specs.declared.settings.Settings.{Settings}
use Rattle.venue_types.specs.declared.finding.Finding.{Finding}
use Rattle.rule_reports.specs.Reports.{First}
use Rattle.ring_rules.specs.Rules.{BreaksSpread, BreaksInRing}
use Rattle.contain_rules.specs.Rules.{BreaksHold}
use Rattle.link_graph.specs.Limits.{BreaksLimit}

-- a rule of the fourth phase is broken there
abbrev pub IsMisplaced : Features → ℕ → Finding → Type 0
IsMisplaced features tolerance x = BreaksInRing features x ⊎ BreaksHold features tolerance x

-- the third phase, and, where it has nothing, the fourth
abbrev pub IsPlaneBroken : Features → ℕ → Finding → Type 0
IsPlaneBroken features tolerance = First (BreaksSpread features) (IsMisplaced features tolerance)

-- the two phases on the plane, and, where they have nothing, the fifth, on how many members units have
abbrev pub IsGroundBroken : Features → Settings → Finding → Type 0
IsGroundBroken features settings = First (IsPlaneBroken features settings.contain_tol) (BreaksLimit features settings)
