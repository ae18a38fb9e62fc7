-- The report of a folder, phase after phase, and the rows in which none finds anything.
use Rattle.std.specs.Prelude.{◌⊎◌}
use Rattle.venue_types.specs.declared.files.Files.{Files}
use Rattle.venue_types.specs.declared.features.Features.{Features}
use Rattle.venue_types.specs.declared.settings.Settings.{Settings}
use Rattle.venue_types.specs.declared.finding.Finding.{Finding}
use Rattle.venue_types.specs.declared.finding.Note.{Note}
use Rattle.rule_reports.specs.Reports.{First}
use Rattle.imdf_read.specs.Sound.{AreSound}
use Rattle.imdf_read.specs.Broken.{IsBroken}
use Rattle.imdf_read.specs.Noted.{IsNoted}
use Rattle.imdf_refs.specs.Rules.{IsMisnamed}
use Rattle.link_graph.specs.Unplaced.{IsUnplaced}
use Rattle.venue_build.specs.Phases.{IsGroundBroken}

-- the phases after the first, which judge rows: identifiers and references, then positions on the plane, then members of units
abbrev pub IsLaterBroken : Features → Settings → Finding → Type 0
IsLaterBroken features settings = First (IsMisnamed features) (IsGroundBroken features settings)

-- all phases: one is judged only where those before it find nothing
abbrev pub IsWrong : Files → Features → Settings → Finding → Type 0
IsWrong files features settings = First (IsBroken files) (IsLaterBroken features settings)

-- what is worth a note in a venue: what is noted of its files, and what is no place or leads nowhere
abbrev pub IsVenueNoted : Files → Features → Settings → Note → Type 0
IsVenueNoted files features settings x = IsNoted files x ⊎ IsUnplaced features settings.border_tol x

-- rows that every phase accepts
pub record AreValid (features : Features) (settings : Settings) : Type 0 where
  pub sound : AreSound features
  pub unbroken : (x : Finding) → ¬ IsLaterBroken features settings x
