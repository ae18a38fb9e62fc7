-- What becomes of a folder: its report, or a venue.
use Rattle.std.specs.Prelude.{◌≡◌, ◌<◌}
use Rattle.venue_types.specs.declared.files.Files.{Files}
use Rattle.venue_types.specs.declared.features.Features.{Features}
use Rattle.venue_types.specs.declared.settings.Settings.{Settings}
use Rattle.venue_types.specs.declared.finding.Finding.{Finding}
use Rattle.venue_types.specs.declared.finding.Report.{Report}
use Rattle.rule_reports.specs.Reports.{IsShortReport, IsNoteList}
use Rattle.imdf_read.specs.Folder.{AreFeatures}
use Rattle.imdf_read.specs.Broken.{IsBroken}
use Rattle.venue_build.specs.Venues.{SeenVenue as Venue}
use Rattle.venue_build.specs.declared.built.Built.{Built}
use Rattle.venue_build.specs.declared.built.Built.TheVariants as built
use Rattle.venue_build.specs.Report.{IsWrong, IsVenueNoted, AreValid}

-- a report that isn't empty: the first 500 of all findings of the first phase that has any, and how many it has;
-- features are the rows of the files where the first phase finds nothing, and any rows at all where it finds something
pub record IsRejected (files : Files) (settings : Settings) (report : Report) : Type 0 where
  pub features : Features
  pub rows : ((x : Finding) → ¬ IsBroken files x) → AreFeatures files features
  pub short : IsShortReport (IsWrong files features settings) report
  pub some : 0 < report.total

-- no phase finds anything: the rows of the files, the settings that were given, and what is worth a note
pub record IsVenueOf (files : Files) (settings : Settings) (venue : Venue) : Type 0 where
  pub first : (x : Finding) → ¬ IsBroken files x
  pub rows : AreFeatures files venue.features
  pub settings_given : venue.settings ≡ settings
  pub valid : AreValid venue.features settings
  pub notes : IsNoteList (IsVenueNoted files venue.features settings) venue.notes

abbrev pub IsBuilt : Files → Settings → Built → Type 0
IsBuilt files settings (built.Rejected report) = IsRejected files settings report
IsBuilt files settings (built.Venue venue) = IsVenueOf files settings venue
