-- What is built of the rows of files is built of the files.
use Rattle.std.proofs.Common.{◌≡◌, ◌⊎◌, List, [], subst, sym, inl, inr}
use Rattle.std.specs.Prelude.{Contains}
use Rattle.venue_types.specs.declared.files.Files.{Files}
use Rattle.venue_types.specs.declared.features.Features.{Features}
use Rattle.venue_types.specs.declared.settings.Settings.{Settings}
use Rattle.venue_types.specs.declared.finding.Finding.{Finding}
use Rattle.venue_types.specs.declared.finding.Note.{Note}
use Rattle.venue_types.specs.declared.finding.Report.{Report}
use Rattle.rule_reports.specs.Reports.{IsReport, IsNoteList}
use Rattle.imdf_read.specs.Sound.{AreSound}
use Rattle.imdf_read.specs.Folder.{AreFeatures}
use Rattle.imdf_read.specs.Broken.{IsBroken}
use Rattle.imdf_read.specs.Noted.{IsNoted}
use Rattle.link_graph.specs.Unplaced.{IsUnplaced}
use Rattle.venue_build.specs.Report.{AreValid, IsVenueNoted}
use Rattle.venue_build.specs.Built.{IsRejected, IsVenueOf, IsBuilt}
use Rattle.venue_build.specs.Ground.{IsSoundVenue, IsLaterReport, IsLaterBuilt}
use Rattle.venue_build.specs.declared.built.Built.{Built}
use Rattle.venue_build.specs.declared.built.Built.TheVariants as built
use Rattle.venue_build.specs.Venues.{SeenVenue as Venue}
use Rattle.venue_build.proofs.PhaseLemmas.{nothing, rejected_later}
use Rattle.venue_build.proofs.Noting.{same_notes}

-- rows that are sound, and in which no later phase finds anything
pub valid_rows : (features : Features) (settings : Settings) (noted : List Note) (venue : Venue) → AreSound features → IsSoundVenue features settings noted venue → AreValid features settings
valid_rows features settings noted venue sound of = record { sound = sound; unbroken = of.silent }

-- the first phase finds nothing in the files, these are their rows and their notes
module _ (files : Files) (settings : Settings) (features : Features) (before : List Finding) (noted : List Note)
    (none : before ≡ []) (first : IsReport (IsBroken files) before) (rows : AreFeatures files features) (sound : AreSound features)
    (notes : IsNoteList (IsNoted files) noted) where
  -- its notes are those of the files and of the rows
  venue_notes : (list : List Note) → IsNoteList (λ x. Contains noted x ⊎ IsUnplaced features settings.border_tol x) list → IsNoteList (IsVenueNoted files features settings) list
  venue_notes list all =
      same_notes (λ x. Contains noted x ⊎ IsUnplaced features settings.border_tol x) (IsVenueNoted files features settings) list
      (λ x has. elim has [ inl old ↦ inl (notes.only x old) | inr new ↦ inr new ])
      (λ x is. elim is [ inl old ↦ inl (notes.whole x old) | inr new ↦ inr new ]) all

  sound_venue : (venue : Venue) → IsSoundVenue features settings noted venue → IsVenueOf files settings venue
  sound_venue venue of = record {
    first = nothing (IsBroken files) before none first;
    rows = subst (λ (f : Features). AreFeatures files f) (sym of.rows) rows;
    settings_given = of.settings_given;
    valid = subst (λ (f : Features). AreValid f settings) (sym of.rows) (valid_rows features settings noted venue sound of);
    notes = subst (λ (f : Features). IsNoteList (IsVenueNoted files f settings) venue.notes) (sym of.rows) (venue_notes venue.notes of.notes);
  }

  later_report : (report : Report) → IsLaterReport features settings report → IsRejected files settings report
  later_report report of = rejected_later files settings features before of.findings report none first rows of.some of.all of.short

  pub later_built : (out : Built) → IsLaterBuilt features settings noted out → IsBuilt files settings out
  later_built (built.Rejected report) of = later_report report of
  later_built (built.Venue venue) of = sound_venue venue of
