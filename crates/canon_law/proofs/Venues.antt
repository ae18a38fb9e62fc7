-- The venue of a written folder.
use Rattle.std.proofs.Common.{◌≡◌, ◌≢◌, ◌∙◌, Bool, true, false, not, ◌==◌, IsTrue, refl, sym, inl, inr, arith}
use Rattle.std.specs.Prelude.{◌↔◌}
use Rattle.std.proofs.lemmas.Bool.{not-true, eqb-true, eqb-false}
use Rattle.std.proofs.lemmas.List.Kept.{IsStrictlySortedBy-filter}
use Rattle.venue_types.specs.declared.files.Files.{Files}
use Rattle.venue_types.specs.declared.finding.Note.{Note}
use Rattle.venue_types.specs.declared.settings.Settings.{Settings}
use Rattle.rule_reports.specs.Order.{note_cmp}
use Rattle.imdf_schema.specs.Rules.{note_number}
use Rattle.imdf_read.specs.Folder.{AreFeatures}
use Rattle.imdf_read.specs.Noted.{IsNoted}
use Rattle.venue_nodes.specs.declared.notes.PlaceNote.{PlaceNote}
use Rattle.venue_nodes.specs.declared.notes.PlaceNote.TheVariants.{N3, N4}
use Rattle.venue_nodes.specs.Unplaced.{note_of}
use Rattle.link_graph.proofs.Items.{from_filter, to_filter}
use Rattle.venue_build.specs.Report.{IsVenueNoted}
use Rattle.venue_build.specs.Venues.{SeenVenue as Venue}
use Rattle.venue_build.specs.Built.{IsVenueOf}
use Rattle.writing_law.specs.Written.{written, FindsNothing}
use Rattle.canon_law.specs.Rewritten.{is_kept, rewritten}

-- a note is kept where it is another
other_of : (x : Note) → IsTrue (is_kept x) → x.note ≢ 5
other_of x kept = eqb-false x.note 5 (not-true (x.note == 5) kept)

kept_of : (x : Note) → x.note ≢ 5 → IsTrue (is_kept x)
kept_of x other = go (x.note == 5) (λ e. other (eqb-true x.note 5 e))
  where
    go : (b : Bool) → ¬ (b ≡ true) → not b ≡ true
    go true h = absurd (h refl)
    go false h = refl

-- a note on places is none on a restriction
place_number : (note : PlaceNote) → note_number (note_of note) ≢ 5
place_number N3 e = omega arith
place_number N4 e = omega arith

module _ (files : Files) (settings : Settings) (venue : Venue) (is : IsVenueOf files settings venue) (none : FindsNothing (written venue.features)) (back : AreFeatures (written venue.features) venue.features)
    (same : (x : Note) → IsNoted (written venue.features) x ↔ (IsNoted files x × (x.note ≢ 5))) where
  -- what is noted of the written folder was noted before
  before : (x : Note) → IsVenueNoted (written venue.features) venue.features settings x → IsVenueNoted files venue.features settings x × (x.note ≢ 5)
  before x noted = elim noted [
    | inl read ↦ let old = (same x).0 read in (inl old.0, old.1)
    | inr placed ↦ (inr placed, (λ e. place_number placed.note (sym placed.number ∙ e)))
  ]

  -- and what was noted before, if it is another note than that on a restriction, is noted again
  after : (x : Note) → x.note ≢ 5 → IsVenueNoted files venue.features settings x → IsVenueNoted (written venue.features) venue.features settings x
  after x other noted = elim noted [ inl read ↦ inl ((same x).1 (read, other)) | inr placed ↦ inr placed ]

  pub written_venue : IsVenueOf (written venue.features) settings (rewritten venue)
  written_venue = record {
    first = none;
    rows = back;
    settings_given = is.settings_given;
    valid = is.valid;
    notes = record {
      rises = IsStrictlySortedBy-filter note_cmp is_kept venue.notes is.notes.rises;
      only = λ x at. let there = from_filter is_kept venue.notes x at in after x (other_of x there.1) (is.notes.only x there.0);
      whole = λ x noted. let old = before x noted in to_filter is_kept venue.notes x (is.notes.whole x old.0) (kept_of x old.1);
    };
  }
