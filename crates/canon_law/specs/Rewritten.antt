-- What becomes of a venue whose folder is written in its fixed form.
use Rattle.std.specs.Prelude.{Bool, not, ◌==◌}
use Rattle.std.specs.List.{filter}
use Rattle.venue_types.specs.declared.finding.Note.{Note}
use Rattle.imdf_schema.specs.declared.rules.NoteKind.TheVariants as kind
use Rattle.imdf_schema.specs.Rules.{note_number}
use Rattle.venue_build.specs.Venues.{SeenVenue as Venue}

-- whether it is another note than that on the text of a unit's restriction: rows don't keep that text
abbrev pub is_kept : Note → Bool
is_kept x = not (x.note == note_number kind.N5)

-- the rows and the settings are the same, and so are the notes that are kept
abbrev pub rewritten : Venue → Venue
rewritten venue = record { features = venue.features; settings = venue.settings; notes = filter is_kept venue.notes }
