-- What becomes of a session, and of the writing of a file, that nothing stops.
use Rattle.std.specs.Prelude.{◌≡◌, ◌⊎◌, ℕ, List, Option}
use Rattle.venue_types.specs.declared.folder_file.File.{File}
use Rattle.venue_ports.specs.Files.{StoredFile}
use Rattle.venue_commands.specs.declared.status.Status.{Status}
use Rattle.venue_commands.specs.declared.status.Status.TheVariants.{Done, Negative, Memory}
use Rattle.venue_session.specs.Venues.{SeenVenue as Venue}
use Rattle.venue_commands.specs.Runs.{Run, Wrote}
use Rattle.venue_commands.specs.Served.{Served}
use Rattle.venue_commands.specs.Written.{written_text}

-- the session was served and ended by itself, or memory ran out
abbrev pub IsServedOut : List (List ℕ) → Option (List StoredFile) → Run → Status → Type 0
IsServedOut words files run status = (Served words files run status × ((status ≡ Done) ⊎ (status ≡ Negative))) ⊎ (status ≡ Memory)

-- the file of the venue's features in the fixed form was printed, all of it and nothing behind it, or memory ran out
abbrev pub IsWrittenOut : Venue → File → Run → Status → Type 0
IsWrittenOut venue file run status = ((status ≡ Done) × Wrote run.written run.written_now (written_text venue file)) ⊎ (status ≡ Memory)
