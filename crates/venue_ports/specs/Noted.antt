-- Reads that were noted in memory, as contracts see them.
use Rattle.std.specs.Prelude.{string_bytes}
use Rattle.venue_ports.specs.Asked.{AskedFile}
use Rattle.venue_ports.specs.declared.read_log.ReadNote.{ReadNote}

abbrev pub noted_read : ReadNote → AskedFile
noted_read note = record { folder = string_bytes note.folder; file = string_bytes note.file; failed = note.failed }
