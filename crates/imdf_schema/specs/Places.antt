-- What is reported of a feature in a folder.
use Rattle.std.specs.Prelude.{ℕ}
use Rattle.venue_types.specs.declared.finding.Finding.{Finding}
use Rattle.venue_types.specs.declared.finding.Note.{Note}
use Rattle.venue_types.specs.declared.folder_file.File.{File}
use Rattle.imdf_schema.specs.declared.rules.NoteKind.{NoteKind}
use Rattle.imdf_schema.specs.declared.rules.Rule.{Rule}
use Rattle.venue_types.specs.FolderFiles.{file_number}
use Rattle.imdf_schema.specs.Rules.{rule_number, note_number}

-- the finding that the rule is broken by a part of the file's feature at this index
abbrev pub finding_at : Rule → File → ℕ → ℕ → Finding
finding_at r f k part = record { rule = rule_number r; file = file_number f; index = k; member = part }

-- the note that is due to a part of the file's feature at this index
abbrev pub note_at : NoteKind → File → ℕ → ℕ → Note
note_at n f k part = record { note = note_number n; file = file_number f; index = k; member = part }
