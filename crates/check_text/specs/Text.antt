-- The text of a check: what is wrong with a folder, or that it is accepted, and what is worth a note in it.
use Rattle.std.specs.Prelude.{ℕ, List, ◌++◌, length, take, codes}
use Rattle.std.specs.List.{flat_map}
use Rattle.std.specs.Fmt.{decimal}
use Rattle.venue_types.specs.declared.finding.Finding.{Finding}
use Rattle.venue_types.specs.declared.finding.Note.{Note}
use Rattle.venue_types.specs.declared.finding.Report.{Report}
use Rattle.line_forms.specs.Lines.{line, word}
use Rattle.check_text.specs.Names.{rule_name, note_name, file_name}

-- the line of a place: what it is, by which rule or note, in which file, at which index and member
abbrev pub place_line : List ℕ → List ℕ → ℕ → ℕ → ℕ → List ℕ
place_line what name file index member = line (word what (word name (word (file_name file) (word (decimal index) (decimal member)))))

-- the line of a finding
unfoldable pub finding_line : Finding → List ℕ
finding_line found = place_line (codes "finding") (rule_name found.rule) found.file found.index found.member

-- the line of a note
unfoldable pub note_line : Note → List ℕ
note_line noted = place_line (codes "note") (note_name noted.note) noted.file noted.index noted.member

-- a rejected folder: the number of all findings, and the first 500 of them
abbrev pub rejected_text : Report → List ℕ
rejected_text report = line (codes "rejected " ++ decimal report.total) ++ flat_map finding_line (take 500 report.first)

-- an accepted folder: the number of its features, the number of all notes, and the first 500 of them
abbrev pub accepted_text : ℕ → List Note → List ℕ
accepted_text count notes =
    line (codes "accepted " ++ decimal count) ++ (line (codes "notes " ++ decimal (length notes)) ++ flat_map note_line (take 500 notes))
