-- The order of findings, and that of notes.
use Rattle.std.specs.Ordering.{ordering_then, nat_cmp}
use Rattle.std.specs.declared.cmp.Ordering.{Ordering}
use Rattle.venue_types.specs.declared.finding.Finding.{Finding}
use Rattle.venue_types.specs.declared.finding.Note.{Note}

-- by rule, then file, then index, then member
abbrev pub finding_cmp : Finding → Finding → Ordering
finding_cmp a b = ordering_then (nat_cmp a.rule b.rule) (ordering_then (nat_cmp a.file b.file) (ordering_then (nat_cmp a.index b.index) (nat_cmp a.member b.member)))

-- by note, then file, then index, then member
abbrev pub note_cmp : Note → Note → Ordering
note_cmp a b = ordering_then (nat_cmp a.note b.note) (ordering_then (nat_cmp a.file b.file) (ordering_then (nat_cmp a.index b.index) (nat_cmp a.member b.member)))
