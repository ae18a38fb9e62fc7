-- Entries with what they are sorted by.
use Rattle.opening_match.specs.declared.entries.Entry.{Entry}
use Rattle.opening_match.specs.declared.morton.Coded.{Coded}

-- the entry behind its level and its code
abbrev pub entry_of : Coded → Entry
entry_of coded = coded.entry
