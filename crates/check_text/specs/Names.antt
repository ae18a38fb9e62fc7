-- The printed names of rules, notes and files, by their numbers.
use Rattle.std.specs.Prelude.{ℕ, List, Option, Some, None, slice_get, codes}
use Rattle.venue_types.specs.FolderFiles as schema
use Rattle.imdf_schema.specs.Rules as rules

-- a name, or what is printed for a number that has none
abbrev pub name_or : {A : Type 0} → (A → List ℕ) → Option A → List ℕ
name_or name None = codes "?"
name_or name (Some x) = name x

-- the name of a rule
abbrev pub rule_name : ℕ → List ℕ
rule_name number = name_or rules.rule_name (rules.rule_numbered number)

-- the name of a note
abbrev pub note_name : ℕ → List ℕ
note_name number = name_or rules.note_name (rules.note_numbered number)

-- the name of a file
abbrev pub file_name : ℕ → List ℕ
file_name number = name_or schema.file_name (slice_get schema.all_files number)
