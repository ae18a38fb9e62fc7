use Rattle.std.proofs.Common.{◌≡◌, drop, map}
use Rattle.imdf_access.specs.Categories.{meaning_among}
use Rattle.imdf_access.specs.Table.{word_of}
use Rattle.imdf_access.proofs.meaning.find.Given as goal

-- the rows that are left say of the word what the table says of it
abbrev pub invariant-loop-text : goal.invariant-loop-text
invariant-loop-text l = meaning_among (map word_of (drop l.text-index l.table)) l.word ≡ meaning_among (map word_of l.table) l.word
