use Rattle.std.proofs.Common.{◌≡◌, drop}
use Rattle.venue_commands.specs.ReadCommands.{named_among}
use Rattle.venue_commands.proofs.file_word.find.Given as goal

-- the files before have other names
abbrev pub invariant-loop-file : goal.invariant-loop-file
invariant-loop-file l = named_among (drop l.file-index l.files) l.name ≡ named_among l.files l.name
