use Rattle.std.proofs.Common.{◌≡◌, drop}
use Rattle.venue_types.specs.FolderFiles.{file_among}
use Rattle.venue_types.proofs.folder_file.find.Given as goal

-- the files before are of other types
abbrev pub invariant-loop-file : goal.invariant-loop-file
invariant-loop-file l = file_among (drop l.file-index l.files) l.name ≡ file_among l.files l.name
