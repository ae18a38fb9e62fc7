use Rattle.std.proofs.Common.{◌≡◌, map, take}
use Rattle.imdf_write.specs.Folder.{canonical_file}
use Rattle.imdf_write.proofs.folder.slots.Given as goal

abbrev pub invariant-loop-file : goal.invariant-loop-file
invariant-loop-file l = l.slots.items ≡ map (canonical_file l.features) (take l.file-index l.files)
