use Rattle.std.proofs.Common.{◌≡◌, map, take, length}
use Rattle.std.specs.Prelude.{IfSome}
use Rattle.venue_ports.specs.Asked.{HaveAsked}
use Rattle.venue_folder.specs.AskedFolders.{reads_of}
use Rattle.venue_folder.specs.Shelves.{slot_at}
use Rattle.venue_folder.proofs.folder_files.slots_of.Given as goal

abbrev pub invariant-loop-file : goal.invariant-loop-file
invariant-loop-file g l = record {
  told : IfSome (g.F.Folders.files l.fn.folders) (λ stored. l.slots.items ≡ map (slot_at stored l.path) (take l.file-index l.files));
  asked : HaveAsked (reads_of l.path (take l.file-index l.files)) (g.F.Folders.asked l.fn.folders) (g.F.Folders.asked l.folders);
  count : length l.slots.items ≡ l.file-index;
  same : g.F.Folders.files l.folders ≡ g.F.Folders.files l.fn.folders;
  kept : g.F.Folders.faults l.folders ≡ g.F.Folders.faults l.fn.folders;
}
