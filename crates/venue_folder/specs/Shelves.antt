-- The files of a folder, and the shelf of folders below a base.
use Rattle.std.specs.Prelude.{ℕ, ◌+◌, List, ◌++◌, map, take, Option, Some, None, codes}
use Rattle.venue_types.specs.declared.files.Files.{Files}
use Rattle.venue_types.specs.declared.files.Slot.{Slot}
use Rattle.venue_types.specs.declared.files.Slot.TheVariants as slot
use Rattle.venue_ports.specs.Files.{StoredFile, file_at}
use Rattle.venue_types.specs.declared.folder_file.File.{File}
use Rattle.venue_types.specs.FolderFiles.{file_name, all_files}

-- how many bytes a folder's file has at most
abbrev pub file_limit : ℕ
file_limit = 33554432

-- a folder's file, cut one byte after its limit, which shows that it is larger
abbrev pub slot_of : Option (List ℕ) → Slot
slot_of None = slot.Absent
slot_of (Some bytes) = slot.Held (take (file_limit + 1) bytes)

-- the file of the folder at a path
unfoldable pub slot_at : List StoredFile → List ℕ → File → Slot
slot_at stored path f = slot_of (file_at stored path (file_name f))

-- the seventeen files of the folder at a path
abbrev pub folder_files : List StoredFile → List ℕ → Files
folder_files stored path = record { slots = map (slot_at stored path) all_files }

-- the path of a folder of the base
abbrev pub folder_path : List ℕ → List ℕ → List ℕ
folder_path base folder = base ++ (codes "/" ++ folder)

-- what is told of folders: all files, and the base below which the folders are named
pub record Shelf : Type 0 where
  pub stored : List StoredFile
  pub base : List ℕ

-- the seventeen files of the folder of this name
abbrev pub shelf_files : Shelf → List ℕ → Files
shelf_files shelf folder = folder_files shelf.stored (folder_path shelf.base folder)
