-- Which files are asked for where a folder is read.
use Rattle.std.specs.Prelude.{◌≡◌, List, [], ◌∷◌, ◌++◌, map, Option, Bool, true, false, ℕ}
use Rattle.venue_types.specs.declared.folder_file.File.{File}
use Rattle.venue_types.specs.FolderFiles.{file_name}
use Rattle.venue_ports.specs.Asked.{AskedFile, HaveAsked}
use Rattle.venue_ports.specs.declared.folders.ReadFault.{ReadFault}
use Rattle.venue_ports.specs.declared.folders.ReadFault.TheVariants.{Failed, OutOfMemory}

-- a read of a folder's file
abbrev pub read_of : List ℕ → Bool → File → AskedFile
read_of path failed f = record { folder = path; file = file_name f; failed = failed }

-- reads of these files of a folder, none of which failed
abbrev pub reads_of : List ℕ → List File → List AskedFile
reads_of path files = map (read_of path false) files

-- what was asked for where a read of these files of a folder ended early: those up to the one that failed, and none behind it; where
-- memory ran out, the first ones of them
abbrev pub AskedUntil : List ℕ → List File → Option (List AskedFile) → Option (List AskedFile) → ReadFault → Type 0
AskedUntil path files before now Failed =
    (front : List File) × (at : File) × (rest : List File) × (files ≡ front ++ at ∷ rest) × HaveAsked (reads_of path front ++ read_of path true at ∷ []) before now
AskedUntil path files before now OutOfMemory = (front : List File) × (rest : List File) × (files ≡ front ++ rest) × HaveAsked (reads_of path front) before now
