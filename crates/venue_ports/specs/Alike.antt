-- When two lists of files are the same files.
use Rattle.std.specs.Prelude.{◌≡◌, ℕ, List, Option, Some, Result, Vec, ◌↔◌}
use Rattle.std.specs.declared.alloc.Global.{Global}
use Rattle.venue_ports.specs.Files.{StoredFile, file_at, ReadsFile}
use Rattle.venue_ports.specs.declared.folders.ReadFault.{ReadFault}

-- under every two names both hold the same bytes, or neither holds a file
pub record HoldSame (one other : List StoredFile) : Type 0 where
  pub same : (folder file : List ℕ) → file_at one folder file ≡ file_at other folder file

-- every answer to every read fits both or neither
pub record ReadAlike (one other : List StoredFile) : Type 0 where
  pub reads : (folder file : List ℕ) (most : ℕ) (answer : Result (Option (Vec ℕ Global)) ReadFault)
      → ReadsFile (Some one) folder file most answer ↔ ReadsFile (Some other) folder file most answer
