-- What disks hand out.
use Rattle.std.specs.Prelude.{◌≡◌, ℕ, ◌++◌, List, [], ◌∷◌, Option, Some, None, codes}
use Rattle.venue_ports.specs.Files.{StoredFile, file_at}
use Rattle.venue_ports.specs.Moments.{Moment, ReadIsLeft}

-- one moment, which reads these bytes; whether they were synced isn't told
pub record IsOpened (bytes : List ℕ) (moments : List Moment) : Type 0 where
  pub first : Moment
  pub one : moments ≡ first ∷ []
  pub reads : first.reads ≡ bytes
  pub left : ReadIsLeft first

-- a disk that was handed out tells nothing, or reads the bytes of a file
abbrev pub OpensFile : Option (List ℕ) → List Moment → Type 0
OpensFile None moments = ⊥
OpensFile (Some bytes) moments = IsOpened bytes moments

-- where the files are told, a disk that was handed out reads the file of these names; else it tells nothing
abbrev pub OpensDisk : Option (List StoredFile) → List ℕ → List ℕ → List Moment → Type 0
OpensDisk None base name moments = moments ≡ []
OpensDisk (Some files) base name moments = OpensFile (file_at files base name) moments

-- the path of a journal: its folder, a slash, its name, and what all journals end with
abbrev pub journal_path : List ℕ → List ℕ → List ℕ
journal_path base name = base ++ (codes "/" ++ (name ++ codes ".journal"))
