-- What is made of what the system reports of a file, a read and a write.
use Rattle.std.specs.Prelude.{ℕ, List, ◌++◌, codes}

-- the path of a file: its folder, a slash, its name
abbrev pub file_path : List ℕ → List ℕ → List ℕ
file_path folder file = folder ++ (codes "/" ++ file)
