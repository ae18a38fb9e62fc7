-- Which files folders were asked for.
use Rattle.std.specs.Prelude.{◌≡◌, ℕ, List, ◌++◌, Option, Some, None, Result, Ok, Err, Bool, true, false}
use Rattle.venue_ports.specs.declared.folders.ReadFault.{ReadFault}
use Rattle.venue_ports.specs.declared.folders.ReadFault.TheVariants.{Failed, OutOfMemory}

-- a read of a file: the names of its folder and of itself, and whether it failed
pub record AskedFile : Type 0 where
  pub folder : List ℕ
  pub file : List ℕ
  pub failed : Bool

-- whether it is a failure of the folders, and not that memory ran out
abbrev pub is_failure : ReadFault → Bool
is_failure Failed = true
is_failure OutOfMemory = false

-- whether a read failed
abbrev pub has_failed : {T : Type 0} → Result T ReadFault → Bool
has_failed (Ok read) = false
has_failed (Err fault) = is_failure fault

-- between the two, exactly these files were asked for, in this order; where the later one tells nothing, nothing is said
abbrev pub HaveAsked : List AskedFile → Option (List AskedFile) → Option (List AskedFile) → Type 0
HaveAsked files before None = Unit {0}
HaveAsked files before (Some now) = (earlier : List AskedFile) × (before ≡ Some earlier) × (now ≡ earlier ++ files)
