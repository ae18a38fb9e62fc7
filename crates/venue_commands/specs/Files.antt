-- Files of the base: their names, their limits, and how one stops a command.
use Rattle.std.specs.Prelude.{◌≡◌, ℕ, ◌<◌, ◌≤◌, List, ◌++◌, length, Option, Some, None, codes}
use Rattle.std.specs.Fmt.{decimal}
use Rattle.line_forms.specs.Lines.{line}
use Rattle.line_forms.specs.Faults.{IsFaultLine}
use Rattle.venue_commands.specs.declared.load.Cause.{Cause}
use Rattle.venue_commands.specs.declared.load.Cause.TheVariants.{Missing, Large, Malformed}

abbrev pub links_name : List ℕ
links_name = codes "links.txt"

abbrev pub walk_name : List ℕ
walk_name = codes "walk.txt"

abbrev pub answer_name : List ℕ
answer_name = codes "answer.txt"

abbrev pub links_limit : ℕ
links_limit = 268435456

abbrev pub walk_limit : ℕ
walk_limit = 33554432

abbrev pub answer_limit : ℕ
answer_limit = 33554432

-- the file is there, within its limit, and is the text of this value
pub record Reads {X : Type 0} (Form : List ℕ → X → Type 0) (limit : ℕ) (found : Option (List ℕ)) (x : X) : Type 0 where
  pub bytes : List ℕ
  pub there : found ≡ Some bytes
  pub within : length bytes ≤ limit
  pub form : Form bytes x

-- why a file of the base stops the command: it is not there; it is over its limit; it is the text of no value, and n is its faulty line
abbrev pub StopsBy : {X : Type 0} → (List ℕ → X → Type 0) → ℕ → Option (List ℕ) → Cause → Type 0
StopsBy Form limit found Missing = found ≡ None
StopsBy Form limit found Large = (bytes : List ℕ) × (found ≡ Some bytes) × (limit < length bytes)
StopsBy {X} Form limit found (Malformed n) = (bytes : List ℕ) × (found ≡ Some bytes) × (length bytes ≤ limit) × IsFaultLine (λ text. (x : X) × Form text x) bytes n

abbrev pub stop_text : List ℕ → Cause → List ℕ
stop_text name Missing = line (codes "missing " ++ name)
stop_text name Large = line (codes "large " ++ name)
stop_text name (Malformed n) = line (codes "form " ++ name ++ codes " " ++ decimal n)

-- what is printed where the file is not there, is over its limit or is not of the form
pub record Stops {X : Type 0} (Form : List ℕ → X → Type 0) (limit : ℕ) (name : List ℕ) (found : Option (List ℕ)) (text : List ℕ) : Type 0 where
  pub cause : Cause
  pub why : StopsBy Form limit found cause
  pub printed : text ≡ stop_text name cause
