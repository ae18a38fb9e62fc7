-- The code's own way, no promise: the faulty line of a text that stands after other lines.
use Rattle.std.specs.Prelude.{◌≡◌, ℕ, ◌+◌, List}
use Rattle.line_forms.specs.Faults.{IsFaultLine}

-- a line is the faulty one of a text that stands behind so many others
pub record IsFaultBehind (Form : List ℕ → Type 0) (lines : ℕ) (text : List ℕ) (n : ℕ) : Type 0 where
  pub line : ℕ
  pub behind : n ≡ lines + line
  pub fault : IsFaultLine Form text line
