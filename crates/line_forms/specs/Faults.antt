-- Where a text of lines stops being of a form.
use Rattle.std.specs.Prelude.{◌≡◌, ℕ, ◌<◌, List, ◌++◌, length}
use Rattle.std.specs.List.{flat_map, AllByRecursion}
use Rattle.line_forms.specs.Lines.{line}
use Rattle.line_forms.specs.Fronts.{Lacks}

-- the text is n lines, each ended by LF
pub record IsLines (n : ℕ) (text : List ℕ) : Type 0 where
  pub bodies : List (List ℕ)
  pub count : length bodies ≡ n
  pub spelled : text ≡ flat_map line bodies
  pub apart : AllByRecursion (Lacks 10) bodies

-- the text begins with n lines, and some text of the form begins with them too
pub record FitsTo (Text : List ℕ → Type 0) (text : List ℕ) (n : ℕ) : Type 0 where
  pub front : List ℕ
  pub rest : List ℕ
  pub more : List ℕ
  pub parts : text ≡ front ++ rest
  pub lines : IsLines n front
  pub begun : Text (front ++ more)

-- The text is not of the form, and n is the first line such that no text of the form begins with the first n lines.
-- A last line without LF does not fit. Where all lines fit and the end is missing, n is one more than their number;
-- where no text is of the form, n is 1.
pub record IsFaultLine (Text : List ℕ → Type 0) (text : List ℕ) (n : ℕ) : Type 0 where
  pub some : 0 < n
  pub other : Text text → ⊥
  pub before : (m : ℕ) → 0 < m → m < n → FitsTo Text text m
  pub here : FitsTo Text text n → ⊥
