-- How deep a text nests: the greatest number of brackets that are open at once outside strings.
use Rattle.std.specs.Prelude.{ℕ, ◌+◌, ◌-◌, max, List, [], ◌∷◌, cond, ◌||◌, ◌==◌}

-- where a walk over the bytes stands
pub data StringState : Type 0 where
  outside : StringState
  in_string : StringState
  behind_backslash : StringState

-- where it stands behind the byte c
abbrev pub next_place : StringState → ℕ → StringState
next_place outside c = cond (c == 34) in_string outside
next_place in_string c = cond (c == 34) outside (cond (c == 92) behind_backslash in_string)
next_place behind_backslash c = in_string

-- how many brackets are open behind it, where n were open in front
abbrev pub open_behind : StringState → ℕ → ℕ → ℕ
open_behind outside n c = cond ((c == 91) || (c == 123)) (n + 1) (cond ((c == 93) || (c == 125)) (n - 1) n)
open_behind in_string n c = n
open_behind behind_backslash n c = n

-- the most that are open at once in the bytes, where n are open in front
unfoldable pub most_open : StringState → ℕ → List ℕ → ℕ
most_open p n [] = n
most_open p n (c ∷ cs) = max n (most_open (next_place p c) (open_behind p n c) cs)

abbrev pub nesting : List ℕ → ℕ
nesting b = most_open outside 0 b
