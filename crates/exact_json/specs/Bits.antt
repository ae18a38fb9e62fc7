-- The code's own way, and no promise: kinds as the bits of numbers.
use Rattle.std.specs.Prelude.{◌≡◌, ◌<◌, ◌≤◌, ℕ, zero, suc, ◌/◌, ◌%◌, List, [], ◌∷◌, ◌++◌, cond, nat_lt, ◌==◌}
use Rattle.exact_json.specs.declared.kinds.Kind.{Kind}
use Rattle.exact_json.specs.declared.kinds.Kind.TheVariants.{List as of_list, Object as of_object}

abbrev pub kind_of_bit : ℕ → Kind
kind_of_bit r = cond (r == 0) of_list of_object

-- the bits below the leading one of a number below 2 ^ count, the lowest first
unfoldable pub bits : ℕ → ℕ → List Kind
bits zero n = []
bits (suc count) n = cond (nat_lt 1 n) (kind_of_bit (n % 2) ∷ bits count (n / 2)) []

-- those of a word of 64 bits
abbrev pub word : ℕ → List Kind
word n = bits 64 n

-- those of words, of which the last one is the newest
unfoldable pub words : List ℕ → List Kind
words [] = []
words (n ∷ ns) = words ns ++ word n

abbrev pub AllAboveOne : List ℕ → Type 0
AllAboveOne [] = Unit {0}
AllAboveOne (n ∷ ns) = (1 < n) × AllAboveOne ns

-- the newest word holds a kind, unless there is none
pub record IsStack (newest : ℕ) (full : List ℕ) : Type 0 where
  pub leading : 1 ≤ newest
  pub empty : newest ≡ 1 → full ≡ []
  pub above : AllAboveOne full
