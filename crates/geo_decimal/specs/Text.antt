-- The text of a whole number of nanodegrees: its sign, the whole degrees, a point and nine digits.
use Rattle.std.specs.Prelude.{ℕ, ◌-◌, ◌/◌, ◌%◌, List, ◌∷◌, ◌++◌, length, replicate, ℤ, pos, negsuc, suc}
use Rattle.std.specs.Fmt.{decimal}
use Rattle.geo_decimal.specs.Value.{IsNano, IsWithin}

-- billionths in decimal, with zeros in front up to nine digits
abbrev pub nine_digits : ℕ → List ℕ
nine_digits billionths = replicate (9 - length (decimal billionths)) 48 ++ decimal billionths

abbrev pub size_text : ℕ → List ℕ
size_text size = decimal (size / 1000000000) ++ 46 ∷ nine_digits (size % 1000000000)

-- and `-` in front of what is below zero
abbrev pub degrees_text : ℤ → List ℕ
degrees_text (pos size) = size_text size
degrees_text (negsuc less) = 45 ∷ size_text (suc less)

-- Such a text of a number within the range is a token of that value.
abbrev pub ReadsBack : Type 0
ReadsBack = (n : ℤ) → IsWithin n → IsNano (degrees_text n) n
