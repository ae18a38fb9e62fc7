-- The code's own way, and no promise: a token cut at its signs, its first point and its first e, whether it is a number or not.
use Rattle.std.specs.Prelude.{◌≡◌, ℕ, ◌≢◌, ◌==◌, ◌||◌, Bool, true, false, List, IfSome, IfNone, slice_index}
use Rattle.std.specs.Option.{option_map, option_copied}
use Rattle.std.specs.List.{AllByRecursion}
use Rattle.geo_decimal.specs.Number.{Exponent, Number, IsSign, spelling}
use Rattle.geo_decimal.specs.declared.parts.Exponent.{Exponent as ExponentPart}
use Rattle.geo_decimal.specs.declared.parts.Parts.{Parts}

abbrev pub exponent_of : ExponentPart → Exponent
exponent_of e = record { mark = e.mark; sign = e.sign; digits = e.digits.now }

-- what the parts are parts of
abbrev pub number_of : Parts → Number
number_of p = record { minus = p.minus; whole = p.whole.now; fraction = option_copied p.fraction; exponent = option_map exponent_of p.exponent }

-- an e
abbrev pub is_mark : ℕ → Bool
is_mark c = (c == 101) || (c == 69)

-- a byte that ends the whole part
abbrev pub is_stop : ℕ → Bool
is_stop c = (c == 46) || is_mark c

abbrev pub HasNone : (ℕ → Bool) → List ℕ → Type 0
HasNone test text = AllByRecursion (λ c. test c ≡ false) text

-- a sign that could be in front of the digits is taken from them
pub record IsCutExponent (e : Exponent) : Type 0 where
  pub mark : is_mark e.mark ≡ true
  pub sign : IfSome e.sign IsSign
  pub unsigned : IfNone e.sign ((slice_index e.digits 0 ≢ 45) × (slice_index e.digits 0 ≢ 43))

-- each part ends at the first byte that could end it
pub record IsCut (n : Number) : Type 0 where
  pub minus : n.minus ≡ false → slice_index (spelling n) 0 ≢ 45
  pub whole : HasNone is_stop n.whole
  pub fraction : IfSome n.fraction (HasNone is_mark)
  pub exponent : IfSome n.exponent IsCutExponent
