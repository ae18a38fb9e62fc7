-- The numbers of JSON text (RFC 8259, section 6).
use Rattle.std.specs.Prelude.{◌≡◌, ℕ, ◌≤◌, Bool, true, false, List, [], ◌∷◌, ◌++◌, Option, Some, None, IfSome, ◌⊎◌}
use Rattle.std.specs.Option.{option_to_list}
use Rattle.std.specs.Str.Parse.{AllDigits, IsNumeral}

-- exp = e [ minus / plus ] 1*DIGIT: the byte of the e, that of the sign, and the digits
pub record Exponent : Type 0 where
  pub mark : ℕ
  pub sign : Option ℕ
  pub digits : List ℕ

-- number = [ minus ] int [ frac ] [ exp ]: the parts of a number, with the digits of frac alone
pub record Number : Type 0 where
  pub minus : Bool
  pub whole : List ℕ
  pub fraction : Option (List ℕ)
  pub exponent : Option Exponent

abbrev pub minus_text : Bool → List ℕ
minus_text true = 45 ∷ []
minus_text false = []

-- frac = decimal-point 1*DIGIT
abbrev pub fraction_text : Option (List ℕ) → List ℕ
fraction_text None = []
fraction_text (Some digits) = 46 ∷ digits

abbrev pub exponent_text : Option Exponent → List ℕ
exponent_text None = []
exponent_text (Some e) = e.mark ∷ (option_to_list e.sign ++ e.digits)

-- the bytes of a number
abbrev pub spelling : Number → List ℕ
spelling n = minus_text n.minus ++ (n.whole ++ (fraction_text n.fraction ++ exponent_text n.exponent))

-- int = zero / ( digit1-9 *DIGIT )
abbrev pub IsWhole : List ℕ → Type 0
IsWhole [] = ⊥
IsWhole (c ∷ cs) = ((c ≡ 48) × (cs ≡ [])) ⊎ ((49 ≤ c) × (c ≤ 57) × AllDigits 10 cs)

-- e = %x65 / %x45
abbrev pub IsMark : ℕ → Type 0
IsMark c = (c ≡ 101) ⊎ (c ≡ 69)

-- minus / plus
abbrev pub IsSign : ℕ → Type 0
IsSign c = (c ≡ 45) ⊎ (c ≡ 43)

pub record IsExponent (e : Exponent) : Type 0 where
  pub mark : IsMark e.mark
  pub sign : IfSome e.sign IsSign
  pub digits : IsNumeral 10 e.digits

-- each part is as the grammar asks
pub record IsWellFormed (n : Number) : Type 0 where
  pub whole : IsWhole n.whole
  pub fraction : IfSome n.fraction (IsNumeral 10)
  pub exponent : IfSome n.exponent IsExponent

-- the token is the text of this number
pub record Spells (token : List ℕ) (n : Number) : Type 0 where
  pub text : token ≡ spelling n
  pub well_formed : IsWellFormed n

-- the token is a number of RFC 8259, section 6
abbrev pub IsNumber : List ℕ → Type 0
IsNumber token = (n : Number) × Spells token n
