-- Number tokens (RFC 8259, section 6). Each part takes the text and gives what follows it.
use Rattle.std.specs.Prelude.{◌≡◌, ℕ, List, [], drop, get_or, Bool, cond, ◌||◌, ◌==◌, Option, Some, None, option_and_then}
use Rattle.std.specs.List.{prefix_len}
use Rattle.std.specs.Char.{is_ascii_digit}

-- the first byte, or a space at the end of the text
abbrev pub head : List ℕ → ℕ
head t = get_or t 0 32

-- 1*DIGIT
abbrev pub after_digits : List ℕ → Option (List ℕ)
after_digits t = cond (prefix_len is_ascii_digit t == 0) None (Some (drop (prefix_len is_ascii_digit t) t))

-- [ minus ]
abbrev pub after_minus : List ℕ → List ℕ
after_minus t = cond (head t == 45) (drop 1 t) t

-- [ minus / plus ]
abbrev pub after_sign : List ℕ → List ℕ
after_sign t = cond ((head t == 45) || (head t == 43)) (drop 1 t) t

-- int = zero / ( digit1-9 *DIGIT )
abbrev pub after_whole : List ℕ → Option (List ℕ)
after_whole t = cond (head t == 48) (Some (drop 1 t)) (after_digits t)

-- [ frac ], where frac = decimal-point 1*DIGIT
abbrev pub after_fraction : List ℕ → Option (List ℕ)
after_fraction t = cond (head t == 46) (after_digits (drop 1 t)) (Some t)

-- [ exp ], where exp = e [ minus / plus ] 1*DIGIT
abbrev pub after_exponent : List ℕ → Option (List ℕ)
after_exponent t = cond ((head t == 101) || (head t == 69)) (after_digits (after_sign (drop 1 t))) (Some t)

-- number = [ minus ] int [ frac ] [ exp ]
unfoldable pub after_number : List ℕ → Option (List ℕ)
after_number t = option_and_then after_exponent (option_and_then after_fraction (after_whole (after_minus t)))

-- the bytes are a number token
abbrev pub IsNumber : List ℕ → Type 0
IsNumber t = after_number t ≡ Some []

-- ws (RFC 8259, section 2)
abbrev pub is_space : ℕ → Bool
is_space c = (c == 32) || (c == 9) || (c == 10) || (c == 13)

-- a byte that may stand behind a value: white space, a comma or a closing bracket
abbrev pub ends_value : ℕ → Bool
ends_value c = is_space c || (c == 44) || (c == 93) || (c == 125)
