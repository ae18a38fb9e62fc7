-- The code's own way, and no promise: through a string byte by byte. What a string is says `Strings`.
use Rattle.std.specs.Prelude.{◌≡◌, ℕ, zero, suc, ◌+◌, ◌*◌, List, [], ◌∷◌, ◌++◌, drop, Bool, not, cond, ◌&&◌, ◌||◌, ◌==◌, nat_lt, Option, Some, None, option_map, option_and_then}
use Rattle.std.specs.Char.{digit_value, is_digit, encode_utf8}
use Rattle.exact_json.specs.Number.{head}
use Rattle.exact_json.specs.Strings.{short_escape, is_high, is_low, character_of}

-- what four hex digits spell
unfoldable pub code_unit : List ℕ → Option ℕ
code_unit [] = None
code_unit (a ∷ []) = None
code_unit (a ∷ b ∷ []) = None
code_unit (a ∷ b ∷ c ∷ []) = None
code_unit (a ∷ b ∷ c ∷ d ∷ xs) =
    cond (is_digit a 16 && is_digit b 16 && is_digit c 16 && is_digit d 16) (Some (digit_value a * 4096 + digit_value b * 256 + digit_value c * 16 + digit_value d)) None

-- the low surrogate whose escape comes next, if one does
abbrev pub low_next : List ℕ → Option ℕ
low_next xs = cond ((head xs == 92) && (head (drop 1 xs) == 117)) (option_and_then (λ u. cond (is_low u) (Some u) None) (code_unit (drop 2 xs))) None

-- with a low surrogate or without one: the character, and how many bytes spell it after `\`
abbrev pub after_high : ℕ → Option ℕ → ℕ × ℕ
after_high high None = (0xfffd, 5)
after_high high (Some low) = (character_of high low, 11)

abbrev pub unit_escape : List ℕ → ℕ → ℕ × ℕ
unit_escape xs u = cond (is_high u) (after_high u (low_next (drop 4 xs))) (cond (is_low u) (0xfffd, 5) (u, 5))

-- the character that the text after `\` spells, and in how many bytes
unfoldable pub escape : List ℕ → Option (ℕ × ℕ)
escape xs = cond (head xs == 117) (option_map (unit_escape (drop 1 xs)) (code_unit (drop 1 xs))) (option_map (λ c. (c, 1)) (short_escape (head xs)))

abbrev pub prepend : List ℕ → Option (List ℕ × List ℕ) → Option (List ℕ × List ℕ)
prepend s r = option_map (λ p. (s ++ p.0, p.1)) r

-- The text up to the closing quote, and what follows that. The first n bytes are passed over.
unfoldable pub text_at : ℕ → List ℕ → Option (List ℕ × List ℕ)
text_at n [] = None
text_at (suc n) (x ∷ xs) = text_at n xs
text_at zero (x ∷ xs) =
    cond (x == 34) (Some ([], xs))
    (cond (x == 92) (option_and_then (λ e. prepend (encode_utf8 e.0) (text_at e.1 xs)) (escape xs))
    (cond (nat_lt x 32) None (prepend (x ∷ []) (text_at zero xs))))

-- the byte stands for itself
abbrev pub is_plain : ℕ → Bool
is_plain x = not ((x == 34) || (x == 92) || nat_lt x 32)

-- reading the bytes of a string, the quotation marks with them, gives the text
abbrev pub IsTextAt : List ℕ → List ℕ → Type 0
IsTextAt s b = (body : List ℕ) × (b ≡ 34 ∷ body) × (text_at 0 body ≡ Some (s, []))
