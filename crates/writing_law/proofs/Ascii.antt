-- Words of the fixed form are UTF-8, which a test of their bytes tells.
use Rattle.std.proofs.Common.{◌≡◌, ℕ, ◌<◌, List, [], ◌∷◌, Bool, true, false, ◌&&◌, nat_lt, refl, arith}
use Rattle.std.specs.Str.{IsAscii, IsUtf8}
use Rattle.std.proofs.lemmas.Bool.Decides.{nat_tests}
use Rattle.std.proofs.lemmas.Str.{IsUtf8-from_ascii}
use Rattle.std.proofs.lemmas.Str.Ascii.{IsAscii-nil, IsAscii-cons}

abbrev all_low : List ℕ → Bool
all_low [] = true
all_low (b ∷ bs) = nat_lt b 128 && all_low bs

left_true : (a b : Bool) → (a && b) ≡ true → a ≡ true
left_true true b h = refl
left_true false b h = h

right_true : (a b : Bool) → (a && b) ≡ true → b ≡ true
right_true true b h = h
right_true false b h = absurd (cc)

low_byte : (b : ℕ) → nat_lt b 128 ≡ true → b < 128
low_byte b h = grind (arith, nat_tests)

low_ascii : (bs : List ℕ) → all_low bs ≡ true → IsAscii bs
low_ascii [] h = IsAscii-nil
low_ascii (b ∷ bs) h = IsAscii-cons b bs (low_byte b (left_true (nat_lt b 128) (all_low bs) h)) (low_ascii bs (right_true (nat_lt b 128) (all_low bs) h))

pub word_utf8 : (bs : List ℕ) → all_low bs ≡ true → IsUtf8 bs
word_utf8 bs h = IsUtf8-from_ascii bs (low_ascii bs h)
