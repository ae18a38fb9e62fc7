-- The code's own way, no promise: four digits of an identifier's text as one number.
use Rattle.std.specs.Prelude.{◌≡◌, ℕ, ◌+◌, ◌-◌, ◌/◌, ◌%◌, ◌<◌, List, slice_index, if◌then◌else◌, nat_le, ◌&&◌}
use Rattle.uuid.specs.Text.{hex_digit, lower}

-- the four bytes from a place on are the digits of a number in lower case
pub record IsFour (text : List ℕ) (at n : ℕ) : Type 0 where
  pub small : n < 65536
  pub first : slice_index text at ≡ hex_digit lower (n / 4096)
  pub second : slice_index text (at + 1) ≡ hex_digit lower (n / 256 % 16)
  pub third : slice_index text (at + 2) ≡ hex_digit lower (n / 16 % 16)
  pub fourth : slice_index text (at + 3) ≡ hex_digit lower (n % 16)

-- the value of a digit in lower case, or more than eight numbers of four digits are together
abbrev pub digit_or_other : ℕ → ℕ
digit_or_other byte =
    if nat_le 48 byte && nat_le byte 57 then byte - 48
    else if nat_le 97 byte && nat_le byte 102 then byte - 87
    else 524288

-- the four hyphens stand in their places
pub record HasHyphens (text : List ℕ) : Type 0 where
  pub first : slice_index text 8 ≡ 45
  pub second : slice_index text 13 ≡ 45
  pub third : slice_index text 18 ≡ 45
  pub fourth : slice_index text 23 ≡ 45
