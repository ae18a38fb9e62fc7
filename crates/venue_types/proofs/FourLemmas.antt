-- Four digits of an identifier's text as a number, and the whole text by eight of them.
use Rattle.std.proofs.Common.{◌≡◌, ℕ, zero, suc, ◌+◌, ◌*◌, ◌/◌, ◌%◌, ◌<◌, ◌≤◌, ◌^◌, List, length, get_or, refl, ap, subst, ◌∙◌, if◌then◌else◌, arith}
use Rattle.std.proofs.lemmas.Bool.Decides.{nat_tests}
use Rattle.std.proofs.lemmas.List.{get_or_default}
use Rattle.std.specs.Int.{w128, to_be_bytes}
use Rattle.uuid.specs.Text.{hex_digit, lower, nibble, digit_place, is_hyphen_place, hyphenated_text}
use Rattle.uuid.proofs.TextLemmas.{by_index_at, by_index_same}
use Rattle.venue_types.specs.Fours.{IsFour, HasHyphens, digit_or_other}

-- ---- one digit

digit_small : (byte : ℕ) → digit_or_other byte < 524288 → digit_or_other byte < 16
digit_small byte fits = grind (arith, nat_tests)

digit_spelled : (byte : ℕ) → digit_or_other byte < 524288 → byte ≡ hex_digit lower (digit_or_other byte)
digit_spelled byte fits = grind (arith, nat_tests)

digit_read : (d : ℕ) → d < 16 → digit_or_other (hex_digit lower d) ≡ d
digit_read d small = grind (arith, nat_tests)

pub digit_most : (byte : ℕ) → digit_or_other byte ≤ 524288
digit_most byte = grind (arith, nat_tests)

-- ---- four digits

abbrev pub four : ℕ → ℕ → ℕ → ℕ → ℕ
four a b c d = ((digit_or_other a * 16 + digit_or_other b) * 16 + digit_or_other c) * 16 + digit_or_other d

pub four_small : (a b c d : ℕ) → four a b c d < 2 ^ 32
four_small a b c d = omega (arith, digit_most a, digit_most b, digit_most c, digit_most d)

pub four_is : (a b c d v w x y : ℕ) → v ≡ digit_or_other a → w ≡ digit_or_other b → x ≡ digit_or_other c → y ≡ digit_or_other d
    → ((v * 16 + w) * 16 + x) * 16 + y ≡ four a b c d
four_is a b c d v w x y p q r s = rw (p, q, r, s) refl

spelled_as : (byte d : ℕ) → digit_or_other byte < 524288 → digit_or_other byte ≡ d → byte ≡ hex_digit lower d
spelled_as byte d fits same = digit_spelled byte fits ∙ ap (hex_digit lower) same

pub four_fits : (text : List ℕ) (at : ℕ)
    → four (get_or text at 0) (get_or text (at + 1) 0) (get_or text (at + 2) 0) (get_or text (at + 3) 0) < 524288
    → IsFour text at (four (get_or text at 0) (get_or text (at + 1) 0) (get_or text (at + 2) 0) (get_or text (at + 3) 0))
four_fits text at fits =
    let a = get_or text at 0 in
    let b = get_or text (at + 1) 0 in
    let c = get_or text (at + 2) 0 in
    let d = get_or text (at + 3) 0 in
    let fits_a : digit_or_other a < 524288 = omega (arith, fits) in
    let fits_b : digit_or_other b < 524288 = omega (arith, fits) in
    let fits_c : digit_or_other c < 524288 = omega (arith, fits) in
    let fits_d : digit_or_other d < 524288 = omega (arith, fits) in
    let small_a = digit_small a fits_a in
    let small_b = digit_small b fits_b in
    let small_c = digit_small c fits_c in
    let small_d = digit_small d fits_d in
    record {
      small = omega (arith, small_a, small_b, small_c, small_d);
      first = spelled_as a _ fits_a (omega (arith, small_a, small_b, small_c, small_d));
      second = spelled_as b _ fits_b (omega (arith, small_a, small_b, small_c, small_d));
      third = spelled_as c _ fits_c (omega (arith, small_a, small_b, small_c, small_d));
      fourth = spelled_as d _ fits_d (omega (arith, small_a, small_b, small_c, small_d));
    }

read_as : (byte d : ℕ) → d < 16 → byte ≡ hex_digit lower d → digit_or_other byte ≡ d
read_as byte d small spelled = ap digit_or_other spelled ∙ digit_read d small

pub four_read : (text : List ℕ) (at n : ℕ) → IsFour text at n
    → four (get_or text at 0) (get_or text (at + 1) 0) (get_or text (at + 2) 0) (get_or text (at + 3) 0) ≡ n
four_read text at n is =
    let small = is.small in
    let a = read_as (get_or text at 0) (n / 4096) (omega (arith, small)) is.first in
    let b = read_as (get_or text (at + 1) 0) (n / 256 % 16) (omega arith) is.second in
    let c = read_as (get_or text (at + 2) 0) (n / 16 % 16) (omega arith) is.third in
    let d = read_as (get_or text (at + 3) 0) (n % 16) (omega arith) is.fourth in
    rw (a, b, c, d) (omega (arith, small))

-- ---- the whole text

-- the numbers of four digits each that a number has
pub record IsFours (text : List ℕ) (n : ℕ) : Type 0 where
  pub first : IsFour text 0 (n / 2 ^ 112 % 65536)
  pub second : IsFour text 4 (n / 2 ^ 96 % 65536)
  pub third : IsFour text 9 (n / 2 ^ 80 % 65536)
  pub fourth : IsFour text 14 (n / 2 ^ 64 % 65536)
  pub fifth : IsFour text 19 (n / 2 ^ 48 % 65536)
  pub sixth : IsFour text 24 (n / 2 ^ 32 % 65536)
  pub seventh : IsFour text 28 (n / 2 ^ 16 % 65536)
  pub eighth : IsFour text 32 (n % 65536)

-- what stands at a place of the text of a number
abbrev place_of : ℕ → ℕ → ℕ
place_of n k = if is_hyphen_place k then 45 else hex_digit lower (nibble (to_be_bytes w128 n) (digit_place k))

place_is : (text : List ℕ) (n : ℕ) → HasHyphens text → IsFours text n → (k : ℕ) → k < 36 → get_or text k 0 ≡ place_of n k
place_is text n hyphens fours zero h = fours.first.first ∙ ap (hex_digit lower) (omega arith)
place_is text n hyphens fours (suc zero) h = fours.first.second ∙ ap (hex_digit lower) (omega arith)
place_is text n hyphens fours (suc (suc zero)) h = fours.first.third ∙ ap (hex_digit lower) (omega arith)
place_is text n hyphens fours (suc (suc (suc zero))) h = fours.first.fourth ∙ ap (hex_digit lower) (omega arith)
place_is text n hyphens fours (suc (suc (suc (suc zero)))) h = fours.second.first ∙ ap (hex_digit lower) (omega arith)
place_is text n hyphens fours (suc (suc (suc (suc (suc zero))))) h = fours.second.second ∙ ap (hex_digit lower) (omega arith)
place_is text n hyphens fours (suc (suc (suc (suc (suc (suc zero)))))) h = fours.second.third ∙ ap (hex_digit lower) (omega arith)
place_is text n hyphens fours (suc (suc (suc (suc (suc (suc (suc zero))))))) h = fours.second.fourth ∙ ap (hex_digit lower) (omega arith)
place_is text n hyphens fours (suc (suc (suc (suc (suc (suc (suc (suc zero)))))))) h = hyphens.first
place_is text n hyphens fours (suc (suc (suc (suc (suc (suc (suc (suc (suc zero))))))))) h = fours.third.first ∙ ap (hex_digit lower) (omega arith)
place_is text n hyphens fours (suc (suc (suc (suc (suc (suc (suc (suc (suc (suc zero)))))))))) h = fours.third.second ∙ ap (hex_digit lower) (omega arith)
place_is text n hyphens fours (suc (suc (suc (suc (suc (suc (suc (suc (suc (suc (suc zero))))))))))) h = fours.third.third ∙ ap (hex_digit lower) (omega arith)
place_is text n hyphens fours (suc (suc (suc (suc (suc (suc (suc (suc (suc (suc (suc (suc zero)))))))))))) h = fours.third.fourth ∙ ap (hex_digit lower) (omega arith)
place_is text n hyphens fours (suc (suc (suc (suc (suc (suc (suc (suc (suc (suc (suc (suc (suc zero))))))))))))) h = hyphens.second
place_is text n hyphens fours (suc (suc (suc (suc (suc (suc (suc (suc (suc (suc (suc (suc (suc (suc zero)))))))))))))) h = fours.fourth.first ∙ ap (hex_digit lower) (omega arith)
place_is text n hyphens fours (suc (suc (suc (suc (suc (suc (suc (suc (suc (suc (suc (suc (suc (suc (suc zero))))))))))))))) h = fours.fourth.second ∙ ap (hex_digit lower) (omega arith)
place_is text n hyphens fours (suc (suc (suc (suc (suc (suc (suc (suc (suc (suc (suc (suc (suc (suc (suc (suc zero)))))))))))))))) h = fours.fourth.third ∙ ap (hex_digit lower) (omega arith)
place_is text n hyphens fours (suc (suc (suc (suc (suc (suc (suc (suc (suc (suc (suc (suc (suc (suc (suc (suc (suc zero))))))))))))))))) h = fours.fourth.fourth ∙ ap (hex_digit lower) (omega arith)
place_is text n hyphens fours (suc (suc (suc (suc (suc (suc (suc (suc (suc (suc (suc (suc (suc (suc (suc (suc (suc (suc zero)))))))))))))))))) h = hyphens.third
place_is text n hyphens fours (suc (suc (suc (suc (suc (suc (suc (suc (suc (suc (suc (suc (suc (suc (suc (suc (suc (suc (suc zero))))))))))))))))))) h = fours.fifth.first ∙ ap (hex_digit lower) (omega arith)
place_is text n hyphens fours (suc (suc (suc (suc (suc (suc (suc (suc (suc (suc (suc (suc (suc (suc (suc (suc (suc (suc (suc (suc zero)))))))))))))))))))) h = fours.fifth.second ∙ ap (hex_digit lower) (omega arith)
place_is text n hyphens fours (suc (suc (suc (suc (suc (suc (suc (suc (suc (suc (suc (suc (suc (suc (suc (suc (suc (suc (suc (suc (suc zero))))))))))))))))))))) h = fours.fifth.third ∙ ap (hex_digit lower) (omega arith)
place_is text n hyphens fours (suc (suc (suc (suc (suc (suc (suc (suc (suc (suc (suc (suc (suc (suc (suc (suc (suc (suc (suc (suc (suc (suc zero)))))))))))))))))))))) h = fours.fifth.fourth ∙ ap (hex_digit lower) (omega arith)
place_is text n hyphens fours (suc (suc (suc (suc (suc (suc (suc (suc (suc (suc (suc (suc (suc (suc (suc (suc (suc (suc (suc (suc (suc (suc (suc zero))))))))))))))))))))))) h = hyphens.fourth
place_is text n hyphens fours (suc (suc (suc (suc (suc (suc (suc (suc (suc (suc (suc (suc (suc (suc (suc (suc (suc (suc (suc (suc (suc (suc (suc (suc zero)))))))))))))))))))))))) h = fours.sixth.first ∙ ap (hex_digit lower) (omega arith)
place_is text n hyphens fours (suc (suc (suc (suc (suc (suc (suc (suc (suc (suc (suc (suc (suc (suc (suc (suc (suc (suc (suc (suc (suc (suc (suc (suc (suc zero))))))))))))))))))))))))) h = fours.sixth.second ∙ ap (hex_digit lower) (omega arith)
place_is text n hyphens fours (suc (suc (suc (suc (suc (suc (suc (suc (suc (suc (suc (suc (suc (suc (suc (suc (suc (suc (suc (suc (suc (suc (suc (suc (suc (suc zero)))))))))))))))))))))))))) h = fours.sixth.third ∙ ap (hex_digit lower) (omega arith)
place_is text n hyphens fours (suc (suc (suc (suc (suc (suc (suc (suc (suc (suc (suc (suc (suc (suc (suc (suc (suc (suc (suc (suc (suc (suc (suc (suc (suc (suc (suc zero))))))))))))))))))))))))))) h = fours.sixth.fourth ∙ ap (hex_digit lower) (omega arith)
place_is text n hyphens fours (suc (suc (suc (suc (suc (suc (suc (suc (suc (suc (suc (suc (suc (suc (suc (suc (suc (suc (suc (suc (suc (suc (suc (suc (suc (suc (suc (suc zero)))))))))))))))))))))))))))) h = fours.seventh.first ∙ ap (hex_digit lower) (omega arith)
place_is text n hyphens fours (suc (suc (suc (suc (suc (suc (suc (suc (suc (suc (suc (suc (suc (suc (suc (suc (suc (suc (suc (suc (suc (suc (suc (suc (suc (suc (suc (suc (suc zero))))))))))))))))))))))))))))) h = fours.seventh.second ∙ ap (hex_digit lower) (omega arith)
place_is text n hyphens fours (suc (suc (suc (suc (suc (suc (suc (suc (suc (suc (suc (suc (suc (suc (suc (suc (suc (suc (suc (suc (suc (suc (suc (suc (suc (suc (suc (suc (suc (suc zero)))))))))))))))))))))))))))))) h = fours.seventh.third ∙ ap (hex_digit lower) (omega arith)
place_is text n hyphens fours (suc (suc (suc (suc (suc (suc (suc (suc (suc (suc (suc (suc (suc (suc (suc (suc (suc (suc (suc (suc (suc (suc (suc (suc (suc (suc (suc (suc (suc (suc (suc zero))))))))))))))))))))))))))))))) h = fours.seventh.fourth ∙ ap (hex_digit lower) (omega arith)
place_is text n hyphens fours (suc (suc (suc (suc (suc (suc (suc (suc (suc (suc (suc (suc (suc (suc (suc (suc (suc (suc (suc (suc (suc (suc (suc (suc (suc (suc (suc (suc (suc (suc (suc (suc zero)))))))))))))))))))))))))))))))) h = fours.eighth.first ∙ ap (hex_digit lower) (omega arith)
place_is text n hyphens fours (suc (suc (suc (suc (suc (suc (suc (suc (suc (suc (suc (suc (suc (suc (suc (suc (suc (suc (suc (suc (suc (suc (suc (suc (suc (suc (suc (suc (suc (suc (suc (suc (suc zero))))))))))))))))))))))))))))))))) h = fours.eighth.second ∙ ap (hex_digit lower) (omega arith)
place_is text n hyphens fours (suc (suc (suc (suc (suc (suc (suc (suc (suc (suc (suc (suc (suc (suc (suc (suc (suc (suc (suc (suc (suc (suc (suc (suc (suc (suc (suc (suc (suc (suc (suc (suc (suc (suc zero)))))))))))))))))))))))))))))))))) h = fours.eighth.third ∙ ap (hex_digit lower) (omega arith)
place_is text n hyphens fours (suc (suc (suc (suc (suc (suc (suc (suc (suc (suc (suc (suc (suc (suc (suc (suc (suc (suc (suc (suc (suc (suc (suc (suc (suc (suc (suc (suc (suc (suc (suc (suc (suc (suc (suc zero))))))))))))))))))))))))))))))))))) h = fours.eighth.fourth ∙ ap (hex_digit lower) (omega arith)
place_is text n hyphens fours (suc (suc (suc (suc (suc (suc (suc (suc (suc (suc (suc (suc (suc (suc (suc (suc (suc (suc (suc (suc (suc (suc (suc (suc (suc (suc (suc (suc (suc (suc (suc (suc (suc (suc (suc (suc k)))))))))))))))))))))))))))))))))))) h = absurd (omega arith)

pub text_is : (text : List ℕ) (n : ℕ) → length text ≡ 36 → HasHyphens text → IsFours text n → text ≡ hyphenated_text lower (to_be_bytes w128 n)
text_is text n long hyphens fours =
    by_index_same text 36 (place_of n) long (λ k d within. get_or_default text k d 0 (rw long within) ∙ place_is text n hyphens fours k within)

place_at : (n k : ℕ) → k < 36 → get_or (hyphenated_text lower (to_be_bytes w128 n)) k 0 ≡ place_of n k
place_at n k within = by_index_at 36 (place_of n) k 0 within

pub hyphens_of : (n : ℕ) → HasHyphens (hyphenated_text lower (to_be_bytes w128 n))
hyphens_of n = record {
  first = place_at n 8 (omega arith);
  second = place_at n 13 (omega arith);
  third = place_at n 18 (omega arith);
  fourth = place_at n 23 (omega arith);
}

-- a digit of the text of a number
part_of : (n at d e : ℕ) → at < 36 → place_of n at ≡ hex_digit lower e → e ≡ d → get_or (hyphenated_text lower (to_be_bytes w128 n)) at 0 ≡ hex_digit lower d
part_of n at d e within here same = place_at n at within ∙ here ∙ ap (hex_digit lower) same

pub fours_of : (n : ℕ) → IsFours (hyphenated_text lower (to_be_bytes w128 n)) n
fours_of n = record {
  first = record { small = omega arith; first = part_of n 0 (n / 2 ^ 112 % 65536 / 4096) (nibble (to_be_bytes w128 n) 0) (omega arith) refl (omega arith); second = part_of n 1 (n / 2 ^ 112 % 65536 / 256 % 16) (nibble (to_be_bytes w128 n) 1) (omega arith) refl (omega arith); third = part_of n 2 (n / 2 ^ 112 % 65536 / 16 % 16) (nibble (to_be_bytes w128 n) 2) (omega arith) refl (omega arith); fourth = part_of n 3 (n / 2 ^ 112 % 65536 % 16) (nibble (to_be_bytes w128 n) 3) (omega arith) refl (omega arith) };
  second = record { small = omega arith; first = part_of n 4 (n / 2 ^ 96 % 65536 / 4096) (nibble (to_be_bytes w128 n) 4) (omega arith) refl (omega arith); second = part_of n 5 (n / 2 ^ 96 % 65536 / 256 % 16) (nibble (to_be_bytes w128 n) 5) (omega arith) refl (omega arith); third = part_of n 6 (n / 2 ^ 96 % 65536 / 16 % 16) (nibble (to_be_bytes w128 n) 6) (omega arith) refl (omega arith); fourth = part_of n 7 (n / 2 ^ 96 % 65536 % 16) (nibble (to_be_bytes w128 n) 7) (omega arith) refl (omega arith) };
  third = record { small = omega arith; first = part_of n 9 (n / 2 ^ 80 % 65536 / 4096) (nibble (to_be_bytes w128 n) 8) (omega arith) refl (omega arith); second = part_of n 10 (n / 2 ^ 80 % 65536 / 256 % 16) (nibble (to_be_bytes w128 n) 9) (omega arith) refl (omega arith); third = part_of n 11 (n / 2 ^ 80 % 65536 / 16 % 16) (nibble (to_be_bytes w128 n) 10) (omega arith) refl (omega arith); fourth = part_of n 12 (n / 2 ^ 80 % 65536 % 16) (nibble (to_be_bytes w128 n) 11) (omega arith) refl (omega arith) };
  fourth = record { small = omega arith; first = part_of n 14 (n / 2 ^ 64 % 65536 / 4096) (nibble (to_be_bytes w128 n) 12) (omega arith) refl (omega arith); second = part_of n 15 (n / 2 ^ 64 % 65536 / 256 % 16) (nibble (to_be_bytes w128 n) 13) (omega arith) refl (omega arith); third = part_of n 16 (n / 2 ^ 64 % 65536 / 16 % 16) (nibble (to_be_bytes w128 n) 14) (omega arith) refl (omega arith); fourth = part_of n 17 (n / 2 ^ 64 % 65536 % 16) (nibble (to_be_bytes w128 n) 15) (omega arith) refl (omega arith) };
  fifth = record { small = omega arith; first = part_of n 19 (n / 2 ^ 48 % 65536 / 4096) (nibble (to_be_bytes w128 n) 16) (omega arith) refl (omega arith); second = part_of n 20 (n / 2 ^ 48 % 65536 / 256 % 16) (nibble (to_be_bytes w128 n) 17) (omega arith) refl (omega arith); third = part_of n 21 (n / 2 ^ 48 % 65536 / 16 % 16) (nibble (to_be_bytes w128 n) 18) (omega arith) refl (omega arith); fourth = part_of n 22 (n / 2 ^ 48 % 65536 % 16) (nibble (to_be_bytes w128 n) 19) (omega arith) refl (omega arith) };
  sixth = record { small = omega arith; first = part_of n 24 (n / 2 ^ 32 % 65536 / 4096) (nibble (to_be_bytes w128 n) 20) (omega arith) refl (omega arith); second = part_of n 25 (n / 2 ^ 32 % 65536 / 256 % 16) (nibble (to_be_bytes w128 n) 21) (omega arith) refl (omega arith); third = part_of n 26 (n / 2 ^ 32 % 65536 / 16 % 16) (nibble (to_be_bytes w128 n) 22) (omega arith) refl (omega arith); fourth = part_of n 27 (n / 2 ^ 32 % 65536 % 16) (nibble (to_be_bytes w128 n) 23) (omega arith) refl (omega arith) };
  seventh = record { small = omega arith; first = part_of n 28 (n / 2 ^ 16 % 65536 / 4096) (nibble (to_be_bytes w128 n) 24) (omega arith) refl (omega arith); second = part_of n 29 (n / 2 ^ 16 % 65536 / 256 % 16) (nibble (to_be_bytes w128 n) 25) (omega arith) refl (omega arith); third = part_of n 30 (n / 2 ^ 16 % 65536 / 16 % 16) (nibble (to_be_bytes w128 n) 26) (omega arith) refl (omega arith); fourth = part_of n 31 (n / 2 ^ 16 % 65536 % 16) (nibble (to_be_bytes w128 n) 27) (omega arith) refl (omega arith) };
  eighth = record { small = omega arith; first = part_of n 32 (n % 65536 / 4096) (nibble (to_be_bytes w128 n) 28) (omega arith) refl (omega arith); second = part_of n 33 (n % 65536 / 256 % 16) (nibble (to_be_bytes w128 n) 29) (omega arith) refl (omega arith); third = part_of n 34 (n % 65536 / 16 % 16) (nibble (to_be_bytes w128 n) 30) (omega arith) refl (omega arith); fourth = part_of n 35 (n % 65536 % 16) (nibble (to_be_bytes w128 n) 31) (omega arith) refl (omega arith) };
}

-- a text of eight numbers of four digits each, joined as two of 64 bits
pub text_of_fours : (text : List ℕ) (a b c d e f g h high low : ℕ) → length text ≡ 36 → HasHyphens text
    → IsFour text 0 a → IsFour text 4 b → IsFour text 9 c → IsFour text 14 d → IsFour text 19 e → IsFour text 24 f → IsFour text 28 g → IsFour text 32 h
    → high ≡ a * 2 ^ 48 + b * 2 ^ 32 + c * 2 ^ 16 + d → low ≡ e * 2 ^ 48 + f * 2 ^ 32 + g * 2 ^ 16 + h
    → text ≡ hyphenated_text lower (to_be_bytes w128 (high * 2 ^ 64 + low))
text_of_fours text a b c d e f g h high low long hyphens is_a is_b is_c is_d is_e is_f is_g is_h is_high is_low =
    let small_a = is_a.small in
    let small_b = is_b.small in
    let small_c = is_c.small in
    let small_d = is_d.small in
    let small_e = is_e.small in
    let small_f = is_f.small in
    let small_g = is_g.small in
    let small_h = is_h.small in
    let fours : IsFours text (high * 2 ^ 64 + low) = record {
      first = subst (IsFour text 0) (omega (arith, small_a, small_b, small_c, small_d, small_e, small_f, small_g, small_h, is_high, is_low)) is_a;
      second = subst (IsFour text 4) (omega (arith, small_a, small_b, small_c, small_d, small_e, small_f, small_g, small_h, is_high, is_low)) is_b;
      third = subst (IsFour text 9) (omega (arith, small_a, small_b, small_c, small_d, small_e, small_f, small_g, small_h, is_high, is_low)) is_c;
      fourth = subst (IsFour text 14) (omega (arith, small_a, small_b, small_c, small_d, small_e, small_f, small_g, small_h, is_high, is_low)) is_d;
      fifth = subst (IsFour text 19) (omega (arith, small_a, small_b, small_c, small_d, small_e, small_f, small_g, small_h, is_high, is_low)) is_e;
      sixth = subst (IsFour text 24) (omega (arith, small_a, small_b, small_c, small_d, small_e, small_f, small_g, small_h, is_high, is_low)) is_f;
      seventh = subst (IsFour text 28) (omega (arith, small_a, small_b, small_c, small_d, small_e, small_f, small_g, small_h, is_high, is_low)) is_g;
      eighth = subst (IsFour text 32) (omega (arith, small_a, small_b, small_c, small_d, small_e, small_f, small_g, small_h, is_high, is_low)) is_h;
    } in
    text_is text (high * 2 ^ 64 + low) long hyphens fours

pub numbers_fit : (a b c d e f g h high low : ℕ) → a < 65536 → b < 65536 → c < 65536 → d < 65536 → e < 65536 → f < 65536 → g < 65536 → h < 65536
    → high ≡ a * 2 ^ 48 + b * 2 ^ 32 + c * 2 ^ 16 + d → low ≡ e * 2 ^ 48 + f * 2 ^ 32 + g * 2 ^ 16 + h → high * 2 ^ 64 + low < 2 ^ 128
numbers_fit a b c d e f g h high low p q r s t u v w is_high is_low = omega arith
