-- A number of a query has one text.
use Rattle.std.proofs.Common.{◌≡◌, ℕ, ◌^◌, ◌<◌, ◌≤◌, Bool, true, false, List, Some, None, nat_lt, sym, ap, ◌∙◌, refl, arith}
use Rattle.std.specs.Prelude.{◌&&◌, if◌then◌else◌}
use Rattle.std.specs.Str.{bytes_eq}
use Rattle.std.specs.Str.Parse.{AllDigits, digits_value}
use Rattle.std.specs.Fmt.{decimal}
use Rattle.std.proofs.lemmas.Bool.{ltb-true}
use Rattle.std.proofs.lemmas.Bool.Decides.{Decides-ltb}
use Rattle.std.proofs.lemmas.Slice.Eq.{bytes_eq-Decides}
use Rattle.std.proofs.lemmas.Fmt.{digits_value-decimal}
use Rattle.std.proofs.lemmas.Str.Parse.{IsNumeralModel, numerals_by_value, tells_digits}
use Rattle.venue_wire.specs.Queries.{number_read}

own : IsNumeralModel (AllDigits 10) (digits_value 10)
own = numerals_by_value (AllDigits 10) tells_digits

module _ (text : List ℕ) (n : ℕ) (fits : n < 2 ^ 64) (e : text ≡ decimal n) where
  value : digits_value 10 text ≡ n
  value = ap (digits_value 10) e ∙ digits_value-decimal own n fits

  same : bytes_eq text (decimal (digits_value 10 text)) ≡ true
  same = (bytes_eq-Decides text (decimal (digits_value 10 text))).1 (e ∙ ap decimal (sym value))

  -- what is read of the text of a number: the number, where it is below the limit
  read_text : (b : Bool) → nat_lt n (2 ^ 32) ≡ b → number_read text ≡ (if b then Some n else None)
  unfolding number_read
  read_text b below =
      ap (λ (a : Bool). if a && nat_lt (digits_value 10 text) (2 ^ 32) then Some (digits_value 10 text) else None) same
      ∙ ap (λ (v : ℕ). if nat_lt v (2 ^ 32) then Some v else None) value
      ∙ ap (λ (a : Bool). if a then Some n else None) below

  pub read_small : n < 2 ^ 32 → number_read text ≡ Some n
  read_small small = read_text true ((Decides-ltb n (2 ^ 32)).1 small)

  pub read_large : 2 ^ 32 ≤ n → number_read text ≡ None
  read_large large = elim (nat_lt n (2 ^ 32)) as (λ b. nat_lt n (2 ^ 32) ≡ b → number_read text ≡ None) [
    | true ↦ λ below. absurd (omega (arith, ltb-true n (2 ^ 32) below, large))
    | false ↦ λ below. read_text false below
  ] refl
