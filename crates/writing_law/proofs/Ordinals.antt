-- An ordinal, written without a point, is read back.
use Rattle.std.proofs.Common.{◌≡◌, ℕ, zero, suc, ◌*◌, ◌^◌, ◌<◌, ◌≤◌, Bool, true, false, List, [], ◌∷◌, ◌++◌, get_or, None, inl, inr, refl, sym, ap, ◌∙◌, subst, arith, ℤ, pos, negsuc}
use Rattle.std.specs.Prelude.{neg_ℤ, ◌≤ℤ◌, ◌*ℤ◌}
use Rattle.std.specs.Fmt.{decimal, signed_decimal}
use Rattle.std.specs.Str.Parse.{IsNumeral, digits_value}
use Rattle.std.proofs.lemmas.Fmt.{decimal_is_IsNumeral, decimal_digit, first_decimal}
use Rattle.std.proofs.lemmas.Str.Parse.{digit_from_value}
use Rattle.std.proofs.lemmas.List.{append-nil}
use Rattle.std.proofs.lemmas.Int.{ints}
use Rattle.geo_decimal.specs.Number.{Number, IsWhole, IsWellFormed}
use Rattle.geo_decimal.specs.Value.{IsSize, IsNano, IsWithin}
use Rattle.imdf_rows.specs.Fields.{IsOrdinal}
use Rattle.imdf_write.specs.Values.{ordinal_value}

whole_of : (ds : List ℕ) → IsNumeral 10 ds → 48 < get_or ds 0 0 → IsWhole ds
whole_of [] h first = absurd (omega (arith, h.0))
whole_of (c ∷ cs) h first = inr (omega (arith, first), (digit_from_value c h.1.0).1, h.1.1)

whole_decimal : (w : ℕ) → w < 2 ^ 64 → IsWhole (decimal w)
whole_decimal zero h = subst IsWhole (sym (decimal_digit 0 (omega arith))) (inl (refl, refl))
whole_decimal (suc w) h = whole_of (decimal (suc w)) (decimal_is_IsNumeral (suc w) h).0 (first_decimal (suc w) (omega arith) h)

-- a whole number without a fraction and an exponent
number : Bool → ℕ → Number
number minus size = record { minus = minus; whole = decimal size; fraction = None; exponent = None }

well_formed : (minus : Bool) (size : ℕ) → size ≤ 180 → IsWellFormed (number minus size)
unfolding number
well_formed minus size small = record { whole = whole_decimal size (omega arith); fraction = tt; exponent = tt }

digits_are : (size : ℕ) → size ≤ 180 → digits_value 10 (decimal size ++ []) ≡ size
digits_are size small = ap (digits_value 10) (append-nil (decimal size)) ∙ (decimal_is_IsNumeral size (omega arith)).1

rounded : (minus : Bool) (size : ℕ) → size ≤ 180 → IsSize (number minus size) (size * 1000000000)
unfolding number
rounded minus size small = record {
  exact = λ le. ap (λ d. d * 1000000000) (sym (digits_are size small));
  nearest = λ lt. absurd (omega (arith, lt));
}

below : (size : ℕ) → size ≤ 180 → pos size *ℤ pos 1000000000 ≡ pos (size * 1000000000)
below size small = omega (arith, ints)

above : (less : ℕ) → suc less ≤ 180 → negsuc less *ℤ pos 1000000000 ≡ neg_ℤ (pos (suc less * 1000000000))
above less small = omega (arith, ints)

pub nano_back : (n : ℤ) → neg_ℤ (pos 180) ≤ℤ n → n ≤ℤ pos 180 → IsNano (signed_decimal n) (n *ℤ pos 1000000000)
unfolding number
nano_back (pos size) low high =
    let small : size ≤ 180 = omega (arith, ints) in record {
      number = number false size;
      spelled = record { text = sym (append-nil (decimal size)); well_formed = well_formed false size small };
      size = size * 1000000000;
      rounded = rounded false size small;
      value = below size small;
    }
nano_back (negsuc less) low high =
    let small : suc less ≤ 180 = omega (arith, ints) in record {
      number = number true (suc less);
      spelled = record { text = ap (λ l. 45 ∷ l) (sym (append-nil (decimal (suc less)))); well_formed = well_formed true (suc less) small };
      size = suc less * 1000000000;
      rounded = rounded true (suc less) small;
      value = above less small;
    }

within_back : (n : ℤ) → neg_ℤ (pos 180) ≤ℤ n → n ≤ℤ pos 180 → IsWithin (n *ℤ pos 1000000000)
within_back n low high = (omega (arith, ints), omega (arith, ints))

pub ordinal_back : (n : ℤ) → neg_ℤ (pos 180) ≤ℤ n → n ≤ℤ pos 180 → IsOrdinal (ordinal_value n) n
ordinal_back n low high = record { digits = signed_decimal n; number = refl; whole = record { nano = nano_back n low high; within = within_back n low high } }
