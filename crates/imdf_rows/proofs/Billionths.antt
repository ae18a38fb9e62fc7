-- Whole numbers as multiples of 10^9.
use Rattle.std.proofs.Common.{◌≡◌, ◌≢◌, ℕ, List, Option, Some, None, IfSome, IfNone, Err, IsErrOf, ◌↔◌, refl, sym, ◌∙◌, subst, arith}
use Rattle.std.specs.Prelude.{ℤ, pos, ◌*ℤ◌}
use Rattle.std.proofs.lemmas.Int.{ints}
use Rattle.geo_decimal.specs.Value.{IsNano, IsWithin}
use Rattle.geo_decimal.specs.Laws.{HasOneValue}
use Rattle.geo_decimal.specs.Number.{IsNumber}
use Rattle.geo_decimal.specs.declared.fault.NumberFault.{NumberFault}
use Rattle.geo_decimal.specs.declared.fault.NumberFault.TheVariants.{Form, Size}
use Rattle.exact_json.specs.Json.{Json, token}
use Rattle.imdf_rows.specs.Fields.{IsWhole, IsOrdinal}

-- the number that has this value, if there is one, is whole
pub some_whole : (t : List ℕ) (nano seen : ℤ) (o : Option ℤ) → seen ≡ nano → IsNano t nano → IsWithin nano → IfSome o (λ n. seen ≡ n *ℤ pos 1000000000) → IfSome o (IsWhole t)
some_whole t nano seen None e is within h = tt
some_whole t nano seen (Some n) e is within h = let value : nano ≡ n *ℤ pos 1000000000 = sym e ∙ h in record { nano = (let P : ℤ → Type 0 = λ z. IsNano t z in subst P value is); within = (let P : ℤ → Type 0 = IsWithin in subst P value within) }

pub none_whole : HasOneValue → (t : List ℕ) (nano seen : ℤ) (o : Option ℤ) → seen ≡ nano → IsNano t nano → IfNone o ((n : ℤ) → seen ≢ n *ℤ pos 1000000000) → IfNone o ((n : ℤ) → ¬ IsWhole t n)
none_whole one t nano seen None e is h = λ n w. h n (e ∙ one t nano (n *ℤ pos 1000000000) is w.nano)
none_whole one t nano seen (Some m) e is h = tt

-- a token that has no such value is of no whole number
pub err_whole : HasOneValue → (t : List ℕ) (e : NumberFault)
    → IsErrOf {T = ℤ} (Err e) Form ↔ (¬ IsNumber t)
    → IsErrOf {T = ℤ} (Err e) Size ↔ ((n : ℤ) × IsNano t n × (¬ IsWithin n))
    → (n : ℤ) → ¬ IsWhole t n
err_whole one t Form form size n w = form.0 refl (w.nano.number, w.nano.spelled)
err_whole one t Size form size n w =
    let other = size.0 refl in
    let same = one t (n *ℤ pos 1000000000) other.0 w.nano other.1 in
    let P : ℤ → Type 0 = IsWithin in
    other.2 (subst P same w.within)

pub some_ordinal : (v : Json) (t : List ℕ) (o : Option ℤ) → Some t ≡ token v → IfSome o (IsWhole t) → IfSome o (IsOrdinal v)
some_ordinal v t None e h = tt
some_ordinal v t (Some n) e h = record { digits = t; number = sym e; whole = h }

same_digits : (v : Json) (s t : List ℕ) → token v ≡ Some s → Some t ≡ token v → s ≡ t
same_digits v s t n e = cc

pub none_ordinal : (v : Json) (t : List ℕ) (o : Option ℤ) → Some t ≡ token v → IfNone o ((n : ℤ) → ¬ IsWhole t n) → IfNone o ((n : ℤ) → ¬ IsOrdinal v n)
none_ordinal v t None e h = λ n w. let P : List ℕ → Type 0 = λ s. IsWhole s n in h n (subst P (same_digits v w.digits t w.number e) w.whole)
none_ordinal v t (Some m) e h = tt

pub no_ordinal : (v : Json) → None ≡ token v → (n : ℤ) → ¬ IsOrdinal v n
no_ordinal v e n w = let number = w.number in cc

same_whole : (m n : ℤ) → m *ℤ pos 1000000000 ≡ n *ℤ pos 1000000000 → m ≡ n
same_whole m n e = omega (arith, ints)

pub one_ordinal : HasOneValue → (v : Json) (m n : ℤ) → IsOrdinal v m → IsOrdinal v n → m ≡ n
one_ordinal one v m n p q =
    let same : p.digits ≡ q.digits = same_digits v p.digits q.digits p.number (sym q.number) in
    let P : List ℕ → Type 0 = λ t. IsNano t (m *ℤ pos 1000000000) in
    same_whole m n (one q.digits (m *ℤ pos 1000000000) (n *ℤ pos 1000000000) (subst P same p.whole.nano) q.whole.nano)
