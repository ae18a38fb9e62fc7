-- A token is cut in one way, and a number is cut into its parts.
use Rattle.std.proofs.Common.{◌≡◌, ◌≢◌, ℕ, ◌<◌, ◌≤◌, ◌⊎◌, inl, inr, Bool, true, false, ◌==◌, List, [], ◌∷◌, ◌++◌, length, get_or, slice_index, Option, Some, None, IfSome, IfNone, refl, sym, ap, ◌∙◌, subst, arith}
use Rattle.std.specs.Bool.{⊤}
use Rattle.std.specs.Option.{option_to_list}
use Rattle.std.specs.Char.{digit_value}
use Rattle.std.specs.Str.Parse.{AllDigits, IsNumeral}
use Rattle.std.proofs.lemmas.Bool.{true≢false, ne_eqb, or_from, or_parts, eq-eqb, eqb-true, or_left, or_right, or_cases}
use Rattle.std.proofs.lemmas.Str.Parse.{digit_from_value}
use Rattle.geo_decimal.specs.Number.{Exponent, Number, minus_text, fraction_text, exponent_text, spelling, IsWhole, IsMark, IsSign, IsExponent, IsWellFormed}
use Rattle.geo_decimal.specs.Cutting.{is_mark, is_stop, HasNone, IsCutExponent, IsCut}

-- ---- a list and what follows it at the first byte that passes

-- nothing follows, or a byte that passes
abbrev pub Starts : (ℕ → Bool) → List ℕ → Type 0
Starts p [] = ⊤
Starts p (x ∷ xs) = p x ≡ true

apart : (p : ℕ → Bool) (x y : ℕ) → x ≡ y → p x ≡ true → p y ≡ false → ⊥
apart p x y e t f = true≢false (sym t ∙ ap p e ∙ f)

stopped : (p : ℕ → Bool) (y : ℕ) (r s : List ℕ) → Starts p r → p y ≡ false → r ≡ y ∷ s → ⊥
stopped p y [] s h f e = cc
stopped p y (x ∷ r) s h f e = let same : x ≡ y = cc in apart p x y same h f

pub front_same : (p : ℕ → Bool) (xs ys r s : List ℕ) → HasNone p xs → HasNone p ys → Starts p r → Starts p s → xs ++ r ≡ ys ++ s → (xs ≡ ys) × (r ≡ s)
front_same p [] [] r s a b c d e = (refl, e)
front_same p [] (y ∷ ys) r s a b c d e = absurd (stopped p y r (ys ++ s) c b.0 e)
front_same p (x ∷ xs) [] r s a b c d e = absurd (stopped p x s (xs ++ r) d a.0 (sym e))
front_same p (x ∷ xs) (y ∷ ys) r s a b c d e =
    let head : x ≡ y = cc in
    let tails : xs ++ r ≡ ys ++ s = cc in
    let ih = front_same p xs ys r s a.1 b.1 c d tails in
    let one : xs ≡ ys = ih.0 in
    (cc, ih.1)

-- ---- the parts, from the left

minus_same : (m n : Bool) (r s : List ℕ) → (m ≡ false → slice_index (minus_text m ++ r) 0 ≢ 45) → (n ≡ false → slice_index (minus_text n ++ s) 0 ≢ 45) → minus_text m ++ r ≡ minus_text n ++ s → (m ≡ n) × (r ≡ s)
minus_same true true r s a b e = (refl, cc)
minus_same false false r s a b e = (refl, e)
minus_same true false r s a b e = absurd (b refl (ap (λ l. slice_index l 0) (sym e)))
minus_same false true r s a b e = absurd (a refl (ap (λ l. slice_index l 0) e))

fraction_same : (f g : Option (List ℕ)) (r s : List ℕ) → IfSome f (HasNone is_mark) → IfSome g (HasNone is_mark) → Starts is_mark r → Starts is_mark s → fraction_text f ++ r ≡ fraction_text g ++ s → (f ≡ g) × (r ≡ s)
fraction_same None None r s a b c d e = (refl, e)
fraction_same None (Some y) r s a b c d e = absurd (stopped is_mark 46 r (y ++ s) c refl e)
fraction_same (Some x) None r s a b c d e = absurd (stopped is_mark 46 s (x ++ r) d refl (sym e))
fraction_same (Some x) (Some y) r s a b c d e =
    let tails : x ++ r ≡ y ++ s = cc in
    let both = front_same is_mark x y r s a b c d tails in
    (ap Some both.0, both.1)

unsigned_not : (c : ℕ) (r s : List ℕ) → IsSign c → (slice_index r 0 ≢ 45) × (slice_index r 0 ≢ 43) → c ∷ s ≡ r → ⊥
unsigned_not c r s (inl k) h e = h.0 (ap (λ l. slice_index l 0) (sym e) ∙ k)
unsigned_not c r s (inr k) h e = h.1 (ap (λ l. slice_index l 0) (sym e) ∙ k)

sign_same : (a b : Option ℕ) (r s : List ℕ) → IfSome a IsSign → IfSome b IsSign → IfNone a ((slice_index r 0 ≢ 45) × (slice_index r 0 ≢ 43)) → IfNone b ((slice_index s 0 ≢ 45) × (slice_index s 0 ≢ 43)) → option_to_list a ++ r ≡ option_to_list b ++ s → (a ≡ b) × (r ≡ s)
sign_same None None r s p q u v e = (refl, e)
sign_same None (Some y) r s p q u v e = absurd (unsigned_not y r s q u (sym e))
sign_same (Some x) None r s p q u v e = absurd (unsigned_not x s r p v e)
sign_same (Some x) (Some y) r s p q u v e =
    let head : x ≡ y = cc in
    (ap Some head, cc)

parts_same : {A B C R : Type 0} (f : A → B → C → R) (a a' : A) (b b' : B) (c c' : C) → a ≡ a' → b ≡ b' → c ≡ c' → f a b c ≡ f a' b' c'
parts_same f a a' b b' c c' p q r = ap (λ x. f x b c) p ∙ ap (λ x. f a' x c) q ∙ ap (λ x. f a' b' x) r

exponent_same : (e f : Option Exponent) → IfSome e IsCutExponent → IfSome f IsCutExponent → exponent_text e ≡ exponent_text f → e ≡ f
exponent_same None None a b h = refl
exponent_same None (Some y) a b h = absurd (let n : [] ≡ y.mark ∷ (option_to_list y.sign ++ y.digits) = h in cc)
exponent_same (Some x) None a b h = absurd (let n : x.mark ∷ (option_to_list x.sign ++ x.digits) ≡ [] = h in cc)
exponent_same (Some x) (Some y) a b h =
    let whole : x.mark ∷ (option_to_list x.sign ++ x.digits) ≡ y.mark ∷ (option_to_list y.sign ++ y.digits) = h in
    let mark : x.mark ≡ y.mark = cc whole in
    let rest : option_to_list x.sign ++ x.digits ≡ option_to_list y.sign ++ y.digits = cc whole in
    let both = sign_same x.sign y.sign x.digits y.digits a.sign b.sign a.unsigned b.unsigned rest in
    let make : ℕ → Option ℕ → List ℕ → Exponent = λ m s d. record { mark = m; sign = s; digits = d } in
    ap Some (parts_same make x.mark y.mark x.sign y.sign x.digits y.digits mark both.0 both.1)

exponent_starts : (e : Option Exponent) → IfSome e IsCutExponent → Starts is_mark (exponent_text e)
exponent_starts None h = tt
exponent_starts (Some x) h = h.mark

mark_stops : (c : ℕ) → is_mark c ≡ true → is_stop c ≡ true
mark_stops c h = or_right (c == 46) (is_mark c) h

rest_starts : (f : Option (List ℕ)) (r : List ℕ) → Starts is_mark r → Starts is_stop (fraction_text f ++ r)
rest_starts None [] h = tt
rest_starts None (x ∷ r) h = mark_stops x h
rest_starts (Some y) r h = refl

-- two cuts of one text are one
pub cut_once : (a b : Number) → IsCut a → IsCut b → spelling a ≡ spelling b → a ≡ b
cut_once a b p q e =
    let x = exponent_starts a.exponent p.exponent in
    let y = exponent_starts b.exponent q.exponent in
    let m = minus_same a.minus b.minus _ _ p.minus q.minus e in
    let w = front_same is_stop a.whole b.whole _ _ p.whole q.whole (rest_starts a.fraction _ x) (rest_starts b.fraction _ y) m.1 in
    let f = fraction_same a.fraction b.fraction _ _ p.fraction q.fraction x y w.1 in
    let g = exponent_same a.exponent b.exponent p.exponent q.exponent f.1 in
    let make : Bool → List ℕ → Option (List ℕ) → Option Exponent → Number = λ m w f e. record { minus = m; whole = w; fraction = f; exponent = e } in
    ap (λ t. make t a.whole a.fraction a.exponent) m.0 ∙ parts_same (make b.minus) a.whole b.whole a.fraction b.fraction a.exponent b.exponent w.0 f.0 g

-- ---- a number is cut into its parts

digit_passes_not : (c : ℕ) → digit_value c < 10 → is_stop c ≡ false
digit_passes_not c h =
    let r = digit_from_value c h in
    or_from (c == 46) (is_mark c) (ne_eqb c 46 (λ e. omega (arith, r.0, r.1, e))) (or_from (c == 101) (c == 69) (ne_eqb c 101 (λ e. omega (arith, r.0, r.1, e))) (ne_eqb c 69 (λ e. omega (arith, r.0, r.1, e))))

digits_stop_not : (ds : List ℕ) → AllDigits 10 ds → HasNone is_stop ds
digits_stop_not [] h = tt
digits_stop_not (c ∷ cs) h = (digit_passes_not c h.0, digits_stop_not cs h.1)

pub no_mark_in : (ds : List ℕ) → HasNone is_stop ds → HasNone is_mark ds
no_mark_in [] h = tt
no_mark_in (c ∷ cs) h = ((or_parts (c == 46) (is_mark c) h.0).1, no_mark_in cs h.1)

-- the digits of a whole part
pub whole_digits : (w : List ℕ) → IsWhole w → AllDigits 10 w
whole_digits [] h = absurd h
whole_digits (c ∷ cs) (inl (zero_is, alone)) = (let P : ℕ → Type 0 = λ x. digit_value x < 10 in subst P (sym zero_is) (omega arith), subst (AllDigits 10) (sym alone) tt)
whole_digits (c ∷ cs) (inr h) = (one_to_nine c h.0 h.1, h.2)
  where
    one_to_nine : (c : ℕ) → 49 ≤ c → c ≤ 57 → digit_value c < 10
    one_to_nine c l g = grind (arith, l, g)

digit_first : (ds r : List ℕ) → 0 < length ds → AllDigits 10 ds → (c : ℕ) → c < 48 → slice_index (ds ++ r) 0 ≢ c
digit_first [] r l h c b e = absurd (omega (arith, l))
digit_first (d ∷ ds) r l h c b e = let k = digit_from_value d h.0 in let same : d ≡ c = e in omega (arith, k.0, same, b)

whole_nonempty : (w : List ℕ) → IsWhole w → 0 < length w
whole_nonempty [] h = absurd h
whole_nonempty (c ∷ cs) h = omega arith

mark_test : (c : ℕ) → IsMark c → is_mark c ≡ true
mark_test c (inl e) = or_left (c == 101) (c == 69) (eq-eqb c 101 e)
mark_test c (inr e) = or_right (c == 101) (c == 69) (eq-eqb c 69 e)

fraction_cut : (f : Option (List ℕ)) → IfSome f (IsNumeral 10) → IfSome f (HasNone is_mark)
fraction_cut None h = tt
fraction_cut (Some ds) h = no_mark_in ds (digits_stop_not ds h.1)

nothing_after : (ds : List ℕ) → ds ++ [] ≡ ds
nothing_after [] = refl
nothing_after (d ∷ ds) = ap (λ l. d ∷ l) (nothing_after ds)

unsigned_digits : (s : Option ℕ) (ds : List ℕ) → IsNumeral 10 ds → IfNone s ((slice_index ds 0 ≢ 45) × (slice_index ds 0 ≢ 43))
unsigned_digits (Some c) ds h = tt
unsigned_digits None ds h =
    let at : (c : ℕ) → c < 48 → slice_index ds 0 ≢ c = λ c b. subst (λ l. slice_index l 0 ≢ c) (nothing_after ds) (digit_first ds [] h.0 h.1 c b) in
    (at 45 (omega arith), at 43 (omega arith))

exponent_cut : (e : Option Exponent) → IfSome e IsExponent → IfSome e IsCutExponent
exponent_cut None h = tt
exponent_cut (Some x) h = record { mark = mark_test x.mark h.mark; sign = h.sign; unsigned = unsigned_digits x.sign x.digits h.digits }

minus_cut : (m : Bool) (w r : List ℕ) → IsWhole w → m ≡ false → slice_index (minus_text m ++ (w ++ r)) 0 ≢ 45
minus_cut true w r h e = absurd (true≢false e)
minus_cut false w r h e = digit_first w r (whole_nonempty w h) (whole_digits w h) 45 (omega arith)

pub well_formed_cut : (n : Number) → IsWellFormed n → IsCut n
well_formed_cut n h = record {
  minus = minus_cut n.minus n.whole _ h.whole;
  whole = digits_stop_not n.whole (whole_digits n.whole h.whole);
  fraction = fraction_cut n.fraction h.fraction;
  exponent = exponent_cut n.exponent h.exponent;
}

-- ---- the exponent of a cut token

mark_from_test : (c : ℕ) → is_mark c ≡ true → IsMark c
mark_from_test c h = go (or_cases (c == 101) (c == 69) h)
  where
    go : ((c == 101) ≡ true) ⊎ ((c == 69) ≡ true) → IsMark c
    go (inl e) = inl (eqb-true c 101 e)
    go (inr e) = inr (eqb-true c 69 e)

pub cut_exponent_digits : (e : Exponent) → IsCutExponent e → IsNumeral 10 e.digits → IsExponent e
cut_exponent_digits e h d = record { mark = mark_from_test e.mark h.mark; sign = h.sign; digits = d }

-- digits that do not begin with 0 are a whole part
pub whole_from_digits : (w : List ℕ) → 1 ≤ length w → (get_or w 0 0 ≡ 48 → ⊥) → AllDigits 10 w → IsWhole w
whole_from_digits [] l n h = absurd (omega (arith, l))
whole_from_digits (c ∷ cs) l n h = let r = digit_from_value c h.0 in let not_zero : c ≡ 48 → ⊥ = n in inr (omega (arith, r.0, not_zero), r.1, h.1)
