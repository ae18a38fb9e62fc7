-- What was read of a value is spelled so in front of the text.
use Rattle.std.proofs.Common.{◌≡◌, ◌≢◌, ℕ, zero, suc, ◌+◌, ◌-◌, ◌≤◌, Bool, true, false, cond, ◌&&◌, ◌||◌, ◌==◌, ◌∙◌, List, [], ◌∷◌, ◌++◌, take, drop, length, Option, Some, None, option_and_then, nat_eq, inl, inr, ◌⊎◌, refl, sym, ap, ap₂, subst, arith, append_assoc, length-append, take-append-drop}
use Rattle.std.proofs.lemmas.Bool.{false≢true, eqb-true, and_parts, or_cases}
use Rattle.std.proofs.lemmas.List.{append-nil}
use Rattle.std.specs.List.{prefix_len, starts_with}
use Rattle.std.specs.Str.{bytes_eq}
use Rattle.std.specs.Char.{is_ascii_digit}
use Rattle.std.proofs.lemmas.Option.{same_Some}
use Rattle.exact_json.specs.Json.{Json, null, boolean, number, text, depth, items_depth, members_depth}
use Rattle.exact_json.specs.View.{items_of, members_of}
use Rattle.exact_json.specs.Number.{head, after_digits, after_minus, after_sign, after_whole, after_fraction, after_exponent, after_number, IsNumber, is_space, ends_value}
use Rattle.exact_json.specs.StringReading.{text_at}
use Rattle.exact_json.specs.Strings.{IsText}
use Rattle.exact_json.specs.Grammar.{IsSpace, Padded, MoreElements, Elements, IsPair, Spells, spellings, pair_spellings}
use Rattle.exact_json.specs.Reading.{Parse, parse_map, skip, literal, more_step, more_elements, elements_at, number_at, name_at, pair_at, token_at, scalar_at, list_of, object_of, value}
use Rattle.exact_json.proofs.Numbers.{number_alone}
use Rattle.exact_json.proofs.Texts.{by_bool, then_some, tested, string_front, head_cons, none_some}
use Rattle.exact_json.proofs.Chars.{from_reading}
use Rattle.exact_json.proofs.Quiet.{IsQuiet, AllQuiet, quiet_below, quiet_letter, quiet_append, quiet_digits}
use Rattle.exact_json.proofs.Lists.{value_list, value_object, value_scalar, list_too_deep, object_too_deep}

-- ---- white space

skipped_by : (x : ℕ) (xs : List ℕ) (c : Bool) → is_space x ≡ c → ((sp : List ℕ) × (xs ≡ sp ++ skip xs) × IsSpace sp) → (sp : List ℕ) × (x ∷ xs ≡ sp ++ drop (cond c (1 + prefix_len is_space xs) 0) (x ∷ xs)) × IsSpace sp
skipped_by x xs false h ih = ([], refl, refl)
skipped_by x xs true h ih =
    let more : suc (prefix_len is_space xs) ≡ 1 + prefix_len is_space xs = omega arith in
    (x ∷ ih.0, ap (λ l. x ∷ l) ih.1 ∙ ap (λ n. x ∷ ih.0 ++ drop n (x ∷ xs)) more, ap₂ (λ a b. a && b) h ih.2)

pub skipped : (b : List ℕ) → (sp : List ℕ) × (b ≡ sp ++ skip b) × IsSpace sp
skipped [] = ([], refl, refl)
skipped (x ∷ xs) = skipped_by x xs (is_space x) refl (skipped xs)

-- ---- what was found

-- a mapped result
pub mapped : {A B : Type 0} (f : A → B) (o : Option (A × List ℕ)) (y : B) (z : List ℕ) → parse_map f o ≡ Some (y, z) → (x : A) × (o ≡ Some (x, z)) × (f x ≡ y)
mapped {A} {B} f None y z h = absurd (none_some h)
mapped {A} {B} f (Some p) y z h = (p.0, ap (λ w. Some (p.0, w)) (ap second h), ap first h)
  where
    first : Option (B × List ℕ) → B
    first None = y
    first (Some q) = q.0

    second : Option (B × List ℕ) → List ℕ
    second None = []
    second (Some q) = q.1

pub pair_parts : {A : Type 0} (a c : A) (b d : List ℕ) → ◌≡◌ {A = Option (A × List ℕ)} (Some (a, b)) (Some (c, d)) → (a ≡ c) × (b ≡ d)
pair_parts {A} a c b d h = (ap first h, ap second h)
  where
    first : Option (A × List ℕ) → A
    first None = a
    first (Some q) = q.0

    second : Option (A × List ℕ) → List ℕ
    second None = []
    second (Some q) = q.1

-- ---- numbers

-- what follows quiet bytes
abbrev Suffix : List ℕ → List ℕ → Type 0
Suffix t r = (f : List ℕ) × (t ≡ f ++ r) × AllQuiet f

abbrev Suffixes : List ℕ → Option (List ℕ) → Type 0
Suffixes t o = (r : List ℕ) → o ≡ Some r → Suffix t r

suffix_one : (t : List ℕ) (c : ℕ) → (head t == c) ≡ true → c ≢ 32 → IsQuiet c → Suffix t (drop 1 t)
suffix_one t c h ne quiet = (c ∷ [], head_cons t c (eqb-true (head t) c h) ne, (quiet, tt))

suffix_either : (t : List ℕ) (c d : ℕ) → ((head t == c) || (head t == d)) ≡ true → c ≢ 32 → d ≢ 32 → IsQuiet c → IsQuiet d → Suffix t (drop 1 t)
suffix_either t c d h nc nd qc qd = by_case (or_cases (head t == c) (head t == d) h)
  where
    by_case : ((head t == c) ≡ true) ⊎ ((head t == d) ≡ true) → Suffix t (drop 1 t)
    by_case (inl e) = suffix_one t c e nc qc
    by_case (inr e) = suffix_one t d e nd qd

onto : (t u : List ℕ) (o : Option (List ℕ)) → Suffix t u → Suffixes u o → Suffixes t o
onto t u o s f r h = let q = f r h in (s.0 ++ q.0, s.1 ∙ ap (λ l. s.0 ++ l) q.1 ∙ sym (append_assoc s.0 q.0 r), quiet_append s.0 q.0 s.2 q.2)

either_suffix : (t : List ℕ) (c : Bool) (x y : Option (List ℕ)) → (c ≡ true → Suffixes t x) → Suffixes t y → Suffixes t (cond c x y)
either_suffix t true x y f g = f refl
either_suffix t false x y f g = g

either_rest : (t : List ℕ) (c : Bool) (x y : List ℕ) → (c ≡ true → Suffix t x) → Suffix t y → Suffix t (cond c x y)
either_rest t true x y f g = f refl
either_rest t false x y f g = g

itself : (t : List ℕ) → Suffix t t
itself t = ([], refl, tt)

some_suffix : (t u : List ℕ) → Suffix t u → Suffixes t (Some u)
some_suffix t u s r h = subst (Suffix t) (same_Some u r h) s

no_suffix : (t : List ℕ) → Suffixes t None
no_suffix t r h = absurd (none_some h)

then_suffix : (t : List ℕ) (f : List ℕ → Option (List ℕ)) (o : Option (List ℕ)) → ((u : List ℕ) → Suffixes u (f u)) → Suffixes t o → Suffixes t (option_and_then f o)
then_suffix t f None g s = no_suffix t
then_suffix t f (Some u) g s = onto t u (f u) (s u refl) (g u)

digits_suffix : (t : List ℕ) → Suffixes t (after_digits t)
digits_suffix t =
    let n = prefix_len is_ascii_digit t in
    either_suffix t (n == 0) None (Some (drop n t)) (λ e. no_suffix t) (some_suffix t (drop n t) (take n t, sym (take-append-drop n t), quiet_digits t))

quiet_minus : IsQuiet 45
quiet_minus = quiet_below 45 (omega arith) (λ e. omega (arith, e))

whole_suffix : (t : List ℕ) → Suffixes t (after_whole t)
whole_suffix t = either_suffix t (head t == 48) (Some (drop 1 t)) (after_digits t) (λ e. some_suffix t _ (suffix_one t 48 e (λ w. omega (arith, w)) (quiet_below 48 (omega arith) (λ w. omega (arith, w))))) (digits_suffix t)

fraction_suffix : (t : List ℕ) → Suffixes t (after_fraction t)
fraction_suffix t =
    either_suffix t (head t == 46) (after_digits (drop 1 t)) (Some t)
    (λ e. onto t (drop 1 t) _ (suffix_one t 46 e (λ w. omega (arith, w)) (quiet_below 46 (omega arith) (λ w. omega (arith, w)))) (digits_suffix (drop 1 t))) (some_suffix t t (itself t))

sign_suffix : (t : List ℕ) → Suffix t (after_sign t)
sign_suffix t =
    either_rest t ((head t == 45) || (head t == 43)) (drop 1 t) t
    (λ e. suffix_either t 45 43 e (λ w. omega (arith, w)) (λ w. omega (arith, w)) quiet_minus (quiet_below 43 (omega arith) (λ w. omega (arith, w)))) (itself t)

exponent_suffix : (t : List ℕ) → Suffixes t (after_exponent t)
exponent_suffix t =
    either_suffix t ((head t == 101) || (head t == 69)) (after_digits (after_sign (drop 1 t))) (Some t)
    (λ e. onto t (drop 1 t) _ (suffix_either t 101 69 e (λ w. omega (arith, w)) (λ w. omega (arith, w)) (quiet_letter 101 (omega arith) (omega arith)) (quiet_below 69 (omega arith) (λ w. omega (arith, w))))
    (onto (drop 1 t) (after_sign (drop 1 t)) _ (sign_suffix (drop 1 t)) (digits_suffix (after_sign (drop 1 t))))) (some_suffix t t (itself t))

number_suffix : (t : List ℕ) → Suffixes t (after_number t)
unfolding after_number
number_suffix t =
    then_suffix t after_exponent _ exponent_suffix (then_suffix t after_fraction _ fraction_suffix
    (onto t (after_minus t) (after_whole (after_minus t)) (either_rest t (head t == 45) (drop 1 t) t (λ e. suffix_one t 45 e (λ w. omega (arith, w)) quiet_minus) (itself t)) (whole_suffix (after_minus t))))

-- a number has no quote and no bracket
pub quiet_number : (t : List ℕ) → IsNumber t → AllQuiet t
quiet_number t h = let s = number_suffix t [] h in subst AllQuiet (sym (s.1 ∙ append-nil s.0)) s.2

pub take_front : (t rest : List ℕ) → take (length (t ++ rest) - length rest) (t ++ rest) ≡ t
take_front t rest = let n : length (t ++ rest) - length rest ≡ length t = omega (arith, length-append t rest) in ap (λ k. take k (t ++ rest)) n ∙ take_whole t rest
  where
    take_whole : (t rest : List ℕ) → take (length t) (t ++ rest) ≡ t
    take_whole [] rest = refl
    take_whole (x ∷ xs) rest = ap (λ l. x ∷ l) (take_whole xs rest)

pub number_front : (b t z : List ℕ) → number_at b ≡ Some (t, z) → (b ≡ t ++ z) × IsNumber t
unfolding number_at
number_front b t z h =
    let n = then_some (λ rest. cond (ends_value (head rest)) (Some (take (length b - length rest) b, rest)) None) (after_number b) (t, z) h in
    let r = n.0 in
    let c = tested (ends_value (head r)) (Some (take (length b - length r) b, r)) (t, z) n.2 in
    let same = pair_parts (take (length b - length r) b) t r z c.1 in
    let s = number_suffix b r n.1 in
    let token : t ≡ s.0 = sym same.0 ∙ ap (λ l. take (length l - length r) l) s.1 ∙ take_front s.0 r in
    let whole : b ≡ t ++ r = s.1 ∙ ap (λ l. l ++ r) (sym token) in
    (whole ∙ ap (λ l. t ++ l) same.1, number_alone t r c.0 (ap after_number (sym whole) ∙ n.1))

-- ---- literals

pub same_bytes : (a b : List ℕ) → bytes_eq a b ≡ true → b ≡ a
same_bytes [] [] h = refl
same_bytes [] (y ∷ b) h = absurd (false≢true h)
same_bytes (x ∷ a) [] h = absurd (false≢true h)
same_bytes (x ∷ a) (y ∷ b) h = let p = and_parts (x == y) (bytes_eq a b) h in ap₂ (λ u v. u ∷ v) (sym (eqb-true x y p.0)) (same_bytes a b p.1)

pub literal_front : (name : List ℕ) (i j : Json) (b z : List ℕ) → literal name i b ≡ Some (j, z) → (b ≡ name ++ z) × (i ≡ j)
literal_front name i j b z h =
    let c = tested (starts_with nat_eq b name) (Some (i, drop (length name) b)) (j, z) h in
    let same = pair_parts i j (drop (length name) b) z c.1 in
    (sym (take-append-drop (length name) b) ∙ ap₂ (λ u v. u ++ v) (same_bytes name (take (length name) b) c.0) same.1, same.0)

-- ---- a value that is no list and no object

pub ValueFront : ℕ → List ℕ → Json → List ℕ → Type 0
ValueFront d b j z = (s : List ℕ) × (b ≡ s ++ z) × Spells j s × (depth j ≤ d)

literal_value : (d : ℕ) (name : List ℕ) (i : Json) (b : List ℕ) (j : Json) (z : List ℕ) → Spells i name → depth i ≡ 0 → literal name i b ≡ Some (j, z) → ValueFront d b j z
unfolding ValueFront
literal_value d name i b j z is flat h = let f = literal_front name i j b z h in subst (λ k. (s : List ℕ) × (b ≡ s ++ z) × Spells k s × (depth k ≤ d)) f.1 (name, f.0, is, omega (arith, flat))

number_value : (d : ℕ) (b : List ℕ) (j : Json) (z : List ℕ) → parse_map number (number_at b) ≡ Some (j, z) → ValueFront d b j z
unfolding ValueFront
number_value d b j z h =
    let m = mapped number (number_at b) j z h in
    let n = number_front b m.0 z m.1 in
    subst (λ k. (s : List ℕ) × (b ≡ s ++ z) × Spells k s × (depth k ≤ d)) m.2 (m.0, n.0, (refl, n.1), omega arith)

text_front : (b s z : List ℕ) → (head b == 34) ≡ true → text_at 0 (drop 1 b) ≡ Some (s, z) → (t : List ℕ) × (b ≡ t ++ z) × IsText s t
text_front b s z q h =
    let f = string_front (drop 1 b) s z h in
    (34 ∷ f.0, head_cons b 34 (eqb-true (head b) 34 q) (λ e. omega (arith, e)) ∙ ap (λ l. 34 ∷ l) f.1, from_reading s (34 ∷ f.0) (f.0, refl, f.2))

text_value : (d : ℕ) (b : List ℕ) (j : Json) (z : List ℕ) → (head b == 34) ≡ true → parse_map text (text_at 0 (drop 1 b)) ≡ Some (j, z) → ValueFront d b j z
unfolding ValueFront
text_value d b j z q h =
    let m = mapped text (text_at 0 (drop 1 b)) j z h in
    let t = text_front b m.0 z q m.1 in
    subst (λ k. (s : List ℕ) × (b ≡ s ++ z) × Spells k s × (depth k ≤ d)) m.2 (t.0, t.1, t.2, omega arith)

pub branch : {A : Type 0} (c d : Bool) (x y w : A) → c ≡ d → cond c x y ≡ w → cond d x y ≡ w
branch c d x y w e h = ap (λ b. cond b x y) (sym e) ∙ h

token_value : (d : ℕ) (b : List ℕ) (j : Json) (z : List ℕ) → token_at b ≡ Some (j, z) → ValueFront d b j z
token_value d b j z h = by_bool (head b == 110)
    (λ n. literal_value d (110 ∷ 117 ∷ 108 ∷ 108 ∷ []) null b j z refl refl (branch (head b == 110) true _ _ _ n h))
    (λ n. let h1 = branch (head b == 110) false _ _ _ n h in by_bool (head b == 116)
    (λ t. literal_value d (116 ∷ 114 ∷ 117 ∷ 101 ∷ []) (boolean true) b j z refl refl (branch (head b == 116) true _ _ _ t h1))
    (λ t. let h2 = branch (head b == 116) false _ _ _ t h1 in by_bool (head b == 102)
    (λ f. literal_value d (102 ∷ 97 ∷ 108 ∷ 115 ∷ 101 ∷ []) (boolean false) b j z refl refl (branch (head b == 102) true _ _ _ f h2))
    (λ f. number_value d b j z (branch (head b == 102) false _ _ _ f h2))))

scalar_value : (d : ℕ) (b : List ℕ) (j : Json) (z : List ℕ) → scalar_at b ≡ Some (j, z) → ValueFront d b j z
scalar_value d b j z h = by_bool (head b == 34)
    (λ q. text_value d b j z q (branch (head b == 34) true _ _ _ q h))
    (λ q. token_value d b j z (branch (head b == 34) false _ _ _ q h))

-- ---- elements

-- what spells each of them
unfoldable pub predicates : {E : Type 0} → (E → List ℕ → Type 0) → List E → List (List ℕ → Type 0)
predicates P [] = []
predicates P (e ∷ es) = P e ∷ predicates P es

unfoldable pub Each : {E : Type 0} → (E → Type 0) → List E → Type 0
Each D [] = Unit {0}
Each D (e ∷ es) = D e × Each D es

-- what the parser gives is spelled in front
pub IsSound : {E : Type 0} → Parse E → (E → List ℕ → Type 0) → (E → Type 0) → Type 0
IsSound {E} p P D = (b : List ℕ) (e : E) (z : List ℕ) → p b ≡ Some (e, z) → (s : List ℕ) × (b ≡ s ++ z) × P e s × D e

padded_front : (P : List ℕ → Type 0) (b s r : List ℕ) → skip b ≡ s ++ r → P s → (first : List ℕ) × (b ≡ first ++ skip r) × Padded P first
padded_front P b s r at is =
    let x = skipped b in
    let y = skipped r in
    (x.0 ++ s ++ y.0, x.1 ∙ ap (λ l. x.0 ++ l) (at ∙ ap (λ l. s ++ l) y.1) ∙ regroup x.0 s y.0 (skip r), (x.0, s, y.0, refl, x.2, is, y.2))
  where
    regroup : (a s c r : List ℕ) → a ++ (s ++ (c ++ r)) ≡ (a ++ s ++ c) ++ r
    regroup a s c r = sym (append_assoc (a ++ s) c r ∙ append_assoc a s (c ++ r))

module _ {E : Type 0} (close : ℕ) (p : Parse E) (P : E → List ℕ → Type 0) (D : E → Type 0) (no_blank : close ≢ 32) (sound : IsSound p P D) where
  MoreFront : List ℕ → List E → List ℕ → Type 0
  MoreFront b es z = (inside : List ℕ) × (b ≡ inside ++ close ∷ z) × MoreElements (predicates P es) (44 ∷ inside) × Each D es

  closed_front : (b first m : List ℕ) (e : E) (es : List E) (z : List ℕ) → b ≡ first ++ m → Padded (P e) first → D e → cond {A = Option (List E × List ℕ)} (head m == close) (Some (e ∷ [], drop 1 m)) None ≡ Some (es, z) → MoreFront b es z
  unfolding MoreFront predicates Each
  closed_front b first m e es z at pad deep h =
      let c = tested (head m == close) (Some (e ∷ [], drop 1 m)) (es, z) h in
      let same = pair_parts (e ∷ []) es (drop 1 m) z c.1 in
      let mark : m ≡ close ∷ z = head_cons m close (eqb-true (head m) close c.0) no_blank ∙ ap (λ l. close ∷ l) same.1 in
      subst (λ l. (inside : List ℕ) × (b ≡ inside ++ close ∷ z) × MoreElements (predicates P l) (44 ∷ inside) × Each D l) same.0
      (first, at ∙ ap (λ l. first ++ l) mark, (first, [], sym (append-nil (44 ∷ first)), pad, refl), (deep, tt))

  comma_front : (b first m : List ℕ) (e : E) (es : List E) (z : List ℕ) → b ≡ first ++ m → Padded (P e) first → D e → (head m == 44) ≡ true → ((fs : List E) → ◌≡◌ {A = List E} (e ∷ fs) es → MoreFront (drop 1 m) fs z → MoreFront b es z)
  unfolding MoreFront predicates Each
  comma_front b first m e es z at pad deep comma fs same more =
      let mark : m ≡ 44 ∷ drop 1 m = head_cons m 44 (eqb-true (head m) 44 comma) (λ w. omega (arith, w)) in
      subst (λ l. (inside : List ℕ) × (b ≡ inside ++ close ∷ z) × MoreElements (predicates P l) (44 ∷ inside) × Each D l) same
      (first ++ 44 ∷ more.0, at ∙ ap (λ l. first ++ l) (mark ∙ ap (λ l. 44 ∷ l) more.1) ∙ sym (append_assoc first (44 ∷ more.0) (close ∷ z)), (first, 44 ∷ more.0, refl, pad, more.2), (deep, more.3))

  more_front : (n : ℕ) (b : List ℕ) (es : List E) (z : List ℕ) → more_elements close p n b ≡ Some (es, z) → MoreFront b es z
  unfolding more_elements IsSound
  more_front zero b es z h = absurd (none_some h)
  more_front (suc n) b es z h =
      let t = then_some (λ q. more_step close (more_elements close p n) q.0 (skip q.1)) (p (skip b)) (es, z) h in
      let e = t.0.0 in
      let r = t.0.1 in
      let m = skip r in
      let s = sound (skip b) e r t.1 in
      let pad = padded_front (P e) b s.0 r s.1 s.2 in
      by_bool (head m == 44)
      (λ c.
      let w = mapped (λ fs. e ∷ fs) (more_elements close p n (drop 1 m)) es z (branch (head m == 44) true _ _ _ c t.2) in
      comma_front b pad.0 m e es z pad.1 pad.2 s.3 c w.0 w.2 (more_front n (drop 1 m) w.0 z w.1))
      (λ c. closed_front b pad.0 m e es z pad.1 pad.2 s.3 (branch (head m == 44) false _ _ _ c t.2))

  pub ElementsFront : List ℕ → List E → List ℕ → Type 0
  ElementsFront b es z = (inside : List ℕ) × (b ≡ inside ++ close ∷ z) × Elements (predicates P es) inside × Each D es

  -- with the white space in front
  spaced : (b s : List ℕ) (es : List E) (z : List ℕ) (sp : List ℕ) → b ≡ sp ++ s → IsSpace sp → MoreFront s es z → ElementsFront b es z
  unfolding MoreFront ElementsFront predicates Each
  spaced b s [] z sp at blank more = absurd (omega (arith, ap length more.2))
  spaced b s (e ∷ es) z sp at blank more =
      let first = more.2.0 in
      let rest = more.2.1 in
      let pad = more.2.3 in
      let inside : more.0 ≡ first ++ rest = ap (drop 1) more.2.2 in (
        sp ++ more.0,
        at ∙ ap (λ l. sp ++ l) more.1 ∙ sym (append_assoc sp more.0 (close ∷ z)),
        (
          sp ++ first,
          rest,
          ap (λ l. sp ++ l) inside ∙ sym (append_assoc sp first rest),
          (sp ++ pad.0, pad.1, pad.2, ap (λ l. sp ++ l) pad.3 ∙ regroup sp pad.0 pad.1 pad.2, all_blank sp pad.0 blank pad.4, pad.5, pad.6),
          more.2.4,
        ),
        more.3,
      )
    where
      regroup : (x a s c : List ℕ) → x ++ (a ++ s ++ c) ≡ (x ++ a) ++ s ++ c
      regroup x a s c = sym (ap (λ l. l ++ c) (append_assoc x a s) ∙ append_assoc x (a ++ s) c)

      all_blank : (a c : List ℕ) → IsSpace a → IsSpace c → IsSpace (a ++ c)
      all_blank [] c h g = g
      all_blank (x ∷ a) c h g = let q = and_parts _ _ h in ap₂ (λ u v. u && v) q.0 (all_blank a c q.1 g)

  pub elements_front : (b : List ℕ) (es : List E) (z : List ℕ) → elements_at close p b ≡ Some (es, z) → ElementsFront b es z
  unfolding elements_at ElementsFront predicates Each
  elements_front b es z h =
      let sp = skipped b in
      let s = skip b in
      by_bool (head s == close)
      (λ c.
      let same = pair_parts [] es (drop 1 s) z (branch (head s == close) true _ _ _ c h) in
      let mark : s ≡ close ∷ z = head_cons s close (eqb-true (head s) close c) no_blank ∙ ap (λ l. close ∷ l) same.1 in
      subst (λ l. (inside : List ℕ) × (b ≡ inside ++ close ∷ z) × Elements (predicates P l) inside × Each D l) same.0 (sp.0, sp.1 ∙ ap (λ l. sp.0 ++ l) mark, sp.2, tt))
      (λ c. spaced b s es z sp.0 sp.1 sp.2 (more_front (suc (length s)) s es z (branch (head s == close) false _ _ _ c h)))

-- ---- lists and objects

pub spellings_of : (js : List Json) → predicates Spells js ≡ spellings (items_of js)
unfolding predicates
spellings_of [] = refl
spellings_of (j ∷ js) = ap (λ l. Spells j ∷ l) (spellings_of js)

unfoldable pub SpellsPair : List ℕ × Json → List ℕ → Type 0
SpellsPair p = IsPair p.0 (Spells p.1)

pub pair_spellings_of : (ps : List (List ℕ × Json)) → predicates SpellsPair ps ≡ pair_spellings (members_of ps)
unfolding predicates SpellsPair
pair_spellings_of [] = refl
pair_spellings_of (p ∷ ps) = ap (λ l. IsPair p.0 (Spells p.1) ∷ l) (pair_spellings_of ps)

items_within : (d : ℕ) (js : List Json) → Each (λ j. depth j ≤ d) js → items_depth (items_of js) ≤ d
unfolding Each
items_within d [] h = omega arith
items_within d (j ∷ js) h = omega (arith, h.0, items_within d js h.1)

members_within : (d : ℕ) (ps : List (List ℕ × Json)) → Each (λ p. depth p.1 ≤ d) ps → members_depth (members_of ps) ≤ d
unfolding Each
members_within d [] h = omega arith
members_within d (p ∷ ps) h = omega (arith, h.0, members_within d ps h.1)

name_front : (b k r : List ℕ) → name_at b ≡ Some (k, r) → (name left : List ℕ) × (b ≡ name ++ (left ++ 58 ∷ r)) × IsText k name × IsSpace left
unfolding name_at
name_front b k r h =
    let q = tested (head b == 34) (option_and_then (λ p. cond (head (skip p.1) == 58) (Some (p.0, drop 1 (skip p.1))) None) (text_at 0 (drop 1 b))) (k, r) h in
    let t = then_some (λ p. cond (head (skip p.1) == 58) (Some (p.0, drop 1 (skip p.1))) None) (text_at 0 (drop 1 b)) (k, r) q.1 in
    let s = t.0.0 in
    let behind = t.0.1 in
    let c = tested (head (skip behind) == 58) (Some (s, drop 1 (skip behind))) (k, r) t.2 in
    let same = pair_parts s k (drop 1 (skip behind)) r c.1 in
    let f = text_front b s behind q.0 t.1 in
    let sp = skipped behind in
    let mark : skip behind ≡ 58 ∷ r = head_cons (skip behind) 58 (eqb-true (head (skip behind)) 58 c.0) (λ w. omega (arith, w)) ∙ ap (λ l. 58 ∷ l) same.1 in
    (f.0, sp.0, f.1 ∙ ap (λ l. f.0 ++ l) (sp.1 ∙ ap (λ l. sp.0 ++ l) mark), subst (λ l. IsText l f.0) same.0 f.2, sp.2)

pair_sound : (d : ℕ) → IsSound (value d) Spells (λ j. depth j ≤ d) → IsSound (pair_at (value d)) SpellsPair (λ p. depth p.1 ≤ d)
unfolding IsSound SpellsPair
pair_sound d sound b e z h =
    let t = then_some (λ k. parse_map (λ j. (k.0, j)) (value d (skip k.1))) (name_at b) (e, z) h in
    let k = t.0.0 in
    let r = t.0.1 in
    let m = mapped (λ j. (k, j)) (value d (skip r)) e z t.2 in
    let n = name_front b k r t.1 in
    let sp = skipped r in
    let v = sound (skip r) m.0 z m.1 in
    subst (λ p. (s : List ℕ) × (b ≡ s ++ z) × IsPair p.0 (Spells p.1) s × (depth p.1 ≤ d)) m.2
    (n.0 ++ n.1 ++ 58 ∷ sp.0 ++ v.0, n.2 ∙ ap (λ l. n.0 ++ (n.1 ++ 58 ∷ l)) (sp.1 ∙ ap (λ l. sp.0 ++ l) v.1) ∙ regroup n.0 n.1 sp.0 v.0 z, (n.0, n.1, sp.0, v.0, refl, n.3, n.4, sp.2, v.2), v.3)
  where
    regroup : (a c s v z : List ℕ) → a ++ (c ++ 58 ∷ (s ++ (v ++ z))) ≡ (a ++ c ++ 58 ∷ s ++ v) ++ z
    regroup a c s v z = grind (arith, append_assoc)

bracketed : (b inside z : List ℕ) (first close : ℕ) → head b ≡ first → first ≢ 32 → drop 1 b ≡ inside ++ close ∷ z → b ≡ (first ∷ inside ++ close ∷ []) ++ z
bracketed b inside z first close h ne at = head_cons b first h ne ∙ ap (λ l. first ∷ l) (at ∙ sym (append_assoc inside (close ∷ []) z))

list_value : (d : ℕ) → IsSound (value d) Spells (λ j. depth j ≤ d) → (b : List ℕ) (j : Json) (z : List ℕ) → head b ≡ 91 → value (suc d) b ≡ Some (j, z) → ValueFront (suc d) b j z
unfolding ValueFront ElementsFront
list_value d sound b j z h is =
    let m = mapped list_of (elements_at 93 (value d) (drop 1 b)) j z (sym (value_list d b (drop 1 b) h refl) ∙ is) in
    let f = elements_front 93 (value d) Spells (λ j. depth j ≤ d) (λ w. omega (arith, w)) sound (drop 1 b) m.0 z m.1 in
    subst (λ k. (s : List ℕ) × (b ≡ s ++ z) × Spells k s × (depth k ≤ suc d)) m.2
    (91 ∷ f.0 ++ 93 ∷ [], bracketed b f.0 z 91 93 h (λ w. omega (arith, w)) f.1, (f.0, refl, subst (λ Ps. Elements Ps f.0) (spellings_of m.0) f.2), omega (arith, items_within d m.0 f.3))

object_value : (d : ℕ) → IsSound (value d) Spells (λ j. depth j ≤ d) → (b : List ℕ) (j : Json) (z : List ℕ) → head b ≡ 123 → value (suc d) b ≡ Some (j, z) → ValueFront (suc d) b j z
unfolding ValueFront ElementsFront
object_value d sound b j z h is =
    let m = mapped object_of (elements_at 125 (pair_at (value d)) (drop 1 b)) j z (sym (value_object d b (drop 1 b) h refl) ∙ is) in
    let f = elements_front 125 (pair_at (value d)) SpellsPair (λ p. depth p.1 ≤ d) (λ w. omega (arith, w)) (pair_sound d sound) (drop 1 b) m.0 z m.1 in
    subst (λ k. (s : List ℕ) × (b ≡ s ++ z) × Spells k s × (depth k ≤ suc d)) m.2
    (123 ∷ f.0 ++ 125 ∷ [], bracketed b f.0 z 123 125 h (λ w. omega (arith, w)) f.1, (f.0, refl, subst (λ Ps. Elements Ps f.0) (pair_spellings_of m.0) f.2), omega (arith, members_within d m.0 f.3))

pub not_same : (x c : ℕ) → (x == c) ≡ false → x ≢ c
not_same x c h e = false≢true (sym h ∙ eq_test x c e)
  where
    eq_test : (x c : ℕ) → x ≡ c → (x == c) ≡ true
    eq_test x c e = grind (arith, e)

by_first : {A : Type 0} (x : ℕ) → (x ≡ 91 → A) → (x ≡ 123 → A) → (x ≢ 91 → x ≢ 123 → A) → A
by_first x f g k = by_bool (x == 91) (λ e. f (eqb-true x 91 e)) (λ e. by_bool (x == 123) (λ w. g (eqb-true x 123 w)) (λ w. k (not_same x 91 e) (not_same x 123 w)))

values_sound : (d : ℕ) → IsSound (value d) Spells (λ j. depth j ≤ d)
unfolding IsSound ValueFront
values_sound zero b j z h = by_first (head b)
    (λ e. absurd (none_some (sym (list_too_deep b e) ∙ h)))
    (λ e. absurd (none_some (sym (object_too_deep b e) ∙ h)))
    (λ e w. scalar_value 0 b j z (sym (value_scalar 0 b e w) ∙ h))
values_sound (suc d) b j z h = by_first (head b)
    (λ e. list_value d (values_sound d) b j z e h)
    (λ e. object_value d (values_sound d) b j z e h)
    (λ e w. scalar_value (suc d) b j z (sym (value_scalar (suc d) b e w) ∙ h))

pub spelled : (d : ℕ) (b : List ℕ) (j : Json) (z : List ℕ) → value d b ≡ Some (j, z) → (s : List ℕ) × (b ≡ s ++ z) × Spells j s × (depth j ≤ d)
unfolding IsSound
spelled d = values_sound d
