-- What the grammar spells is read, whatever ends it.
use Rattle.std.proofs.Common.{◌≡◌, ◌≢◌, ℕ, zero, suc, ◌+◌, ◌-◌, ◌<◌, ◌≤◌, Bool, true, false, cond, ◌||◌, ◌==◌, ◌∙◌, List, [], ◌∷◌, ◌++◌, take, drop, length, Some, None, is_some, option_and_then, inl, inr, ◌⊎◌, refl, sym, ap, ap₂, subst, arith, append_assoc, length-append}
use Rattle.std.proofs.lemmas.Bool.{true≢false, false≢true, ne_eqb, eqb-true, leb-true, and_parts, cases_Bool}
use Rattle.std.specs.List.{prefix_len}
use Rattle.std.specs.Char.{is_ascii_digit}
use Rattle.exact_json.specs.Json.{Json, null, boolean, number, text, items, object, Items, no_items, item, Members, no_pairs, pair, items_list, members_list, depth, items_depth, members_depth}
use Rattle.exact_json.specs.View.{items_of, members_of}
use Rattle.exact_json.specs.Number.{head, after_digits, after_whole, after_fraction, after_exponent, after_number, IsNumber, is_space, ends_value}
use Rattle.exact_json.specs.Strings.{IsText}
use Rattle.exact_json.proofs.Chars.{to_reading}
use Rattle.exact_json.specs.Grammar.{IsSpace, MoreElements, Elements, IsPair, Spells, spellings, pair_spellings}
use Rattle.exact_json.specs.Reading.{Parse, parse_map, skip, more_step, more_elements, elements_at, number_at, name_at, pair_at, scalar_at, list_of, object_of, value}
use Rattle.exact_json.proofs.Numbers.{number_again}
use Rattle.exact_json.proofs.Texts.{string_again, by_bool}
use Rattle.exact_json.proofs.Lists.{step, at_comma, at_close, no_elements, some_elements, value_list, value_object, value_scalar}
use Rattle.exact_json.proofs.Fronts.{predicates, Each, SpellsPair, take_front}

-- ---- white space

pub skip_none : (x : ℕ) (xs : List ℕ) → is_space x ≡ false → skip (x ∷ xs) ≡ x ∷ xs
skip_none x xs h = ap (λ b. drop (cond b (1 + prefix_len is_space xs) 0) (x ∷ xs)) h

skip_one : (x : ℕ) (xs : List ℕ) → is_space x ≡ true → skip (x ∷ xs) ≡ skip xs
skip_one x xs h =
    let more : 1 + prefix_len is_space xs ≡ suc (prefix_len is_space xs) = omega arith in
    ap (λ b. drop (cond b (1 + prefix_len is_space xs) 0) (x ∷ xs)) h ∙ ap (λ n. drop n (x ∷ xs)) more

pub skip_over : (sp t : List ℕ) → IsSpace sp → skip (sp ++ t) ≡ skip t
skip_over [] t h = refl
skip_over (x ∷ sp) t h = let p = and_parts _ _ h in skip_one x (sp ++ t) p.0 ∙ skip_over sp t p.1

-- ---- first bytes

-- the text has a first byte, which ends no value
pub record Begins (s : List ℕ) : Type 0 where
  pub byte : ℕ
  pub more : List ℕ
  pub is : s ≡ byte ∷ more
  pub no_end : ends_value byte ≡ false

pub space_ends : (x : ℕ) → is_space x ≡ true → ends_value x ≡ true
space_ends x h = ap (λ b. b || (x == 44) || (x == 93) || (x == 125)) h

pub no_space : (s : List ℕ) (b : Begins s) → is_space b.byte ≡ false
no_space s b = by_bool (is_space b.byte) (λ e. absurd (true≢false (sym (space_ends b.byte e) ∙ b.no_end))) (λ e. e)

no_number : (t : List ℕ) → (head t == 45) ≡ false → is_ascii_digit (head t) ≡ false → (head t == 48) ≡ false → after_number t ≡ None
unfolding after_number
no_number [] m d z = refl
no_number (x ∷ xs) m d z =
    ap (λ b. option_and_then after_exponent (option_and_then after_fraction (after_whole (cond b xs (x ∷ xs))))) m
    ∙ ap (λ b. option_and_then after_exponent (option_and_then after_fraction (cond b (Some xs) (after_digits (x ∷ xs))))) z
    ∙ ap (λ b. option_and_then after_exponent (option_and_then after_fraction (cond (cond b (1 + prefix_len is_ascii_digit xs) 0 == 0) None (Some (drop (cond b (1 + prefix_len is_ascii_digit xs) 0) (x ∷ xs)))))) d

-- a minus or a digit
pub record Numeric (t : List ℕ) : Type 0 where
  pub byte : ℕ
  pub more : List ℕ
  pub is : t ≡ byte ∷ more
  pub kind : (byte ≡ 45) ⊎ ((48 ≤ byte) × (byte ≤ 57))

never : {A : Type 0} (t : List ℕ) → IsNumber t → after_number t ≡ None → A
never t h n = absurd (false≢true (ap is_some (sym n ∙ h)))

numeric_by : (x : ℕ) (xs : List ℕ) → IsNumber (x ∷ xs) → ((x == 45) ≡ true) ⊎ ((x == 45) ≡ false) → (is_ascii_digit x ≡ true) ⊎ (is_ascii_digit x ≡ false) → Numeric (x ∷ xs)
numeric_by x xs h (inl m) d = record { byte = x; more = xs; is = refl; kind = inl (eqb-true x 45 m) }
numeric_by x xs h (inr m) (inl d) = record { byte = x; more = xs; is = refl; kind = inr (grind (arith, d), leb-true x 57 (and_parts _ _ d).1) }
numeric_by x xs h (inr m) (inr d) = never (x ∷ xs) h (no_number (x ∷ xs) m d (ne_eqb x 48 (λ e. false≢true (sym d ∙ ap is_ascii_digit e))))

pub numeric : (t : List ℕ) → IsNumber t → Numeric t
numeric [] h = never [] h (no_number [] refl refl refl)
numeric (x ∷ xs) h = numeric_by x xs h (cases_Bool (x == 45)) (cases_Bool (is_ascii_digit x))

other_byte : (x c : ℕ) → (x ≡ 45) ⊎ ((48 ≤ x) × (x ≤ 57)) → ((c ≡ 45) ⊎ ((48 ≤ c) × (c ≤ 57)) → ⊥) → x ≢ c
other_byte x c k bar = λ e. bar (subst (λ y. (y ≡ 45) ⊎ ((48 ≤ y) × (y ≤ 57))) e k)

outside : (c : ℕ) → c ≢ 45 → (48 ≤ c → c ≤ 57 → ⊥) → (c ≡ 45) ⊎ ((48 ≤ c) × (c ≤ 57)) → ⊥
outside c a b (inl e) = a e
outside c a b (inr p) = b p.0 p.1

no_end_number : (x : ℕ) → (x ≡ 45) ⊎ ((48 ≤ x) × (x ≤ 57)) → ends_value x ≡ false
no_end_number x (inl e) = ap ends_value e
no_end_number x (inr p) =
    let no = λ (c : ℕ) (f : x ≢ c). ne_eqb x c f in
    ap₂ (λ a b. a || b) (ap₂ (λ a b. a || b) (ap₂ (λ a b. a || b)
    (ap₂ (λ a b. a || b) (ap₂ (λ a b. a || b) (ap₂ (λ a b. a || b) (no 32 (λ e. omega (arith, e, p.0))) (no 9 (λ e. omega (arith, e, p.0)))) (no 10 (λ e. omega (arith, e, p.0)))) (no 13 (λ e. omega (arith, e, p.0))))
    (no 44 (λ e. omega (arith, e, p.0)))) (no 93 (λ e. omega (arith, e, p.1)))) (no 125 (λ e. omega (arith, e, p.1)))

pub begins : (j : Json) (s : List ℕ) → Spells j s → Begins s
begins null s h = record { byte = 110; more = 117 ∷ 108 ∷ 108 ∷ []; is = h; no_end = refl }
begins (boolean true) s h = record { byte = 116; more = 114 ∷ 117 ∷ 101 ∷ []; is = h; no_end = refl }
begins (boolean false) s h = record { byte = 102; more = 97 ∷ 108 ∷ 115 ∷ 101 ∷ []; is = h; no_end = refl }
begins (number t) s h = let n = numeric t h.1 in record { byte = n.byte; more = n.more; is = h.0 ∙ n.is; no_end = no_end_number n.byte n.kind }
begins (text t) s h = let r = to_reading t s h in record { byte = 34; more = r.0; is = r.1; no_end = refl }
begins (items js) s h = record { byte = 91; more = h.0 ++ 93 ∷ []; is = h.1; no_end = refl }
begins (object ms) s h = record { byte = 123; more = h.0 ++ 125 ∷ []; is = h.1; no_end = refl }

pair_begins : (p : List ℕ × Json) (s : List ℕ) → SpellsPair p s → Begins s
unfolding SpellsPair
pair_begins p s h =
    let name = to_reading p.0 h.0 h.5 in
    record { byte = 34; more = name.0 ++ h.1 ++ 58 ∷ h.2 ++ h.3; is = h.4 ∙ ap (λ l. l ++ h.1 ++ 58 ∷ h.2 ++ h.3) name.1; no_end = refl }

pub skip_value : (s t : List ℕ) → Begins s → skip (s ++ t) ≡ s ++ t
skip_value s t b = ap (λ l. skip (l ++ t)) b.is ∙ skip_none b.byte (b.more ++ t) (no_space s b) ∙ ap (λ l. l ++ t) (sym b.is)

-- ---- numbers

pick5 : {A : Type 0} (a b c d : Bool) (p q r s e : A) → a ≡ false → b ≡ false → c ≡ false → d ≡ false → cond a p (cond b q (cond c r (cond d s e))) ≡ e
pick5 a b c d p q r s e ha hb hc hd = ap (λ z. cond z p (cond b q (cond c r (cond d s e)))) ha ∙ ap (λ z. cond z q (cond c r (cond d s e))) hb ∙ ap (λ z. cond z r (cond d s e)) hc ∙ ap (λ z. cond z s e) hd

pub number_read : (t rest : List ℕ) → IsNumber t → ends_value (head rest) ≡ true → number_at (t ++ rest) ≡ Some (t, rest)
unfolding number_at
number_read t rest h ended =
    ap (option_and_then (λ r. cond (ends_value (head r)) (Some (take (length (t ++ rest) - length r) (t ++ rest), r)) None)) (number_again t rest ended h)
    ∙ ap (λ b. cond b (Some (take (length (t ++ rest) - length rest) (t ++ rest), rest)) None) ended ∙ ap (λ l. Some (l, rest)) (take_front t rest)

scalar_number : (x : ℕ) (ys : List ℕ) → (x ≡ 45) ⊎ ((48 ≤ x) × (x ≤ 57)) → scalar_at (x ∷ ys) ≡ parse_map number (number_at (x ∷ ys))
scalar_number x ys k =
    let bar = λ (c : ℕ) (f : x ≢ c). ne_eqb x c f in
    pick5 (x == 34) (x == 110) (x == 116) (x == 102) _ _ _ _ _
    (bar 34 (other_byte x 34 k (outside 34 (λ e. omega (arith, e)) (λ a b. omega (arith, a, b)))))
    (bar 110 (other_byte x 110 k (outside 110 (λ e. omega (arith, e)) (λ a b. omega (arith, a, b)))))
    (bar 116 (other_byte x 116 k (outside 116 (λ e. omega (arith, e)) (λ a b. omega (arith, a, b)))))
    (bar 102 (other_byte x 102 k (outside 102 (λ e. omega (arith, e)) (λ a b. omega (arith, a, b)))))

pub number_value : (t rest : List ℕ) → IsNumber t → ends_value (head rest) ≡ true → scalar_at (t ++ rest) ≡ Some (number t, rest)
number_value t rest h ended =
    let n = numeric t h in
    let at : t ++ rest ≡ n.byte ∷ (n.more ++ rest) = ap (λ l. l ++ rest) n.is in
    ap scalar_at at ∙ scalar_number n.byte (n.more ++ rest) n.kind ∙ ap (parse_map number) (ap number_at (sym at) ∙ number_read t rest h ended)

-- ---- elements

-- what spells the element is read as it, whatever ends it
pub AgainAt : {E : Type 0} → Parse E → (E → List ℕ → Type 0) → E → Type 0
AgainAt p P e = (s : List ℕ) → P e s → (r : List ℕ) → ends_value (head r) ≡ true → p (s ++ r) ≡ Some (e, r)

regroup : (a s b rest r : List ℕ) (close : ℕ) → ((a ++ s ++ b) ++ rest) ++ close ∷ r ≡ a ++ (s ++ (b ++ (rest ++ close ∷ r)))
regroup a s b rest r close = grind (arith, append_assoc)

module _ {E : Type 0} (close : ℕ) (closes : ends_value close ≡ true) (no_comma : close ≢ 44) (no_blank : is_space close ≡ false) (p : Parse E) (P : E → List ℕ → Type 0) (begin : (e : E) (s : List ℕ) → P e s → Begins s) where
  behind_ends : (es : List E) (rest r : List ℕ) → MoreElements (predicates P es) rest → ends_value (head (rest ++ close ∷ r)) ≡ true
  unfolding predicates
  behind_ends [] rest r h = ap (λ l. ends_value (head (l ++ close ∷ r))) h ∙ closes
  behind_ends (e ∷ es) rest r h = ap (λ l. ends_value (head (l ++ close ∷ r))) h.2

  tail_ends : (es : List E) (sp rest r : List ℕ) → IsSpace sp → MoreElements (predicates P es) rest → ends_value (head (sp ++ (rest ++ close ∷ r))) ≡ true
  tail_ends es [] rest r a h = behind_ends es rest r h
  tail_ends es (x ∷ sp) rest r a h = space_ends x (and_parts _ _ a).0

  -- elements that go on are read, with turns enough
  MoreAgain : List E → Type 0
  MoreAgain es = (mark : List ℕ) → MoreElements (predicates P es) (44 ∷ mark) → (r : List ℕ) (n : ℕ) → length mark < n → more_elements close p n (mark ++ close ∷ r) ≡ Some (es, r)

  behind : (e : E) (es : List E) → MoreAgain es → (rest : List ℕ) → MoreElements (predicates P es) rest → (r : List ℕ) (n : ℕ) → length rest ≤ n → more_step close (more_elements close p n) e (skip (rest ++ close ∷ r)) ≡ Some (e ∷ es, r)
  unfolding MoreAgain predicates
  behind e [] ih rest h r n room =
      let more = more_elements close p n in
      ap (λ l. more_step close more e (skip (l ++ close ∷ r))) h ∙ ap (more_step close more e) (skip_none close r no_blank) ∙ at_close close more e (close ∷ r) no_comma refl
  behind e (f ∷ es) ih rest h r n room =
      let mark = h.0 ++ h.1 in
      let more = more_elements close p n in
      let whole : MoreElements (predicates P (f ∷ es)) (44 ∷ mark) = (h.0, h.1, refl, h.3, h.4) in
      let shorter : length mark < n = omega (arith, ap length h.2, room) in
      ap (λ l. more_step close more e (skip (l ++ close ∷ r))) h.2 ∙ at_comma close more e (44 ∷ (mark ++ close ∷ r)) refl ∙ ap (parse_map (λ l. e ∷ l)) (ih mark whole r n shorter)

  none_again : MoreAgain []
  unfolding MoreAgain predicates
  none_again mark h r n room = absurd (omega (arith, ap length h))

  one_more : (e : E) (es : List E) → AgainAt p P e → MoreAgain es → MoreAgain (e ∷ es)
  unfolding MoreAgain AgainAt predicates
  one_more e es ie ies mark h r n room =
      let first = h.0 in
      let rest = h.1 in
      let pad = h.3 in
      let a = pad.0 in
      let s = pad.1 in
      let z = pad.2 in
      let tail = z ++ (rest ++ close ∷ r) in
      let split : mark ≡ (a ++ s ++ z) ++ rest = ap (drop 1) h.2 ∙ ap (λ l. l ++ rest) pad.3 in
      let at : mark ++ close ∷ r ≡ a ++ (s ++ tail) = ap (λ l. l ++ close ∷ r) split ∙ regroup a s z rest r close in
      let skipped : skip (mark ++ close ∷ r) ≡ s ++ tail = ap skip at ∙ skip_over a (s ++ tail) pad.4 ∙ skip_value s tail (begin e s pad.5) in
      let read : p (skip (mark ++ close ∷ r)) ≡ Some (e, tail) = ap p skipped ∙ ie s pad.5 tail (tail_ends es z rest r pad.6 h.4) in
      let small : length rest ≤ n - 1 = omega (arith, room, ap length split, length-append (a ++ s ++ z) rest, length-append (a ++ s) z, length-append a s, ap length (begin e s pad.5).is) in
      step close p n (mark ++ close ∷ r) (omega (arith, room)) ∙ ap (option_and_then (λ q. more_step close (more_elements close p (n - 1)) q.0 (skip q.1))) read
      ∙ ap (more_step close (more_elements close p (n - 1)) e) (skip_over z (rest ++ close ∷ r) pad.6) ∙ behind e es ies rest h.4 r (n - 1) small

  all_again : (es : List E) → Each (AgainAt p P) es → MoreAgain es
  unfolding Each
  all_again [] h = none_again
  all_again (e ∷ es) h = one_more e es h.0 (all_again es h.1)

  pub elements_again : (es : List E) → Each (AgainAt p P) es → (inside : List ℕ) → Elements (predicates P es) inside → (r : List ℕ) → elements_at close p (inside ++ close ∷ r) ≡ Some (es, r)
  unfolding MoreAgain predicates
  elements_again [] each inside h r = no_elements close p (inside ++ close ∷ r) (close ∷ r) r (sym (skip_over inside (close ∷ r) h ∙ skip_none close r no_blank)) refl refl
  elements_again (e ∷ es) each inside h r =
      let rest = h.1 in
      let pad = h.3 in
      let a = pad.0 in
      let s = pad.1 in
      let z = pad.2 in
      let tail = z ++ (rest ++ close ∷ r) in
      let b = begin e s pad.5 in
      let at : inside ++ close ∷ r ≡ a ++ (s ++ tail) = ap (λ l. l ++ close ∷ r) (h.2 ∙ ap (λ l. l ++ rest) pad.3) ∙ regroup a s z rest r close in
      let skipped : skip (inside ++ close ∷ r) ≡ s ++ tail = ap skip at ∙ skip_over a (s ++ tail) pad.4 ∙ skip_value s tail b in
      let mark = (s ++ z) ++ rest in
      let same : mark ++ close ∷ r ≡ s ++ tail = regroup [] s z rest r close in
      let whole : MoreElements (predicates P (e ∷ es)) (44 ∷ mark) = (s ++ z, rest, refl, ([], s, z, refl, refl, pad.5, pad.6), h.4) in
      let open_byte : head (s ++ tail) ≢ close = λ w. true≢false (sym closes ∙ ap ends_value (sym w ∙ ap (λ l. head (l ++ tail)) b.is) ∙ b.no_end) in
      some_elements close p (inside ++ close ∷ r) (s ++ tail) (sym skipped) open_byte ∙ ap (more_elements close p (suc (length (s ++ tail)))) (sym same)
      ∙ all_again (e ∷ es) each mark whole r (suc (length (s ++ tail))) (omega (arith, ap length same, length-append mark (close ∷ r)))

-- ---- lists and objects

pub items_of_list : (js : Items) → items_of (items_list js) ≡ js
items_of_list no_items = refl
items_of_list (item j js) = ap (item j) (items_of_list js)

pub members_of_list : (ms : Members) → members_of (members_list ms) ≡ ms
members_of_list no_pairs = refl
members_of_list (pair k j ms) = ap (pair k j) (members_of_list ms)

pub list_spellings : (js : Items) → spellings js ≡ predicates Spells (items_list js)
unfolding predicates
list_spellings no_items = refl
list_spellings (item j js) = ap (λ l. Spells j ∷ l) (list_spellings js)

pub list_pair_spellings : (ms : Members) → pair_spellings ms ≡ predicates SpellsPair (members_list ms)
unfolding predicates SpellsPair
list_pair_spellings no_pairs = refl
list_pair_spellings (pair k j ms) = ap (λ l. IsPair k (Spells j) ∷ l) (list_pair_spellings ms)

name_again : (k name left rest : List ℕ) → IsText k name → IsSpace left → name_at (name ++ (left ++ 58 ∷ rest)) ≡ Some (k, rest)
unfolding name_at
name_again k name left rest h blank =
    let behind = left ++ 58 ∷ rest in
    let t = to_reading k name h in
    let colon : skip behind ≡ 58 ∷ rest = skip_over left (58 ∷ rest) blank in
    ap (λ l. name_at (l ++ behind)) t.1 ∙ ap (option_and_then (λ p. cond (head (skip p.1) == 58) (Some (p.0, drop 1 (skip p.1))) None)) (string_again t.0 k behind t.2) ∙ ap (λ l. cond (head l == 58) (Some (k, drop 1 l)) None) colon

pub Again : Json → Type 0
Again j = (s : List ℕ) → Spells j s → (d : ℕ) → depth j ≤ d → (r : List ℕ) → ends_value (head r) ≡ true → value d (s ++ r) ≡ Some (j, r)

pair_again : (k : List ℕ) (j : Json) → Again j → (d : ℕ) → depth j ≤ d → AgainAt (pair_at (value d)) SpellsPair (k, j)
unfolding AgainAt SpellsPair Again
pair_again k j ih d le s h r ended =
    let rest = h.2 ++ (h.3 ++ r) in
    let at : s ++ r ≡ h.0 ++ (h.1 ++ 58 ∷ rest) = ap (λ l. l ++ r) h.4 ∙ group h.0 h.1 h.2 h.3 r in
    let next : skip rest ≡ h.3 ++ r = skip_over h.2 (h.3 ++ r) h.7 ∙ skip_value h.3 r (begins j h.3 h.8) in
    ap (pair_at (value d)) at ∙ ap (option_and_then (λ q. parse_map (λ i. (q.0, i)) (value d (skip q.1)))) (name_again k h.0 h.1 rest h.5 h.6)
    ∙ ap (parse_map (λ i. (k, i))) (ap (value d) next ∙ ih h.3 h.8 d le r ended)
  where
    group : (a c s v r : List ℕ) → (a ++ c ++ 58 ∷ s ++ v) ++ r ≡ a ++ (c ++ 58 ∷ (s ++ (v ++ r)))
    group a c s v r = grind (arith, append_assoc)

list_again : (js : Items) (s : List ℕ) → Spells (items js) s → (d : ℕ) → Each (AgainAt (value d) Spells) (items_list js) → (r : List ℕ) → value (suc d) (s ++ r) ≡ Some (items js, r)
list_again js s h d each r =
    let at : s ++ r ≡ 91 ∷ (h.0 ++ 93 ∷ r) = ap (λ l. l ++ r) h.1 ∙ ap (λ l. 91 ∷ l) (append_assoc h.0 (93 ∷ []) r) in
    let inside = subst (λ Ps. Elements Ps h.0) (list_spellings js) h.2 in
    ap (value (suc d)) at ∙ value_list d (91 ∷ (h.0 ++ 93 ∷ r)) (h.0 ++ 93 ∷ r) refl refl
    ∙ ap (parse_map list_of) (elements_again 93 refl (λ e. omega (arith, e)) refl (value d) Spells begins (items_list js) each h.0 inside r) ∙ ap (λ l. Some (items l, r)) (items_of_list js)

object_again : (ms : Members) (s : List ℕ) → Spells (object ms) s → (d : ℕ) → Each (AgainAt (pair_at (value d)) SpellsPair) (members_list ms) → (r : List ℕ) → value (suc d) (s ++ r) ≡ Some (object ms, r)
object_again ms s h d each r =
    let at : s ++ r ≡ 123 ∷ (h.0 ++ 125 ∷ r) = ap (λ l. l ++ r) h.1 ∙ ap (λ l. 123 ∷ l) (append_assoc h.0 (125 ∷ []) r) in
    let inside = subst (λ Ps. Elements Ps h.0) (list_pair_spellings ms) h.2 in
    ap (value (suc d)) at ∙ value_object d (123 ∷ (h.0 ++ 125 ∷ r)) (h.0 ++ 125 ∷ r) refl refl
    ∙ ap (parse_map object_of) (elements_again 125 refl (λ e. omega (arith, e)) refl (pair_at (value d)) SpellsPair pair_begins (members_list ms) each h.0 inside r) ∙ ap (λ l. Some (object l, r)) (members_of_list ms)

mutual
  unfolding Again AgainAt Each

  pub value_again : (j : Json) → Again j
  value_again null s h d le r e = ap (λ l. value d (l ++ r)) h ∙ value_scalar d (110 ∷ 117 ∷ 108 ∷ 108 ∷ r) (λ z. omega (arith, z)) (λ z. omega (arith, z))
  value_again (boolean true) s h d le r e = ap (λ l. value d (l ++ r)) h ∙ value_scalar d (116 ∷ 114 ∷ 117 ∷ 101 ∷ r) (λ z. omega (arith, z)) (λ z. omega (arith, z))
  value_again (boolean false) s h d le r e = ap (λ l. value d (l ++ r)) h ∙ value_scalar d (102 ∷ 97 ∷ 108 ∷ 115 ∷ 101 ∷ r) (λ z. omega (arith, z)) (λ z. omega (arith, z))
  value_again (number t) s h d le r e =
      let n = numeric t h.1 in
      let list_byte : head (t ++ r) ≢ 91 = λ z. other_byte n.byte 91 n.kind (outside 91 (λ x. omega (arith, x)) (λ a b. omega (arith, a, b))) (ap (λ l. head (l ++ r)) (sym n.is) ∙ z) in
      let object_byte : head (t ++ r) ≢ 123 = λ z. other_byte n.byte 123 n.kind (outside 123 (λ x. omega (arith, x)) (λ a b. omega (arith, a, b))) (ap (λ l. head (l ++ r)) (sym n.is) ∙ z) in
      ap (λ l. value d (l ++ r)) h.0 ∙ value_scalar d (t ++ r) list_byte object_byte ∙ number_value t r h.1 e
  value_again (text t) s h d le r e =
      let b = to_reading t s h in
      ap (λ l. value d (l ++ r)) b.1 ∙ value_scalar d (34 ∷ (b.0 ++ r)) (λ z. omega (arith, z)) (λ z. omega (arith, z)) ∙ ap (parse_map text) (string_again b.0 t r b.2)
  value_again (items js) s h zero le r e = absurd (omega (arith, le))
  value_again (items js) s h (suc d) le r e = list_again js s h d (items_again js d (omega (arith, le))) r
  value_again (object ms) s h zero le r e = absurd (omega (arith, le))
  value_again (object ms) s h (suc d) le r e = object_again ms s h d (members_again ms d (omega (arith, le))) r

  items_again : (js : Items) (d : ℕ) → items_depth js ≤ d → Each (AgainAt (value d) Spells) (items_list js)
  items_again no_items d le = tt
  items_again (item j js) d le = ((λ s h r e. value_again j s h d (omega (arith, le)) r e), items_again js d (omega (arith, le)))

  members_again : (ms : Members) (d : ℕ) → members_depth ms ≤ d → Each (AgainAt (pair_at (value d)) SpellsPair) (members_list ms)
  members_again no_pairs d le = tt
  members_again (pair k j ms) d le = (pair_again k j (value_again j) d (omega (arith, le)), members_again ms d (omega (arith, le)))

-- what spells a value is read as that value, at each depth that is enough, whatever ends it
pub again : (j : Json) (s : List ℕ) → Spells j s → (d : ℕ) → depth j ≤ d → (r : List ℕ) → ends_value (head r) ≡ true → value d (s ++ r) ≡ Some (j, r)
unfolding Again
again j = value_again j
