-- The texts of what was read, stretch by stretch.
use Rattle.std.proofs.Common.{◌≡◌, ◌≢◌, ℕ, suc, ◌≤◌, Bool, true, false, cond, ◌==◌, nat_eq, ◌∙◌, List, [], ◌∷◌, ◌++◌, take, drop, length, map, Some, refl, sym, ap, subst, arith, append_assoc, length-append, take-append-drop}
use Rattle.std.proofs.lemmas.List.{append-nil, append_cancel_right}
use Rattle.std.specs.Borrow.{Bor}
use Rattle.std.specs.List.{Contains, starts_with}
use Rattle.exact_json.specs.Json.{Json, null, boolean, number}
use Rattle.exact_json.specs.Number.{head}
use Rattle.exact_json.specs.StringReading.{text_at}
use Rattle.exact_json.specs.Grammar.{bare}
use Rattle.exact_json.specs.Reading.{parse_map, skip, literal, number_at, token_at}
use Rattle.exact_json.specs.Slices.{in_turn, IsTextOf, HasNoQuote, AreTextsOf, AreTextsBefore}
use Rattle.exact_json.specs.declared.tree.JsonText.{JsonText}
use Rattle.exact_json.specs.declared.tree.JsonText.TheVariants.{Plain, Made}
use Rattle.exact_json.proofs.Texts.{by_bool, head_cons, string_front}
use Rattle.exact_json.proofs.Fronts.{branch, literal_front, same_bytes, mapped, number_front, quiet_number, skipped}
use Rattle.exact_json.proofs.Quiet.{AllQuiet, quiet_space}
use Rattle.exact_json.proofs.Chars.{from_reading}

-- ---- bytes without a quotation mark

quiet_bytes : (b : List ℕ) → AllQuiet b → HasNoQuote b
quiet_bytes [] h = tt
quiet_bytes (c ∷ b) h = (h.0.quote, quiet_bytes b h.1)

both_quiet : (a b : List ℕ) → HasNoQuote a → HasNoQuote b → HasNoQuote (a ++ b)
both_quiet [] b h g = g
both_quiet (c ∷ a) b h g = (h.0, both_quiet a b h.1 g)

-- ---- one stretch behind another

quiet_before : (ts : List JsonText) (a b : List ℕ) → HasNoQuote a → AreTextsOf ts b → AreTextsOf ts (a ++ b)
quiet_before [] a b h g = both_quiet a b h g
quiet_before (t ∷ ts) a b h g = (a ++ g.0, g.1, g.2, ap (λ l. a ++ l) g.3 ∙ regroup a g.0 g.1 g.2, both_quiet a g.0 h g.4, g.5, g.6)
  where
    regroup : (a x y z : List ℕ) → a ++ (x ++ y ++ z) ≡ (a ++ x) ++ y ++ z
    regroup a x y z = sym (ap (λ l. l ++ z) (append_assoc a x y) ∙ append_assoc a (x ++ y) z)

both : (ts us : List JsonText) (a b : List ℕ) → AreTextsOf ts a → AreTextsOf us b → AreTextsOf (ts ++ us) (a ++ b)
both [] us a b h g = quiet_before us a b h g
both (t ∷ ts) us a b h g = (h.0, h.1, h.2 ++ b, ap (λ l. l ++ b) h.3 ∙ append_assoc (h.0 ++ h.1) h.2 b, h.4, h.5, both ts us h.2 b h.6 g)

pub joins : (ts us : List JsonText) (a b c : List ℕ) → AreTextsBefore ts a b → AreTextsBefore us b c → AreTextsBefore (ts ++ us) a c
joins ts us a b c h g = (h.0 ++ g.0, h.1 ∙ ap (λ l. h.0 ++ l) g.1 ∙ sym (append_assoc h.0 g.0 c), both ts us h.0 g.0 h.2 g.2)

-- behind the texts stands nothing but quiet bytes
pub then_quiet : (ts : List JsonText) (a b c : List ℕ) → AreTextsBefore ts a b → AreTextsBefore [] b c → AreTextsBefore ts a c
then_quiet ts a b c h g = subst (λ us. AreTextsBefore us a c) (append-nil ts) (joins ts [] a b c h g)

pub nothing : (b : List ℕ) → AreTextsBefore [] b b
nothing b = ([], refl, tt)

pub all_of_it : (ts : List JsonText) (b : List ℕ) → AreTextsBefore ts b [] → AreTextsOf ts b
all_of_it ts b h = subst (AreTextsOf ts) (sym (h.1 ∙ append-nil h.0)) h.2

pub spaces : (b s : List ℕ) → s ≡ skip b → AreTextsBefore [] b s
spaces b s at = let sp = skipped b in (sp.0, sp.1 ∙ ap (λ l. sp.0 ++ l) (sym at), quiet_bytes sp.0 (quiet_space sp.0 sp.2))

pub one_byte : (c : ℕ) (b rest : List ℕ) → c ≢ 32 → c ≢ 34 → head b ≡ c → rest ≡ drop 1 b → AreTextsBefore [] b rest
one_byte c b rest space quote h left = (c ∷ [], head_cons b c h space ∙ ap (λ l. c ∷ l) (sym left), (quote, tt))

-- white space and a byte
pub spaced_byte : (c : ℕ) (b m rest : List ℕ) → c ≢ 32 → c ≢ 34 → m ≡ skip b → head m ≡ c → rest ≡ drop 1 m → AreTextsBefore [] b rest
spaced_byte c b m rest space quote at h left = joins [] [] b m rest (spaces b m at) (one_byte c m rest space quote h left)

pushed_texts : {X : Type 0} (f : X → List JsonText) (xs : List X) (x : X) → in_turn (map f xs) ++ f x ≡ in_turn (map f (xs ++ x ∷ []))
pushed_texts f [] x = sym (append-nil (f x))
pushed_texts f (y ∷ xs) x = append_assoc (f y) (in_turn (map f xs)) (f x) ∙ ap (λ l. f y ++ l) (pushed_texts f xs x)

-- one more behind what was read, and white space between
pub more_texts : {X : Type 0} (f : X → List JsonText) (xs ys : List X) (x : X) (a b s c : List ℕ) → ys ≡ xs ++ x ∷ [] → AreTextsBefore (in_turn (map f xs)) a b → s ≡ skip b → AreTextsBefore (f x) s c → AreTextsBefore (in_turn (map f ys)) a c
more_texts f xs ys x a b s c grown h at g =
    subst (λ ts. AreTextsBefore ts a c) (pushed_texts f xs x ∙ ap (λ l. in_turn (map f l)) (sym grown)) (joins (in_turn (map f xs)) (f x) a b c h (joins [] (f x) b s c (spaces b s at) g))

-- ---- tokens

quiet_literal : (name : List ℕ) (i j : Json) (b z : List ℕ) → HasNoQuote name → literal name i b ≡ Some (j, z) → AreTextsBefore [] b z
quiet_literal name i j b z q h = (name, (literal_front name i j b z h).0, q)

quiet_token : (b : List ℕ) (j : Json) (z : List ℕ) → parse_map number (number_at b) ≡ Some (j, z) → AreTextsBefore [] b z
quiet_token b j z h =
    let m = mapped number (number_at b) j z h in
    let n = number_front b m.0 z m.1 in
    (m.0, n.0, quiet_bytes m.0 (quiet_number m.0 n.1))

pub token_texts : (b : List ℕ) (j : Json) (z : List ℕ) → token_at b ≡ Some (j, z) → AreTextsBefore [] b z
token_texts b j z h = by_bool (head b == 110)
    (λ n. quiet_literal (110 ∷ 117 ∷ 108 ∷ 108 ∷ []) null j b z (λ e. omega (arith, e), (λ e. omega (arith, e), (λ e. omega (arith, e), (λ e. omega (arith, e), tt)))) (branch (head b == 110) true _ _ _ n h))
    (λ n. let h1 = branch (head b == 110) false _ _ _ n h in by_bool (head b == 116)
    (λ t. quiet_literal (116 ∷ 114 ∷ 117 ∷ 101 ∷ []) (boolean true) j b z (λ e. omega (arith, e), (λ e. omega (arith, e), (λ e. omega (arith, e), (λ e. omega (arith, e), tt)))) (branch (head b == 116) true _ _ _ t h1))
    (λ t. let h2 = branch (head b == 116) false _ _ _ t h1 in by_bool (head b == 102)
    (λ f. quiet_literal (102 ∷ 97 ∷ 108 ∷ 115 ∷ 101 ∷ []) (boolean false) j b z (λ e. omega (arith, e), (λ e. omega (arith, e), (λ e. omega (arith, e), (λ e. omega (arith, e), (λ e. omega (arith, e), tt))))) (branch (head b == 102) true _ _ _ f h2))
    (λ f. quiet_token b j z (branch (head b == 102) false _ _ _ f h2))))

-- ---- strings

-- the one text of a string
one_text : (t : JsonText) (b f rest : List ℕ) → b ≡ f ++ rest → IsTextOf t (34 ∷ f) → AreTextsBefore (t ∷ []) (34 ∷ b) rest
one_text t b f rest at is = (34 ∷ f, ap (λ l. 34 ∷ l) at, ([], 34 ∷ f, [], sym (append-nil (34 ∷ f)), tt, is, tt))

pub plain_text : (b rest : List ℕ) (s : Bor (List ℕ)) → text_at 0 b ≡ Some (s.now, rest) → b ≡ s.now ++ 34 ∷ rest → AreTextsBefore (Plain s ∷ []) (34 ∷ b) rest
plain_text b rest s h at =
    let f = string_front b s.now rest h in
    let same : f.0 ≡ s.now ++ 34 ∷ [] = append_cancel_right f.0 (s.now ++ 34 ∷ []) rest (sym f.1 ∙ at ∙ sym (append_assoc s.now (34 ∷ []) rest)) in
    one_text (Plain s) b f.0 rest f.1 (record { spelled = from_reading _ (34 ∷ f.0) (f.0, refl, f.2); slice = ap (λ l. 34 ∷ l) same })

-- a byte that stands before the rest of the bytes
inside : (c : ℕ) (f rest front back : List ℕ) → f ++ rest ≡ front ++ c ∷ back → length rest ≤ length back → Contains f c
inside c [] rest front back e le = absurd (omega (arith, ap length e, length-append front (c ∷ back), le))
inside c (x ∷ f) rest [] back e le = (0, omega arith, ap head e)
inside c (x ∷ f) rest (y ∷ front) back e le = let h = inside c f rest front back (ap (drop 1) e) le in (suc h.0, omega (arith, h.1), h.2)

pub made_text : (b rest : List ℕ) (s : Bor (List ℕ)) → text_at 0 b ≡ Some (s.now, rest) → (front back : List ℕ) × (b ≡ front ++ 92 ∷ back) × (length rest ≤ length back) → AreTextsBefore (Made s ∷ []) (34 ∷ b) rest
made_text b rest s h escaped =
    let f = string_front b s.now rest h in
    let c = inside 92 f.0 rest escaped.0 escaped.1 (sym f.1 ∙ escaped.2) escaped.3 in
    one_text (Made s) b f.0 rest f.1 (record { spelled = from_reading _ (34 ∷ f.0) (f.0, refl, f.2); slice = (suc c.0, omega (arith, c.1), c.2) })

-- ---- a whole text

mark_bytes : HasNoQuote (239 ∷ 187 ∷ 191 ∷ [])
mark_bytes = (λ e. omega (arith, e), (λ e. omega (arith, e), (λ e. omega (arith, e), tt)))

bare_by : (ts : List JsonText) (b : List ℕ) (c : Bool) → starts_with nat_eq b (239 ∷ 187 ∷ 191 ∷ []) ≡ c → AreTextsOf ts (cond c (drop 3 b) b) → AreTextsOf ts b
bare_by ts b true h g =
    let mark = same_bytes (239 ∷ 187 ∷ 191 ∷ []) (take 3 b) h in
    subst (AreTextsOf ts) (ap (λ l. l ++ drop 3 b) (sym mark) ∙ take-append-drop 3 b) (quiet_before ts (239 ∷ 187 ∷ 191 ∷ []) (drop 3 b) mark_bytes g)
bare_by ts b false h g = g

-- with a byte order mark and white space in front
pub whole_text : (ts : List JsonText) (b start : List ℕ) → start ≡ skip (bare b) → AreTextsOf ts start → AreTextsOf ts b
whole_text ts b start at h =
    let sp = spaces (bare b) start at in
    bare_by ts b (starts_with nat_eq b (239 ∷ 187 ∷ 191 ∷ [])) refl (subst (AreTextsOf ts) (sym sp.1) (quiet_before ts sp.0 start sp.2 h))
