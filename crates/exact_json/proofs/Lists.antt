-- Reading elements, turn by turn, and a value by its first byte.
use Rattle.std.proofs.Common.{◌≡◌, ◌≢◌, ℕ, zero, suc, ◌-◌, ◌<◌, ◌≤◌, Bool, cond, ◌==◌, ◌∙◌, List, [], ◌∷◌, ◌++◌, take, drop, length, map, Option, Some, None, option_and_then, Result, Ok, Err, refl, sym, ap, ap₂, arith, length-append}
use Rattle.std.proofs.lemmas.List.{drop-append-le, take-append-le}
use Rattle.std.proofs.lemmas.Bool.{ne_eqb, eq-eqb}
use Rattle.exact_json.specs.Json.{Json}
use Rattle.exact_json.specs.declared.fault.JsonFault.{JsonFault}
use Rattle.exact_json.specs.declared.fault.JsonFault.TheVariants.{Text, Deep, OutOfMemory}
use Rattle.exact_json.specs.Number.{head}
use Rattle.exact_json.specs.Reading.{Parse, parse_map, skip, more_step, more_elements, elements_at, name_at, pair_at, scalar_at, list_of, object_of, value, Fails, Gives, Misses, Finds}

-- ---- what was read stands in front of what is to come

-- the elements xs, and then those
pub joined : {E : Type 0} → List E → Option (List E × List ℕ) → Option (List E × List ℕ)
joined xs r = parse_map (λ es. xs ++ es) r

joined_none : {E : Type 0} (xs : List E) → joined xs None ≡ None
unfolding joined
joined_none xs = refl

joined_one : {E : Type 0} (xs : List E) (e : E) (rest : List ℕ) → joined xs (Some (e ∷ [], rest)) ≡ Some (xs ++ e ∷ [], rest)
unfolding joined
joined_one xs e rest = refl

pub joined_nil : {E : Type 0} (r : Option (List E × List ℕ)) → r ≡ joined [] r
unfolding joined
joined_nil None = refl
joined_nil (Some p) = refl

pushed : {E : Type 0} (xs : List E) (e : E) (es : List E) → xs ++ e ∷ es ≡ (xs ++ e ∷ []) ++ es
pushed [] e es = refl
pushed (x ∷ xs) e es = ap (λ l. x ∷ l) (pushed xs e es)

joined_more : {E : Type 0} (xs : List E) (e : E) (r : Option (List E × List ℕ)) → joined xs (parse_map (λ es. e ∷ es) r) ≡ joined (xs ++ e ∷ []) r
unfolding joined
joined_more xs e None = refl
joined_more xs e (Some p) = ap (λ es. Some (es, p.1)) (pushed xs e p.0)

pub map_pushed : {X E : Type 0} (v : X → E) (ts : List X) (t : X) → map v ts ++ v t ∷ [] ≡ map v (ts ++ t ∷ [])
map_pushed v [] t = refl
map_pushed v (s ∷ ts) t = ap (λ l. v s ∷ l) (map_pushed v ts t)

-- ---- one more on a list whose front stays

pub drop_pushed : {X : Type 0} (n : ℕ) (old new all : List X) (x : X) → n ≤ length old → new ≡ old → all ≡ new ++ x ∷ [] → drop n all ≡ drop n old ++ x ∷ []
drop_pushed n old new all x le same pushed = ap (drop n) (pushed ∙ ap (λ l. l ++ x ∷ []) same) ∙ drop-append-le n old (x ∷ []) le

pub take_pushed : {X : Type 0} (n : ℕ) (old new all : List X) (x : X) → n ≤ length old → new ≡ old → all ≡ new ++ x ∷ [] → take n all ≡ take n old
take_pushed n old new all x le same pushed = ap (take n) (pushed ∙ ap (λ l. l ++ x ∷ []) same) ∙ take-append-le n old (x ∷ []) le

pub length_pushed : {X : Type 0} (n : ℕ) (old new all : List X) (x : X) → n ≤ length old → new ≡ old → all ≡ new ++ x ∷ [] → n ≤ length all
length_pushed n old new all x le same pushed = omega (arith, le, ap length pushed, ap length same, length-append new (x ∷ []))

-- ---- a turn

pub step : {E : Type 0} (close : ℕ) (p : Parse E) (n : ℕ) (b : List ℕ) → 0 < n → more_elements close p n b ≡ option_and_then (λ q. more_step close (more_elements close p (n - 1)) q.0 (skip q.1)) (p (skip b))
unfolding more_elements
step close p zero b h = absurd (omega arith)
step close p (suc n) b h = let less : n ≡ suc n - 1 = omega arith in ap (λ m. option_and_then (λ q. more_step close (more_elements close p m) q.0 (skip q.1)) (p (skip b))) less

pub no_element : {E : Type 0} (close : ℕ) (p : Parse E) (n : ℕ) (b s : List ℕ) → 0 < n → s ≡ skip b → p s ≡ None → more_elements close p n b ≡ None
no_element close p n b s h at none = step close p n b h ∙ ap (option_and_then (λ q. more_step close (more_elements close p (n - 1)) q.0 (skip q.1))) (ap p (sym at) ∙ none)

pub taken : {E : Type 0} (close : ℕ) (p : Parse E) (n : ℕ) (b s m : List ℕ) (e : E) (r : List ℕ) → 0 < n → s ≡ skip b → p s ≡ Some (e, r) → m ≡ skip r → more_elements close p n b ≡ more_step close (more_elements close p (n - 1)) e m
taken close p n b s m e r h at some mark =
    step close p n b h ∙ ap (option_and_then (λ q. more_step close (more_elements close p (n - 1)) q.0 (skip q.1))) (ap p (sym at) ∙ some) ∙ ap (more_step close (more_elements close p (n - 1)) e) (sym mark)

by_mark : {E : Type 0} → Bool → Bool → Parse (List E) → E → Parse (List E)
by_mark comma closed more e m = cond comma (parse_map (λ es. e ∷ es) (more (drop 1 m))) (cond closed (Some (e ∷ [], drop 1 m)) None)

marked : {E : Type 0} (close : ℕ) (more : Parse (List E)) (e : E) (m : List ℕ) → more_step close more e m ≡ by_mark (head m == 44) (head m == close) more e m
unfolding by_mark
marked close more e m = refl

-- behind an element: a comma, the closing bracket, or neither
pub at_comma : {E : Type 0} (close : ℕ) (more : Parse (List E)) (e : E) (m : List ℕ) → head m ≡ 44 → more_step close more e m ≡ parse_map (λ es. e ∷ es) (more (drop 1 m))
unfolding by_mark
at_comma close more e m comma = marked close more e m ∙ ap (λ q. by_mark q (head m == close) more e m) (eq-eqb (head m) 44 comma)

pub at_close : {E : Type 0} (close : ℕ) (more : Parse (List E)) (e : E) (m : List ℕ) → close ≢ 44 → head m ≡ close → more_step close more e m ≡ Some (e ∷ [], drop 1 m)
unfolding by_mark
at_close close more e m ne closed =
    let no : head m ≢ 44 = λ c. ne (sym closed ∙ c) in
    marked close more e m ∙ ap₂ (λ q w. by_mark q w more e m) (ne_eqb (head m) 44 no) (eq-eqb (head m) close closed)

pub at_neither : {E : Type 0} (close : ℕ) (more : Parse (List E)) (e : E) (m : List ℕ) → head m ≢ 44 → head m ≢ close → more_step close more e m ≡ None
unfolding by_mark
at_neither close more e m nc nb = marked close more e m ∙ ap₂ (λ q w. by_mark q w more e m) (ne_eqb (head m) 44 nc) (ne_eqb (head m) close nb)

pub comma_turn : {E : Type 0} (close : ℕ) (p : Parse E) (n : ℕ) (b s m : List ℕ) (xs ys : List E) (e : E) (r rest : List ℕ) → 0 < n → s ≡ skip b → p s ≡ Some (e, r) → m ≡ skip r → head m ≡ 44 → rest ≡ drop 1 m → xs ++ e ∷ [] ≡ ys
    → joined xs (more_elements close p n b) ≡ joined ys (more_elements close p (n - 1) rest)
comma_turn close p n b s m xs ys e r rest h at some mark comma left grown =
    let more = more_elements close p (n - 1) in
    ap (joined xs) (taken close p n b s m e r h at some mark ∙ at_comma close more e m comma) ∙ joined_more xs e (more (drop 1 m)) ∙ ap₂ (λ l z. joined l (more z)) grown (sym left)

pub last_turn : {E : Type 0} (close : ℕ) (p : Parse E) (n : ℕ) (b s m : List ℕ) (xs ys : List E) (e : E) (r rest : List ℕ) → close ≢ 44 → 0 < n → s ≡ skip b → p s ≡ Some (e, r) → m ≡ skip r → head m ≡ close → rest ≡ drop 1 m → xs ++ e ∷ [] ≡ ys
    → joined xs (more_elements close p n b) ≡ Some (ys, rest)
last_turn close p n b s m xs ys e r rest ne h at some mark closed left grown =
    let more = more_elements close p (n - 1) in
    ap (joined xs) (taken close p n b s m e r h at some mark ∙ at_close close more e m ne closed) ∙ joined_one xs e (drop 1 m) ∙ ap₂ (λ l z. Some (l, z)) grown (sym left)

pub bad_turn : {E : Type 0} (close : ℕ) (p : Parse E) (n : ℕ) (b s m : List ℕ) (xs : List E) (e : E) (r : List ℕ) → 0 < n → s ≡ skip b → p s ≡ Some (e, r) → m ≡ skip r → head m ≢ 44 → head m ≢ close
    → joined xs (more_elements close p n b) ≡ None
bad_turn close p n b s m xs e r h at some mark nc nb =
    let more = more_elements close p (n - 1) in
    ap (joined xs) (taken close p n b s m e r h at some mark ∙ at_neither close more e m nc nb) ∙ joined_none xs

pub lost_turn : {E : Type 0} (close : ℕ) (p : Parse E) (n : ℕ) (b s : List ℕ) (xs : List E) → 0 < n → s ≡ skip b → p s ≡ None → joined xs (more_elements close p n b) ≡ None
lost_turn close p n b s xs h at none = ap (joined xs) (no_element close p n b s h at none) ∙ joined_none xs

-- ---- the first turn

pub no_elements : {E : Type 0} (close : ℕ) (p : Parse E) (b s rest : List ℕ) → s ≡ skip b → head s ≡ close → rest ≡ drop 1 s → elements_at close p b ≡ Some ([], rest)
unfolding elements_at
no_elements close p b s rest at closed left =
    ap (λ z. cond (head z == close) (Some ([], drop 1 z)) (more_elements close p (suc (length z)) z)) (sym at) ∙ ap (λ q. cond q (Some ([], drop 1 s)) (more_elements close p (suc (length s)) s)) (eq-eqb (head s) close closed)
    ∙ ap (λ z. Some ([], z)) (sym left)

pub some_elements : {E : Type 0} (close : ℕ) (p : Parse E) (b s : List ℕ) → s ≡ skip b → head s ≢ close → elements_at close p b ≡ more_elements close p (suc (length s)) s
unfolding elements_at
some_elements close p b s at ne =
    ap (λ z. cond (head z == close) (Some ([], drop 1 z)) (more_elements close p (suc (length z)) z)) (sym at) ∙ ap (λ q. cond q (Some ([], drop 1 s)) (more_elements close p (suc (length s)) s)) (ne_eqb (head s) close ne)

-- ---- a value

by_bracket : {A : Type 0} → Bool → Bool → A → A → A → A
by_bracket list object x y z = cond list x (cond object y z)

pub value_list : (d : ℕ) (b rest : List ℕ) → head b ≡ 91 → rest ≡ drop 1 b → value (suc d) b ≡ parse_map list_of (elements_at 93 (value d) rest)
unfolding value by_bracket
value_list d b rest h left =
    ap (λ q. by_bracket q (head b == 123) (parse_map list_of (elements_at 93 (value d) (drop 1 b))) (parse_map object_of (elements_at 125 (pair_at (value d)) (drop 1 b))) (scalar_at b)) (eq-eqb (head b) 91 h)
    ∙ ap (λ z. parse_map list_of (elements_at 93 (value d) z)) (sym left)

pub value_object : (d : ℕ) (b rest : List ℕ) → head b ≡ 123 → rest ≡ drop 1 b → value (suc d) b ≡ parse_map object_of (elements_at 125 (pair_at (value d)) rest)
unfolding value by_bracket
value_object d b rest h left =
    let no : head b ≢ 91 = λ e. omega (arith, e, h) in
    ap₂ (λ p q. by_bracket p q (parse_map list_of (elements_at 93 (value d) (drop 1 b))) (parse_map object_of (elements_at 125 (pair_at (value d)) (drop 1 b))) (scalar_at b)) (ne_eqb (head b) 91 no) (eq-eqb (head b) 123 h)
    ∙ ap (λ z. parse_map object_of (elements_at 125 (pair_at (value d)) z)) (sym left)

pub list_too_deep : (b : List ℕ) → head b ≡ 91 → value 0 b ≡ None
unfolding value by_bracket
list_too_deep b h = ap (λ q. by_bracket q (head b == 123) None None (scalar_at b)) (eq-eqb (head b) 91 h)

pub object_too_deep : (b : List ℕ) → head b ≡ 123 → value 0 b ≡ None
unfolding value by_bracket
object_too_deep b h =
    let no : head b ≢ 91 = λ e. omega (arith, e, h) in
    ap₂ (λ p q. by_bracket p q None None (scalar_at b)) (ne_eqb (head b) 91 no) (eq-eqb (head b) 123 h)

pub value_scalar : (d : ℕ) (b : List ℕ) → head b ≢ 91 → head b ≢ 123 → value d b ≡ scalar_at b
unfolding value by_bracket
value_scalar zero b h g = ap₂ (λ p q. by_bracket p q None None (scalar_at b)) (ne_eqb (head b) 91 h) (ne_eqb (head b) 123 g)
value_scalar (suc d) b h g =
    ap₂ (λ p q. by_bracket p q (parse_map list_of (elements_at 93 (value d) (drop 1 b))) (parse_map object_of (elements_at 125 (pair_at (value d)) (drop 1 b))) (scalar_at b)) (ne_eqb (head b) 91 h) (ne_eqb (head b) 123 g)

-- ---- a pair

pub pair_named : (p : Parse Json) (b s : List ℕ) (k r : List ℕ) → name_at b ≡ Some (k, r) → s ≡ skip r → pair_at p b ≡ parse_map (λ j. (k, j)) (p s)
pair_named p b s k r named at = ap (option_and_then (λ q. parse_map (λ j. (q.0, j)) (p (skip q.1)))) named ∙ ap (λ z. parse_map (λ j. (k, j)) (p z)) (sym at)

pub pair_unnamed : (p : Parse Json) (b : List ℕ) → name_at b ≡ None → pair_at p b ≡ None
pair_unnamed p b none = ap (option_and_then (λ q. parse_map (λ j. (q.0, j)) (p (skip q.1)))) none

-- ---- faults

pub carry : {Y W : Type 0} (m : ℕ) (p : ℕ → Option Y) (q : ℕ → Option W) → ((d : ℕ) → m ≤ d → p d ≡ None → q d ≡ None) → (e : JsonFault) → Fails m p e → Fails m q e
carry m p q f Text g = λ d h. f d h (g d h)
carry m p q f Deep g = f m (omega arith) g
carry m p q f OutOfMemory g = tt

up : {W : Type 0} (m : ℕ) (q : ℕ → Option W) → ((d : ℕ) → m ≤ d → q (suc d) ≡ None) → (d : ℕ) → suc m ≤ d → q d ≡ None
up m q f zero h = absurd (omega arith)
up m q f (suc d) h = f d (omega arith)

pub carry_up : {Y W : Type 0} (m n : ℕ) (p : ℕ → Option Y) (q : ℕ → Option W) → suc m ≡ n → ((d : ℕ) → m ≤ d → p d ≡ None → q (suc d) ≡ None) → (e : JsonFault) → Fails m p e → Fails n q e
carry_up m n p q next f Text g = λ d h. up m q (λ k le. f k le (g k le)) d (omega (arith, next))
carry_up m n p q next f Deep g = ap q (sym next) ∙ f m (omega arith) g
carry_up m n p q next f OutOfMemory g = tt

-- of what no depth bears on
pub carry_miss : {Y W : Type 0} (m : ℕ) (o : Option Y) (q : ℕ → Option W) → ((d : ℕ) → o ≡ None → q d ≡ None) → (e : JsonFault) → Misses o e → Fails m q e
carry_miss m o q f Text g = λ d h. f d g
carry_miss m o q f Deep g = absurd g
carry_miss m o q f OutOfMemory g = tt

pub up_to : {Y : Type 0} (m : ℕ) (q : ℕ → Option Y) (y : Y) → ((d : ℕ) → m ≤ d → q (suc d) ≡ Some y) → (d : ℕ) → suc m ≤ d → q d ≡ Some y
up_to m q y f zero h = absurd (omega arith)
up_to m q y f (suc d) h = f d (omega arith)

-- a list of one depth makes a value of the next
pub list_is : (m : ℕ) (b rest out : List ℕ) (js : List Json) → head b ≡ 91 → rest ≡ drop 1 b → ((d : ℕ) → m ≤ d → elements_at 93 (value d) rest ≡ Some (js, out)) → (d : ℕ) → suc m ≤ d → value d b ≡ Some (list_of js, out)
list_is m b rest out js h left f = up_to m (λ d. value d b) (list_of js, out) (λ d le. value_list d b rest h left ∙ ap (parse_map list_of) (f d le))

pub object_is : (m : ℕ) (b rest out : List ℕ) (ps : List (List ℕ × Json)) → head b ≡ 123 → rest ≡ drop 1 b → ((d : ℕ) → m ≤ d → elements_at 125 (pair_at (value d)) rest ≡ Some (ps, out)) → (d : ℕ) → suc m ≤ d → value d b ≡ Some (object_of ps, out)
object_is m b rest out ps h left f = up_to m (λ d. value d b) (object_of ps, out) (λ d le. value_object d b rest h left ∙ ap (parse_map object_of) (f d le))

pub no_list : (b rest : List ℕ) → head b ≡ 91 → rest ≡ drop 1 b → (d : ℕ) → elements_at 93 (value d) rest ≡ None → value (suc d) b ≡ None
no_list b rest h left d none = value_list d b rest h left ∙ ap (parse_map list_of) none

pub no_object : (b rest : List ℕ) → head b ≡ 123 → rest ≡ drop 1 b → (d : ℕ) → elements_at 125 (pair_at (value d)) rest ≡ None → value (suc d) b ≡ None
no_object b rest h left d none = value_object d b rest h left ∙ ap (parse_map object_of) none

pub scalar_is : {X : Type 0} (v : X → Json × List ℕ) (m : ℕ) (b : List ℕ) (r : Result X JsonFault) → head b ≢ 91 → head b ≢ 123 → Finds v (scalar_at b) r → Gives v m (λ d. value d b) r
scalar_is v m b (Ok x) h g f = λ d le. value_scalar d b h g ∙ f
scalar_is v m b (Err e) h g f = carry_miss m (scalar_at b) (λ d. value d b) (λ d none. value_scalar d b h g ∙ none) e f
