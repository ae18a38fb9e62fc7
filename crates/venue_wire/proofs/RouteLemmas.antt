-- What a router finds whose patterns are bytes, with a parameter at most at their end.
use Rattle.std.proofs.Common.{◌≡◌, ℕ, zero, suc, ◌-◌, ◌<◌, ◌⊎◌, inl, inr, Bool, true, false, ◌==◌, cond, List, [], ◌∷◌, ◌++◌, length, Option, Some, None, refl, sym, ap, subst, ◌∙◌, arith}
use Rattle.std.specs.Prelude.{if◌then◌else◌}
use Rattle.std.proofs.lemmas.Bool.Decides.{nat_tests}
use Rattle.matchit.specs.Rows.{RowsOf, param_token, catch_all_token}
use Rattle.matchit.specs.Seek.{segment, has_slash, own, step, longest_from, param_step, seek}

-- the path fits the pattern
abbrev pub Fits : List ℕ → List ℕ → Type 0
Fits [] [] = Unit {0}
Fits [] (b ∷ path) = ⊥
Fits (x ∷ pattern) [] = ⊥
Fits (x ∷ pattern) (b ∷ path) =
    ((x ≡ b) × Fits pattern path) ⊎ ((x ≡ param_token) × (pattern ≡ []) × (has_slash (b ∷ path) ≡ false))

-- a row of this key has a pattern that the path fits
abbrev pub HasFit : {K : Type 0} → RowsOf K → List ℕ → K → Type 0
HasFit [] path key = ⊥
HasFit ((pattern, k) ∷ rows) path key = (Fits pattern path × (k ≡ key)) ⊎ HasFit rows path key

-- the pattern has no catch-all, and a parameter only at its end
abbrev pub IsSimple : List ℕ → Type 0
IsSimple [] = Unit {0}
IsSimple (x ∷ []) = (x == catch_all_token) ≡ false
IsSimple (x ∷ y ∷ pattern) = ((x == catch_all_token) ≡ false) × ((x == param_token) ≡ false) × IsSimple (y ∷ pattern)

abbrev pub AreSimple : {K : Type 0} → RowsOf K → Type 0
AreSimple [] = Unit {0}
AreSimple ((pattern, k) ∷ rows) = IsSimple pattern × AreSimple rows

-- the patterns are used up
abbrev pub AreDone : {K : Type 0} → RowsOf K → Type 0
AreDone [] = Unit {0}
AreDone (([], k) ∷ rows) = AreDone rows
AreDone ((x ∷ pattern, k) ∷ rows) = ⊥

equal_of : (x b : ℕ) → (x == b) ≡ true → x ≡ b
equal_of x b is = grind (arith, nat_tests)

simple_tail : (x : ℕ) (pattern : List ℕ) → IsSimple (x ∷ pattern) → IsSimple pattern
simple_tail x [] s = tt
simple_tail x (y ∷ pattern) s = s.2

no_catch : (x : ℕ) (pattern : List ℕ) → IsSimple (x ∷ pattern) → (x == catch_all_token) ≡ false
no_catch x [] s = s
no_catch x (y ∷ pattern) s = s.0

param_last : (x : ℕ) (pattern : List ℕ) → IsSimple (x ∷ pattern) → (x == param_token) ≡ true → pattern ≡ []
param_last x [] s is = refl
param_last x (y ∷ pattern) s is = absurd (cc (is, s.1))

step_simple : {K : Type 0} (b : ℕ) (rows : RowsOf K) → AreSimple rows → AreSimple (step b rows)
step_simple b [] s = tt
step_simple b (([], k) ∷ rows) s = step_simple b rows s.1
step_simple {K} b ((x ∷ pattern, k) ∷ rows) s = by_test (x == b) refl (step_simple b rows s.1)
  where
    by_test : (test : Bool) → (x == b) ≡ test → AreSimple (step b rows) → AreSimple (step b ((x ∷ pattern, k) ∷ rows))
    by_test true is later = rw is (simple_tail x pattern s.0, later)
    by_test false is later = rw is later

-- no row goes on with a catch-all
no_catch_step : {K : Type 0} (rows : RowsOf K) → AreSimple rows → step catch_all_token rows ≡ []
no_catch_step [] s = refl
no_catch_step (([], k) ∷ rows) s = no_catch_step rows s.1
no_catch_step ((x ∷ pattern, k) ∷ rows) s = rw (no_catch x pattern s.0) (no_catch_step rows s.1)

-- rows that go on with a parameter are done behind it
param_done : {K : Type 0} (rows : RowsOf K) → AreSimple rows → AreDone (step param_token rows)
param_done [] s = tt
param_done (([], k) ∷ rows) s = param_done rows s.1
param_done {K} ((x ∷ pattern, k) ∷ rows) s = by_test (x == param_token) refl (param_done rows s.1)
  where
    by_test : (test : Bool) → (x == param_token) ≡ test → AreDone (step param_token rows) → AreDone (step param_token ((x ∷ pattern, k) ∷ rows))
    by_test true is later =
        rw is (subst (λ (p : List ℕ). AreDone ((p, k) ∷ step param_token rows)) (sym (param_last x pattern s.0 is)) later)
    by_test false is later = rw is later

-- ---- at the end of the path

own_fits : {K : Type 0} (rows : RowsOf K) (key : K) → own rows ≡ Some key → HasFit rows [] key
own_fits [] key is = absurd (cc)
own_fits (([], k) ∷ rows) key is = inl (tt, (cc))
own_fits ((x ∷ pattern, k) ∷ rows) key is = inr (own_fits rows key is)

-- ---- behind a byte

step_fits : {K : Type 0} (b : ℕ) (rows : RowsOf K) (path : List ℕ) (key : K) → HasFit (step b rows) path key → HasFit rows (b ∷ path) key
step_fits b [] path key fit = fit
step_fits b (([], k) ∷ rows) path key fit = inr (step_fits b rows path key fit)
step_fits {K} b ((x ∷ pattern, k) ∷ rows) path key fit = by_test (x == b) refl (step_fits b rows path key) fit
  where
    by_test : (test : Bool) → (x == b) ≡ test → (HasFit (step b rows) path key → HasFit rows (b ∷ path) key)
        → HasFit (cond (x == b) ((pattern, k) ∷ step b rows) (step b rows)) path key → HasFit ((x ∷ pattern, k) ∷ rows) (b ∷ path) key
    by_test true is later fit = elim (rw is at fit) [
      | inl one ↦ inl (inl (equal_of x b is, one.0), one.1)
      | inr more ↦ inr (later more)
    ]
    by_test false is later fit = inr (later (rw is at fit))

-- ---- behind a parameter

done_longest : {K : Type 0} (seg : List ℕ) (rows : RowsOf K) → AreDone rows → longest_from seg [] rows ≡ []
done_longest seg [] d = refl
done_longest seg (([], k) ∷ rows) d = done_longest seg rows d
done_longest seg ((x ∷ pattern, k) ∷ rows) d = absurd d

none_seek : {K : Type 0} (n : ℕ) (path : List ℕ) → seek {K = K} n [] path ≡ None
unfolding seek param_step
none_seek n [] = refl
none_seek {K} (suc n) (b ∷ path) = none_seek {K = K} n path
none_seek {K} zero (b ∷ path) = by_test (has_slash (b ∷ path)) refl (λ (m : ℕ). none_seek {K = K} m path)
  where
    by_test : (test : Bool) → has_slash (b ∷ path) ≡ test → ((m : ℕ) → seek {K = K} m [] path ≡ None) → seek {K = K} 0 [] (b ∷ path) ≡ None
    by_test true is none = rw (is, none 0) refl
    by_test false is none = rw (is, none 0, none (suc (length path) - 1)) refl

skip_all : {K : Type 0} (rows : RowsOf K) (path : List ℕ) → seek (length path) rows path ≡ own rows
unfolding seek
skip_all rows [] = refl
skip_all rows (b ∷ path) = skip_all rows path

-- where a walk goes on that has taken a parameter
goes : {K : Type 0} → ℕ × RowsOf K → List ℕ → Option K
goes {K} r path = seek (r.0 - 1) r.1 path

param_goes : {K : Type 0} (rows : RowsOf K) (b : ℕ) (path : List ℕ) → AreDone rows
    → goes (param_step rows (b ∷ path)) path ≡ cond (has_slash (b ∷ path)) None (own rows)
unfolding param_step goes
param_goes {K} rows b path d = rw (done_longest (segment (b ∷ path)) rows d) (by_test (has_slash (b ∷ path)) refl)
  where
    by_test : (test : Bool) → has_slash (b ∷ path) ≡ test
        → goes (cond {A = ℕ × RowsOf K} (has_slash (b ∷ path)) (0, []) (length (b ∷ path), rows)) path ≡ cond (has_slash (b ∷ path)) None (own rows)
    by_test true is = rw is (none_seek 0 path)
    by_test false is = rw is (ap (λ (n : ℕ). seek n rows path) (omega arith) ∙ skip_all rows path)

-- ---- the whole walk

-- the rest of the path is a parameter's
done_fits : {K : Type 0} (rows : RowsOf K) (b : ℕ) (path : List ℕ) (key : K) → AreSimple rows → has_slash (b ∷ path) ≡ false
    → own (step param_token rows) ≡ Some key → HasFit rows (b ∷ path) key
done_fits [] b path key s plain is = absurd (cc)
done_fits (([], k) ∷ rows) b path key s plain is = inr (done_fits rows b path key s.1 plain is)
done_fits {K} ((x ∷ pattern, k) ∷ rows) b path key s plain is =
    by_test (x == param_token) refl (done_fits rows b path key s.1 plain) is
  where
    by_test : (test : Bool) → (x == param_token) ≡ test → (own (step param_token rows) ≡ Some key → HasFit rows (b ∷ path) key)
        → own (cond (x == param_token) ((pattern, k) ∷ step param_token rows) (step param_token rows)) ≡ Some key
        → HasFit ((x ∷ pattern, k) ∷ rows) (b ∷ path) key
    by_test true test later is =
        let last = param_last x pattern s.0 test in
        let own_is : own ((pattern, k) ∷ step param_token rows) ≡ Some key = rw test at is in
        let here : Some k ≡ Some key = subst (λ (p : List ℕ). own ((p, k) ∷ step param_token rows) ≡ Some key) last own_is in
        inl (inr (equal_of x param_token test, last, plain), (cc))
    by_test false test later is = inr (later (rw test at is))

-- a route that is found has a pattern that the path fits
pub seek_fits : {K : Type 0} (rows : RowsOf K) (path : List ℕ) (key : K) → AreSimple rows → seek 0 rows path ≡ Some key → HasFit rows path key
unfolding seek goes
seek_fits rows [] key s is = own_fits rows key is
seek_fits {K} rows (b ∷ path) key s is =
    by_byte (seek 0 (step b rows) path) refl (goes (param_step (step param_token rows) (b ∷ path)) path) refl (seek_fits (step b rows) path key (step_simple b rows s))
  where
    by_slash : (test : Bool) → has_slash (b ∷ path) ≡ test
        → cond (has_slash (b ∷ path)) None (own (step param_token rows)) ≡ Some key → HasFit rows (b ∷ path) key
    by_slash true slash is =
        let no : None ≡ Some key = rw slash at is in absurd (cc)
    by_slash false slash is = done_fits rows b path key s slash (rw slash at is)

    by_byte : (found : Option K) → seek 0 (step b rows) path ≡ found
        → (taken : Option K) → goes (param_step (step param_token rows) (b ∷ path)) path ≡ taken
        → (seek 0 (step b rows) path ≡ Some key → HasFit (step b rows) path key)
        → HasFit rows (b ∷ path) key
    by_byte (Some k) e taken f later =
        let same : Some k ≡ Some key = rw e at is in
        step_fits b rows path key (later (e ∙ same))
    by_byte None e (Some k) f later =
        let same : Some k ≡ Some key = rw (e, f) at is in
        by_slash (has_slash (b ∷ path)) refl (sym (param_goes (step param_token rows) b path (param_done rows s)) ∙ f ∙ same)
    by_byte None e None f later =
        let same : own (step catch_all_token rows) ≡ Some key = rw (e, f) at is in
        let no : None ≡ Some key = ap own (sym (no_catch_step rows s)) ∙ same in
        absurd (cc)

-- the route of a parameter alone
abbrev alone : {K : Type 0} → K → RowsOf K
alone key = (param_token ∷ [], key) ∷ []

-- it takes any path without a slash, but for the empty one
pub param_found : {K : Type 0} (key : K) (b : ℕ) (path : List ℕ) → has_slash (b ∷ path) ≡ false → seek 0 (alone key) (b ∷ path) ≡ Some key
unfolding seek goes
param_found {K} key b path plain =
    by_byte (seek 0 (step b (alone key)) path) refl (param_goes (step param_token (alone key)) b path tt ∙ rw plain refl)
  where
    by_byte : (found : Option K) → seek 0 (step b (alone key)) path ≡ found
        → goes (param_step (step param_token (alone key)) (b ∷ path)) path ≡ Some key → seek 0 (alone key) (b ∷ path) ≡ Some key
    by_byte None e taken = rw (e, taken) refl
    by_byte (Some k) e taken =
        elim (step_fits b (alone key) path k (seek_fits (step b (alone key)) path k (step_simple b (alone key) (refl, tt)) e)) [
          | inl x ↦ rw e (ap Some (sym x.1))
          | inr none ↦ absurd none
        ]

-- the rows that go on with these bytes
abbrev pub steps : {K : Type 0} → List ℕ → RowsOf K → RowsOf K
steps [] rows = rows
steps (b ∷ front) rows = steps front (step b rows)

-- what they find behind them is found
pub steps_found : {K : Type 0} (front : List ℕ) (rows : RowsOf K) (path : List ℕ) (key : K)
    → seek 0 (steps front rows) path ≡ Some key → seek 0 rows (front ++ path) ≡ Some key
unfolding seek
steps_found [] rows path key is = is
steps_found (b ∷ front) rows path key is = rw (steps_found front (step b rows) path key is) refl

-- ---- patterns of bytes

-- the bytes are no parameter
abbrev pub is_plain : List ℕ → Bool
is_plain [] = true
is_plain (x ∷ pattern) = if x == param_token then false else is_plain pattern

param_not_plain : (x : ℕ) (pattern : List ℕ) → x ≡ param_token → is_plain (x ∷ pattern) ≡ true → ⊥
param_not_plain x pattern is plain =
    let no : false ≡ true = subst (λ (v : ℕ). is_plain (v ∷ pattern) ≡ true) is plain in cc

plain_tail : (x : ℕ) (pattern : List ℕ) → is_plain (x ∷ pattern) ≡ true → is_plain pattern ≡ true
plain_tail x pattern plain = by_test (x == param_token) refl
  where
    by_test : (test : Bool) → (x == param_token) ≡ test → is_plain pattern ≡ true
    by_test true is = let no : false ≡ true = rw is at plain in absurd (cc)
    by_test false is = rw is at plain

-- a path that fits bytes is them
pub fits_plain : (pattern path : List ℕ) → is_plain pattern ≡ true → Fits pattern path → path ≡ pattern
fits_plain [] [] plain fit = refl
fits_plain [] (b ∷ path) plain fit = absurd fit
fits_plain (x ∷ pattern) [] plain fit = absurd fit
fits_plain (x ∷ pattern) (b ∷ path) plain (inl fit) =
    let rest : path ≡ pattern = fits_plain pattern path (plain_tail x pattern plain) fit.1 in
    ap (λ (c : ℕ). c ∷ path) (sym fit.0) ∙ ap (λ (p : List ℕ). x ∷ p) rest
fits_plain (x ∷ pattern) (b ∷ path) plain (inr fit) = absurd (param_not_plain x pattern fit.0 plain)

-- a path behind whose front a byte or more stand, without a slash
pub record IsBehind (front path : List ℕ) : Type 0 where
  pub id : List ℕ
  pub text : path ≡ front ++ id
  pub some : 0 < length id
  pub plain : has_slash id ≡ false

-- a path that fits bytes and a parameter is them and what the parameter takes
pub fits_param : (front path : List ℕ) → is_plain front ≡ true → Fits (front ++ param_token ∷ []) path → IsBehind front path
fits_param [] [] plain fit = absurd fit
fits_param [] (b ∷ []) plain (inl fit) = record {
  id = b ∷ [];
  text = refl;
  some = omega arith;
  plain = subst (λ (v : ℕ). has_slash (v ∷ []) ≡ false) fit.0 refl;
}
fits_param [] (b ∷ c ∷ path) plain (inl fit) = absurd fit.1
fits_param [] (b ∷ path) plain (inr fit) = record { id = b ∷ path; text = refl; some = omega arith; plain = fit.2 }
fits_param (x ∷ front) [] plain fit = absurd fit
fits_param (x ∷ front) (b ∷ path) plain (inl fit) =
    let rest = fits_param front path (plain_tail x front plain) fit.1 in
    record {
      id = rest.id;
      text = ap (λ (c : ℕ). c ∷ path) (sym fit.0) ∙ ap (λ (p : List ℕ). x ∷ p) rest.text;
      some = rest.some;
      plain = rest.plain;
    }
fits_param (x ∷ front) (b ∷ path) plain (inr fit) = absurd (param_not_plain x front fit.0 plain)

-- ---- simple patterns, by a test

abbrev is_simple : List ℕ → Bool
is_simple [] = true
is_simple (x ∷ []) = if x == catch_all_token then false else true
is_simple (x ∷ y ∷ pattern) =
    if x == catch_all_token then false else if x == param_token then false else is_simple (y ∷ pattern)

abbrev pub are_simple : {K : Type 0} → RowsOf K → Bool
are_simple [] = true
are_simple ((pattern, k) ∷ rows) = if is_simple pattern then are_simple rows else false

simple_of : (pattern : List ℕ) → is_simple pattern ≡ true → IsSimple pattern
simple_of [] is = tt
simple_of (x ∷ []) is = by_test (x == catch_all_token) refl
  where
    by_test : (test : Bool) → (x == catch_all_token) ≡ test → (x == catch_all_token) ≡ false
    by_test true e = let no : false ≡ true = rw e at is in absurd (cc)
    by_test false e = e
simple_of (x ∷ y ∷ pattern) is = by_test (x == catch_all_token) refl (x == param_token) refl (simple_of (y ∷ pattern))
  where
    by_test : (catch : Bool) → (x == catch_all_token) ≡ catch → (param : Bool) → (x == param_token) ≡ param
        → (is_simple (y ∷ pattern) ≡ true → IsSimple (y ∷ pattern)) → IsSimple (x ∷ y ∷ pattern)
    by_test true e param f later = let no : false ≡ true = rw e at is in absurd (cc)
    by_test false e true f later = let no : false ≡ true = rw (e, f) at is in absurd (cc)
    by_test false e false f later = (e, f, later (rw (e, f) at is))

pub are_simple_of : {K : Type 0} (rows : RowsOf K) → are_simple rows ≡ true → AreSimple rows
are_simple_of [] is = tt
are_simple_of {K} ((pattern, k) ∷ rows) is = by_test (is_simple pattern) refl (are_simple_of rows)
  where
    by_test : (test : Bool) → is_simple pattern ≡ test → (are_simple rows ≡ true → AreSimple rows) → AreSimple ((pattern, k) ∷ rows)
    by_test true e later = (simple_of pattern e, later (rw e at is))
    by_test false e later = let no : false ≡ true = rw e at is in absurd (cc)
