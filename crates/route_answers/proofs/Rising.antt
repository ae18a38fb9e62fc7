-- Numbers that rise, and where they stand.
use Rattle.std.proofs.Common.{◌≡◌, ◌≢◌, ℕ, zero, suc, ◌<◌, ◌≤◌, Bool, true, false, not, cond, List, [], ◌∷◌, length, take, filter, Some, None, refl, sym, ap, ◌∙◌, subst, ⊎_elim, arith, eq-eqb}
use Rattle.std.specs.Prelude.{AllPairs, Contains, slice_get, nat_lt, ◌&&◌}
use Rattle.std.specs.List.{AllByRecursion}
use Rattle.std.specs.List.Sorted.{IsStrictlyIncreasing}
use Rattle.std.proofs.lemmas.Bool.{ne_eqb, cases_lt, lt-ltb, le-ltb}
use Rattle.std.proofs.lemmas.List.Elements.{recursion_from_All}
use Rattle.std.proofs.lemmas.List.Kept.{AllPairs-from_increasing}
use Rattle.std.proofs.lemmas.Option.{same_Some, slice_get_read}
use Rattle.route_answers.specs.Passing.{other_than}
use Rattle.route_answers.proofs.Everywhere.{of_item}

abbrev pub Rises : List ℕ → Type 0
Rises [] = Unit {0}
Rises (x ∷ xs) = AllByRecursion (λ (y : ℕ). x < y) xs × Rises xs

rises : (xs : List ℕ) → AllPairs (λ (x y : ℕ). x < y) xs → Rises xs
rises [] h = tt
rises (x ∷ xs) h = (
  recursion_from_All (λ (y : ℕ). x < y) xs (λ k d below. h 0 (suc k) d (omega arith) (omega (arith, below))),
  rises xs (λ i j d below within. h (suc i) (suc j) d (omega (arith, below)) (omega (arith, within))),
)

pub rises_from : (xs : List ℕ) → IsStrictlyIncreasing xs → Rises xs
rises_from xs rise = rises xs (AllPairs-from_increasing xs rise)

pub less_at : (xs : List ℕ) (i j a b : ℕ) → Rises xs → slice_get xs i ≡ Some a → slice_get xs j ≡ Some b → i < j → a < b
less_at [] i j a b up here there below = absurd (let no_item : None ≡ Some a = here in cc)
less_at (x ∷ xs) zero zero a b up here there below = absurd (omega (arith, below))
less_at (x ∷ xs) (suc i) zero a b up here there below = absurd (omega (arith, below))
less_at (x ∷ xs) zero (suc j) a b up here there below =
    let same : x ≡ a = same_Some x a here in
    let more : x < b = of_item (λ (y : ℕ). x < y) xs j b up.0 there in
    omega (arith, same, more)
less_at (x ∷ xs) (suc i) (suc j) a b up here there below = less_at xs i j a b up.1 here there (omega (arith, below))

pub one_place : (xs : List ℕ) (i j a : ℕ) → Rises xs → slice_get xs i ≡ Some a → slice_get xs j ≡ Some a → i ≤ j
one_place xs i j a up here there =
    ⊎_elim (λ (below : j < i). absurd (let no : a < a = less_at xs j i a a up there here below in omega (arith, no))) (λ (not : i ≤ j). not) (cases_lt j i)

pub lesser_before : (xs : List ℕ) (i a : ℕ) → Rises xs → slice_get xs i ≡ Some a → AllByRecursion (λ (y : ℕ). y < a) (take i xs)
lesser_before [] i a up at = absurd (let no_item : None ≡ Some a = at in cc)
lesser_before (x ∷ xs) zero a up at = tt
lesser_before (x ∷ xs) (suc i) a up at = (of_item (λ (y : ℕ). x < y) xs i a up.0 at, lesser_before xs i a up.1 at)

-- ---- all but one of numbers that rise

all_others : (a : ℕ) (xs : List ℕ) → AllByRecursion (λ (y : ℕ). a < y) xs → filter (other_than a) xs ≡ xs
all_others a [] up = refl
all_others a (x ∷ xs) up =
    let less = up.0 in
    ap (λ (b : Bool). cond (not b) (x ∷ filter (other_than a) xs) (filter (other_than a) xs)) (ne_eqb a x (λ e. omega (arith, less, e)))
    ∙ ap (λ (rest : List ℕ). x ∷ rest) (all_others a xs up.1)

is_other : (a x : ℕ) (xs : List ℕ) → a ≢ x → filter (other_than a) (x ∷ xs) ≡ x ∷ filter (other_than a) xs
is_other a x xs differ = ap (λ (b : Bool). cond (not b) (x ∷ filter (other_than a) xs) (filter (other_than a) xs)) (ne_eqb a x differ)

is_same : (a x : ℕ) (xs : List ℕ) → a ≡ x → filter (other_than a) (x ∷ xs) ≡ filter (other_than a) xs
is_same a x xs same = ap (λ (b : Bool). cond (not b) (x ∷ filter (other_than a) xs) (filter (other_than a) xs)) (eq-eqb a x same)

-- one before it keeps its place
pub other_before : (xs : List ℕ) (i j a b : ℕ) → Rises xs → slice_get xs i ≡ Some a → slice_get xs j ≡ Some b → j < i → slice_get (filter (other_than a) xs) j ≡ Some b
other_before [] i j a b up here there below = absurd (let no_item : None ≡ Some a = here in cc)
other_before (x ∷ xs) zero j a b up here there below = absurd (omega (arith, below))
other_before (x ∷ xs) (suc i) zero a b up here there below =
    let more : x < a = of_item (λ (y : ℕ). x < y) xs i a up.0 here in
    ap (λ (ys : List ℕ). slice_get ys 0) (is_other a x xs (λ e. omega (arith, more, e))) ∙ there
other_before (x ∷ xs) (suc i) (suc j) a b up here there below =
    let more : x < a = of_item (λ (y : ℕ). x < y) xs i a up.0 here in
    ap (λ (ys : List ℕ). slice_get ys (suc j)) (is_other a x xs (λ e. omega (arith, more, e)))
    ∙ other_before xs i j a b up.1 here there (omega (arith, below))

-- one behind it moves one up
pub other_behind : (xs : List ℕ) (i j a b : ℕ) → Rises xs → slice_get xs i ≡ Some a → slice_get xs (suc j) ≡ Some b → i ≤ j → slice_get (filter (other_than a) xs) j ≡ Some b
other_behind [] i j a b up here there below = absurd (let no_item : None ≡ Some a = here in cc)
other_behind (x ∷ xs) zero j a b up here there below =
    let same : x ≡ a = same_Some x a here in
    ap (λ (ys : List ℕ). slice_get ys j) (is_same a x xs (sym same) ∙ all_others a xs (subst (λ (v : ℕ). AllByRecursion (λ (y : ℕ). v < y) xs) same up.0)) ∙ there
other_behind (x ∷ xs) (suc i) zero a b up here there below = absurd (omega (arith, below))
other_behind (x ∷ xs) (suc i) (suc j) a b up here there below =
    let more : x < a = of_item (λ (y : ℕ). x < y) xs i a up.0 here in
    ap (λ (ys : List ℕ). slice_get ys (suc j)) (is_other a x xs (λ e. omega (arith, more, e)))
    ∙ other_behind xs i j a b up.1 here there (omega (arith, below))

-- ---- among those that pass

more_than : (n x : ℕ) (xs : List ℕ) → n ≤ x → AllByRecursion (λ (y : ℕ). x < y) xs → AllByRecursion (λ (y : ℕ). n ≤ y) xs
more_than n x [] from up = tt
more_than n x (y ∷ ys) from up = (let less = up.0 in omega (arith, from, less), more_than n x ys from up.1)

none_below : (ok : ℕ → Bool) (n : ℕ) (xs : List ℕ) → AllByRecursion (λ (y : ℕ). n ≤ y) xs → filter (λ (m : ℕ). nat_lt m n && ok m) xs ≡ []
none_below ok n [] up = refl
none_below ok n (x ∷ xs) up =
    ap (λ (b : Bool). cond (b && ok x) (x ∷ filter (λ (m : ℕ). nat_lt m n && ok m) xs) (filter (λ (m : ℕ). nat_lt m n && ok m) xs)) (le-ltb x n up.0)
    ∙ none_below ok n xs up.1

-- as many pass and are less as stand before it
pub passing_below : (ok : ℕ → Bool) (xs : List ℕ) (i n : ℕ) → Rises xs → slice_get xs i ≡ Some n → filter (λ (m : ℕ). nat_lt m n && ok m) xs ≡ filter ok (take i xs)
passing_below ok [] i n up at = absurd (let no_item : None ≡ Some n = at in cc)
passing_below ok (x ∷ xs) zero n up at =
    let same : x ≡ n = same_Some x n at in
    none_below ok n (x ∷ xs) (let e : n ≤ x = omega (arith, same) in e, more_than n x xs (omega (arith, same)) up.0)
passing_below ok (x ∷ xs) (suc i) n up at =
    let more : x < n = of_item (λ (y : ℕ). x < y) xs i n up.0 at in
    ap (λ (b : Bool). cond (b && ok x) (x ∷ filter (λ (m : ℕ). nat_lt m n && ok m) xs) (filter (λ (m : ℕ). nat_lt m n && ok m) xs)) (lt-ltb x n more)
    ∙ ap (λ (rest : List ℕ). cond (ok x) (x ∷ rest) rest) (passing_below ok xs i n up.1 at)

-- ---- what a test keeps

kept_step : {X : Type 0} (t : X → Bool) (y : X) (xs front : List X) (x : X) (b : Bool) → slice_get (filter t xs) (length (filter t front)) ≡ Some x
    → slice_get (cond b (y ∷ filter t xs) (filter t xs)) (length (cond b (y ∷ filter t front) (filter t front))) ≡ Some x
kept_step t y xs front x true h = h
kept_step t y xs front x false h = h

-- an item that passes stands behind those that pass before it
pub kept_at : {X : Type 0} (t : X → Bool) (xs : List X) (i : ℕ) (x : X) → slice_get xs i ≡ Some x → t x ≡ true → slice_get (filter t xs) (length (filter t (take i xs))) ≡ Some x
kept_at t [] i x at pass = absurd (let no_item : None ≡ Some x = at in cc)
kept_at {X} t (y ∷ xs) zero x at pass =
    let same : y ≡ x = same_Some y x at in
    ap (λ (b : Bool). slice_get (cond b (y ∷ filter t xs) (filter t xs)) 0) (ap t same ∙ pass) ∙ ap (λ (v : X). Some v) same
kept_at t (y ∷ xs) (suc i) x at pass = kept_step t y xs (take i xs) x (t y) (kept_at t xs i x at pass)

-- ---- a number that passes, by those that pass and are less

pub at_item : {X : Type 0} (xs : List X) (x : X) → Contains xs x → (k : ℕ) × (slice_get xs k ≡ Some x)
at_item xs x there = (there.0, slice_get_read xs (length xs) there.0 x refl there.1 (sym there.2))

pub passed_at : (ok : ℕ → Bool) (xs : List ℕ) (n : ℕ) → IsStrictlyIncreasing xs → Contains xs n → ok n ≡ true → slice_get (filter ok xs) (length (filter (λ (m : ℕ). nat_lt m n && ok m) xs)) ≡ Some n
passed_at ok xs n rise there pass =
    let at = at_item xs n there in
    ap (λ (ys : List ℕ). slice_get (filter ok xs) (length ys)) (passing_below ok xs at.0 n (rises_from xs rise) at.1) ∙ kept_at ok xs at.0 n at.1 pass
