-- The pairs of a room, asked one after the other.
use Rattle.std.proofs.Common.{◌≡◌, ℕ, ◌+◌, ◌<◌, Bool, true, false, not, ◌&&◌, ◌||◌, ◌==◌, nat_lt, List, length, refl, sym, ap, ap₂, ◌∙◌, inl, inr, arith}
use Rattle.std.proofs.lemmas.Bool.{cases_order, lt-ltb, le-ltb, eq-eqb, ne_eqb, eqb-true, and_right, and_parts, or_from, or_cases}
use Rattle.unit_sight.specs.Tables.{joins, table_of}
use Rattle.unit_sight.specs.Finding.{is_front, asked, all_asked}
use Rattle.unit_sight.proofs.TableLemmas.{length_table, joins_table, table_same}

-- ---- truth values

pub or_true : (x : Bool) → (x || true) ≡ true
or_true true = refl
or_true false = refl

pub or_false : (x : Bool) → (x || false) ≡ x
or_false true = refl
or_false false = refl

pub and_true : (x : Bool) → (x && true) ≡ x
and_true true = refl
and_true false = refl

both_same : (x : Bool) → (x && x) ≡ x
both_same true = refl
both_same false = refl

-- where some pairs more are known to see each other
pub more_true : (x e s : Bool) → (e ≡ true → s ≡ true) → ((x || e) && s) ≡ ((x && s) || e)
more_true true true true h = refl
more_true true true false h = h refl
more_true true false true h = refl
more_true true false false h = refl
more_true false true true h = refl
more_true false true false h = h refl
more_true false false true h = refl
more_true false false false h = refl

-- and where they don't
pub more_false : (x e s : Bool) → (e ≡ true → s ≡ false) → ((x || e) && s) ≡ (x && s)
more_false true e s h = refl
more_false false true s h = h refl
more_false false false s h = refl

-- two alternatives, of each of which something is split off
pub regroup : (x e y f : Bool) → ((x || e) || (y || f)) ≡ ((x || y) || (e || f))
regroup true e y f = refl
regroup false true true f = refl
regroup false true false f = refl
regroup false false y f = refl

-- ---- numbers

pub lt_next : (a i : ℕ) → nat_lt a (i + 1) ≡ (nat_lt a i || (a == i))
lt_next a i = elim (cases_order a i) [
  | inl e ↦ lt-ltb a (i + 1) (omega arith) ∙ sym (ap₂ (λ x y. x || y) (le-ltb a i (omega arith)) (eq-eqb a i e))
  | inr (inl low) ↦ lt-ltb a (i + 1) (omega arith) ∙ sym (ap (λ x. x || (a == i)) (lt-ltb a i low))
  | inr (inr high) ↦ le-ltb a (i + 1) (omega arith) ∙ sym (ap₂ (λ x y. x || y) (le-ltb a i (omega arith)) (ne_eqb a i (λ e. omega arith)))
]

-- ---- one pair more

-- in front of the pair of i and j + 1 is that of i and j, and what is in front of it
front_parts : (w p x q v : Bool) → (x ≡ true → v ≡ true → w ≡ true) → (w && (p || (x && (q || v)))) ≡ ((w && (p || (x && q))) || (x && v))
front_parts true true true q true h = refl
front_parts true true true q false h = refl
front_parts true true false q v h = refl
front_parts true false true true v h = refl
front_parts true false true false v h = refl
front_parts true false false q v h = refl
front_parts false p true q true h = h refl refl
front_parts false p true q false h = refl
front_parts false p false q v h = refl

front_next : (i j a b : ℕ) → j < i → is_front i (j + 1) a b ≡ (is_front i j a b || ((a == i) && (b == j)))
front_next i j a b low =
    ap (λ x. nat_lt b a && (nat_lt a i || ((a == i) && x))) (lt_next b j)
    ∙ front_parts (nat_lt b a) (nat_lt a i) (a == i) (nat_lt b j) (b == j)
    (λ e f. let at_i = eqb-true a i e in let at_j = eqb-true b j f in lt-ltb b a (omega arith))

-- nothing is in front of the first pair
front_none : (a b : ℕ) → is_front 0 0 a b ≡ false
front_none a b = and_right (nat_lt b a) (nat_lt a 0 || ((a == 0) && nat_lt b 0)) (or_from (nat_lt a 0) ((a == 0) && nat_lt b 0) (le-ltb a 0 (omega arith)) (and_right (a == 0) (nat_lt b 0) (le-ltb b 0 (omega arith))))

-- the row behind that of i begins where that of i ends
front_row : (i a b : ℕ) → is_front (i + 1) 0 a b ≡ is_front i i a b
front_row i a b = elim (cases_order a i) [
  | inl e ↦
      (let here : nat_lt a (i + 1) ≡ true = lt-ltb a (i + 1) (omega arith) in
      let same : nat_lt b a ≡ nat_lt b i = ap (λ k. nat_lt b k) e in
      ap (λ x. nat_lt b a && (x || ((a == i + 1) && nat_lt b 0))) here
      ∙ and_true (nat_lt b a)
      ∙ sym (ap₂ (λ x y. nat_lt b a && (x || (y && nat_lt b i))) (le-ltb a i (omega arith)) (eq-eqb a i e) ∙ ap (λ x. nat_lt b a && x) (sym same) ∙ both_same (nat_lt b a)))
  | inr (inl low) ↦
      ap (λ x. nat_lt b a && (x || ((a == i + 1) && nat_lt b 0))) (lt-ltb a (i + 1) (omega arith))
      ∙ sym (ap (λ x. nat_lt b a && (x || ((a == i) && nat_lt b i))) (lt-ltb a i low))
  | inr (inr high) ↦
      ap₂ (λ x y. nat_lt b a && (x || ((a == i + 1) && y))) (le-ltb a (i + 1) (omega arith)) (le-ltb b 0 (omega arith))
      ∙ and_right (nat_lt b a) ((a == i + 1) && false) (and_right (a == i + 1) false refl)
      ∙ sym (ap₂ (λ x y. nat_lt b a && (x || (y && nat_lt b i))) (le-ltb a i (omega arith)) (ne_eqb a i (λ e. omega arith)) ∙ and_right (nat_lt b a) false refl)
]

-- at the end each pair is in front
front_all : (n a b : ℕ) → a < n → is_front n 0 a b ≡ nat_lt b a
front_all n a b low = ap (λ x. nat_lt b a && (x || ((a == n) && nat_lt b 0))) (lt-ltb a n low) ∙ and_true (nat_lt b a)

two_apart : (a b : ℕ) → (nat_lt b a || nat_lt a b) ≡ not (a == b)
two_apart a b = elim (cases_order a b) [
  | inl e ↦ ap₂ (λ x y. x || y) (le-ltb b a (omega arith)) (le-ltb a b (omega arith)) ∙ sym (ap not (eq-eqb a b e))
  | inr (inl low) ↦ ap₂ (λ x y. x || y) (le-ltb b a (omega arith)) (lt-ltb a b low) ∙ sym (ap not (ne_eqb a b (λ e. omega arith)))
  | inr (inr high) ↦ ap (λ x. x || nat_lt a b) (lt-ltb b a high) ∙ sym (ap not (ne_eqb a b (λ e. omega arith)))
]

-- ---- tables

-- the pair of i and j
abbrev pub is_pair : ℕ → ℕ → ℕ → ℕ → Bool
is_pair i j a b = ((a == i) && (b == j)) || ((a == j) && (b == i))

pub turned : (x y : Bool) → (x && y) ≡ (y && x)
turned true true = refl
turned true false = refl
turned false true = refl
turned false false = refl

asked_next : (sees : ℕ → ℕ → Bool) (i j a b : ℕ) → j < i → asked sees i (j + 1) a b ≡ (((is_front i j a b || is_front i j b a) || is_pair i j a b) && sees a b)
asked_next sees i j a b low =
    ap (λ x. x && sees a b)
    (ap₂ (λ x y. x || y) (front_next i j a b low) (front_next i j b a low)
    ∙ regroup (is_front i j a b) ((a == i) && (b == j)) (is_front i j b a) ((b == i) && (a == j))
    ∙ ap (λ x. (is_front i j a b || is_front i j b a) || (((a == i) && (b == j)) || x)) (turned (b == i) (a == j)))

-- who is seen sees
abbrev pub Turns : (ℕ → ℕ → Bool) → Type 0
Turns sees = (a b : ℕ) → sees a b ≡ sees b a

pair_sees : (sees : ℕ → ℕ → Bool) (i j a b : ℕ) (s : Bool) → Turns sees → sees i j ≡ s → is_pair i j a b ≡ true → sees a b ≡ s
pair_sees sees i j a b s turns is pair = elim (or_cases ((a == i) && (b == j)) ((a == j) && (b == i)) pair) [
  | inl h ↦ (let both = and_parts (a == i) (b == j) h in ap₂ sees (eqb-true a i both.0) (eqb-true b j both.1) ∙ is)
  | inr h ↦ (let both = and_parts (a == j) (b == i) h in ap₂ sees (eqb-true a j both.0) (eqb-true b i both.1) ∙ turns j i ∙ is)
]

pub pair_joined : (sees : ℕ → ℕ → Bool) (n i j : ℕ) (old new : List (List Bool)) → Turns sees → j < i → i < n → sees i j ≡ true → old ≡ table_of n (asked sees i j) → new ≡ table_of (length old) (λ a b. joins old a b || is_pair i j a b) → new ≡ table_of n (asked sees i (j + 1))
pair_joined sees n i j old new turns low high is before after =
    let size : length old ≡ n = ap (λ (t : List (List Bool)). length t) before ∙ length_table n (asked sees i j) in
    after
    ∙ ap (λ k. table_of k (λ a b. joins old a b || is_pair i j a b)) size
    ∙ table_same n (λ a b. joins old a b || is_pair i j a b) (asked sees i (j + 1))
    (λ a b row column.
    ap (λ (t : List (List Bool)). joins t a b || is_pair i j a b) before
    ∙ ap (λ x. x || is_pair i j a b) (joins_table n (asked sees i j) a b row column)
    ∙ sym (asked_next sees i j a b low ∙ more_true (is_front i j a b || is_front i j b a) (is_pair i j a b) (sees a b) (pair_sees sees i j a b true turns is)))

pub pair_left : (sees : ℕ → ℕ → Bool) (n i j : ℕ) (old : List (List Bool)) → Turns sees → j < i → sees i j ≡ false → old ≡ table_of n (asked sees i j) → old ≡ table_of n (asked sees i (j + 1))
pair_left sees n i j old turns low is before =
    before
    ∙ table_same n (asked sees i j) (asked sees i (j + 1))
    (λ a b row column. sym (asked_next sees i j a b low ∙ more_false (is_front i j a b || is_front i j b a) (is_pair i j a b) (sees a b) (pair_sees sees i j a b false turns is)))

pub row_done : (sees : ℕ → ℕ → Bool) (n i j : ℕ) (old : List (List Bool)) → j ≡ i → old ≡ table_of n (asked sees i j) → old ≡ table_of n (asked sees (i + 1) 0)
row_done sees n i j old last before =
    before
    ∙ ap (λ k. table_of n (asked sees i k)) last
    ∙ table_same n (asked sees i i) (asked sees (i + 1) 0) (λ a b row column. sym (ap₂ (λ x y. (x || y) && sees a b) (front_row i a b) (front_row i b a)))

pub none_asked : (sees : ℕ → ℕ → Bool) (n : ℕ) (old : List (List Bool)) → old ≡ table_of n (λ a b. false) → old ≡ table_of n (asked sees 0 0)
none_asked sees n old before =
    before
    ∙ table_same n (λ a b. false) (asked sees 0 0) (λ a b row column. sym (ap₂ (λ x y. (x || y) && sees a b) (front_none a b) (front_none b a)))

pub all_done : (sees : ℕ → ℕ → Bool) (n i : ℕ) (old : List (List Bool)) → i ≡ n → old ≡ table_of n (asked sees i 0) → old ≡ table_of n (all_asked sees)
all_done sees n i old last before =
    before
    ∙ ap (λ k. table_of n (asked sees k 0)) last
    ∙ table_same n (asked sees n 0) (all_asked sees)
    (λ a b row column. ap (λ x. x && sees a b) (ap₂ (λ x y. x || y) (front_all n a b row) (front_all n b a column) ∙ two_apart a b))

pub size_of : (n : ℕ) (test : ℕ → ℕ → Bool) (old new : List (List Bool)) → length old ≡ n → new ≡ table_of (length old) test → length new ≡ n
size_of n test old new size after = ap (λ (t : List (List Bool)). length t) after ∙ length_table (length old) test ∙ size

pub whole_next : (n i : ℕ) (old new : List (List Bool)) → old ≡ table_of n (asked (λ a b. true) i 0) → (old ≡ table_of (length old) (asked (λ a b. true) i 0) → new ≡ table_of (length old) (asked (λ a b. true) (i + 1) 0)) → new ≡ table_of n (asked (λ a b. true) (i + 1) 0)
whole_next n i old new before step =
    let size : length old ≡ n = ap (λ (t : List (List Bool)). length t) before ∙ length_table n (asked (λ a b. true) i 0) in
    step (before ∙ sym (ap (λ (k : ℕ). table_of k (asked (λ a b. true) i 0)) size)) ∙ ap (λ (k : ℕ). table_of k (asked (λ a b. true) (i + 1) 0)) size
