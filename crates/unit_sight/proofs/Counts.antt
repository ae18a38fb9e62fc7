-- How many numbers pass a test, and which is the k-th of them.
use Rattle.std.proofs.Common.{◌≡◌, ℕ, zero, suc, ◌+◌, ◌-◌, ◌<◌, ◌≤◌, Bool, true, false, cond, ◌&&◌, nat_lt, List, [], ◌∷◌, ◌++◌, length, refl, sym, ap, ◌∙◌, arith, inl, inr, length-append, Some, slice_get}
use Rattle.std.specs.List.{filter}
use Rattle.std.proofs.lemmas.Bool.{cases_lt, lt-ltb, le-ltb}
use Rattle.std.proofs.lemmas.List.{append-nil}
use Rattle.std.proofs.lemmas.List.Elements.{filter-append}
use Rattle.std.proofs.Math.Bool.{and-true, and-false}
use Rattle.unit_sight.specs.Tables.{places}
use Rattle.unit_sight.specs.Words.{count_to}

length_cond : (b : Bool) (n : ℕ) → length (cond b (n ∷ []) []) ≡ cond b 1 0
length_cond true n = refl
length_cond false n = refl

-- the count one further
pub count_next : (test : ℕ → Bool) (n : ℕ) → count_to test (suc n) ≡ count_to test n + cond (test n) 1 0
count_next test n =
    ap length (filter-append test (places n) (n ∷ []))
    ∙ (length-append (filter test (places n)) (cond (test n) (n ∷ []) []) ∙ ap (λ k. count_to test n + k) (length_cond (test n) n))

pub count_more : (test : ℕ → Bool) (n : ℕ) → test n ≡ true → count_to test (suc n) ≡ count_to test n + 1
count_more test n is = count_next test n ∙ ap (λ b. count_to test n + cond b 1 0) is

pub count_same_next : (test : ℕ → Bool) (n : ℕ) → test n ≡ false → count_to test (suc n) ≡ count_to test n
count_same_next test n is = count_next test n ∙ (ap (λ b. count_to test n + cond b 1 0) is ∙ (omega arith))

-- what passes is decided by the test below n
pub filter_same : (f g : ℕ → Bool) (n : ℕ) → ((i : ℕ) → i < n → f i ≡ g i) → filter f (places n) ≡ filter g (places n)
filter_same f g zero same = refl
filter_same f g (suc n) same =
    filter-append f (places n) (n ∷ [])
    ∙ (ap (λ xs. xs ++ cond (f n) (n ∷ []) []) (filter_same f g n (λ i low. same i (omega arith)))
    ∙ (ap (λ b. filter g (places n) ++ cond b (n ∷ []) []) (same n (omega arith))
    ∙ sym (filter-append g (places n) (n ∷ []))))

pub count_same : (f g : ℕ → Bool) (n : ℕ) → ((i : ℕ) → i < n → f i ≡ g i) → count_to f n ≡ count_to g n
count_same f g n same = ap length (filter_same f g n same)

-- the count over two stretches
pub count_shift : (test : ℕ → Bool) (a k : ℕ) → count_to test (a + k) ≡ count_to test a + count_to (λ b. test (a + b)) k
count_shift test a zero = let same : a + zero ≡ a = omega arith in ap (count_to test) same ∙ (omega arith)
count_shift test a (suc k) =
    let next : a + suc k ≡ suc (a + k) = omega arith in
    let before = count_shift test a k in
    let here = count_next test (a + k) in
    let there = count_next (λ b. test (a + b)) k in
    ap (count_to test) next ∙ (omega arith)

pub count_rises : (test : ℕ → Bool) (a b : ℕ) → a ≤ b → count_to test a ≤ count_to test b
count_rises test a b low =
    let shift = count_shift test a (b - a) in
    let same : a + (b - a) ≡ b = omega arith in
    let whole : count_to test (a + (b - a)) ≡ count_to test b = ap (count_to test) same in
    omega arith

cond_few : (b : Bool) → cond b 1 0 ≤ 1
cond_few true = omega arith
cond_few false = omega arith

pub count_few : (test : ℕ → Bool) (n : ℕ) → count_to test n ≤ n
count_few test zero = omega arith
count_few test (suc n) = let before = count_few test n in let next = count_next test n in let few = cond_few (test n) in omega arith

-- where none passes the count stays
pub count_still : (test : ℕ → Bool) (a k : ℕ) → ((b : ℕ) → a ≤ b → b < a + k → test b ≡ false) → count_to test (a + k) ≡ count_to test a
count_still test a zero none = let same : a + zero ≡ a = omega arith in ap (count_to test) same
count_still test a (suc k) none =
    let next : a + suc k ≡ suc (a + k) = omega arith in
    ap (count_to test) next
    ∙ (count_same_next test (a + k) (none (a + k) (omega arith) (omega arith)) ∙ count_still test a k (λ b low high. none b low (omega arith)))

pub count_stays : (test : ℕ → Bool) (a b : ℕ) → a ≤ b → ((m : ℕ) → a ≤ m → m < b → test m ≡ false) → count_to test b ≡ count_to test a
count_stays test a b low none =
    let same : b ≡ a + (b - a) = omega arith in
    ap (count_to test) same ∙ count_still test a (b - a) (λ m above high. none m above (omega arith))

-- what passes two tests
filter_cond : (p q : ℕ → Bool) (b c : Bool) (x : ℕ) (xs : List ℕ) → q x ≡ b → p x ≡ c
    → filter p (cond (q x) (x ∷ filter q xs) (filter q xs)) ≡ cond (q x && p x) (x ∷ filter p (filter q xs)) (filter p (filter q xs))
filter_cond p q true true x xs first second = rw first (rw second refl)
filter_cond p q true false x xs first second = rw first (rw second refl)
filter_cond p q false c x xs first second = rw first refl

pub filter_twice : (p q : ℕ → Bool) (xs : List ℕ) → filter p (filter q xs) ≡ filter (λ x. q x && p x) xs
filter_twice p q [] = refl
filter_twice p q (x ∷ xs) =
    filter_cond p q (q x) (p x) x xs refl refl ∙ ap (λ ys. cond (q x && p x) (x ∷ ys) ys) (filter_twice p q xs)

-- numbers that don't pass may be left out behind
filter_still : (test : ℕ → Bool) (a k : ℕ) → ((b : ℕ) → a ≤ b → test b ≡ false) → filter test (places (a + k)) ≡ filter test (places a)
filter_still test a zero none = let same : a + zero ≡ a = omega arith in ap (λ n. filter test (places n)) same
filter_still test a (suc k) none =
    let next : a + suc k ≡ suc (a + k) = omega arith in
    ap (λ n. filter test (places n)) next
    ∙ (filter-append test (places (a + k)) ((a + k) ∷ [])
    ∙ (ap (λ b. filter test (places (a + k)) ++ cond b ((a + k) ∷ []) []) (none (a + k) (omega arith))
    ∙ (append-nil (filter test (places (a + k))) ∙ filter_still test a k none)))

-- of what passes, what is below j
pub filter_below : (test : ℕ → Bool) (n j : ℕ) → j ≤ n → filter (λ b. nat_lt b j) (filter test (places n)) ≡ filter test (places j)
filter_below test n j low =
    let same : n ≡ j + (n - j) = omega arith in
    filter_twice (λ b. nat_lt b j) test (places n)
    ∙ (ap (λ m. filter (λ b. test b && nat_lt b j) (places m)) same
    ∙ (filter_still (λ b. test b && nat_lt b j) j (n - j) (λ b behind. ap (λ t. test b && t) (le-ltb b j behind) ∙ and-false (test b))
    ∙ filter_same (λ b. test b && nat_lt b j) test j (λ b below. ap (λ t. test b && t) (lt-ltb b j below) ∙ and-true (test b))))

get_front : (xs ys : List ℕ) (k x : ℕ) → slice_get xs k ≡ Some x → slice_get (xs ++ ys) k ≡ Some x
get_front [] ys k x is = grind arith
get_front (y ∷ xs) ys zero x is = is
get_front (y ∷ xs) ys (suc k) x is = get_front xs ys k x is

get_last : (xs : List ℕ) (x : ℕ) → slice_get (xs ++ x ∷ []) (length xs) ≡ Some x
get_last [] x = refl
get_last (y ∷ xs) x = get_last xs x

-- the k-th that passes is the one with k in front of it
pub nth_here : (test : ℕ → Bool) (n j k : ℕ) → j < n → test j ≡ true → count_to test j ≡ k → slice_get (filter test (places n)) k ≡ Some j
nth_here test zero j k low is count = absurd (omega arith)
nth_here test (suc n) j k low is count = elim (cases_lt j n) [
  | inl below ↦
      ap (λ xs. slice_get xs k) (filter-append test (places n) (n ∷ []))
      ∙ get_front (filter test (places n)) (cond (test n) (n ∷ []) []) k j (nth_here test n j k below is count)
  | inr above ↦
      (let last : n ≡ j = omega arith in
      ap (λ xs. slice_get xs k) (filter-append test (places n) (n ∷ []))
      ∙ (ap (λ b. slice_get (filter test (places n) ++ cond b (n ∷ []) []) k) (ap test last ∙ is)
      ∙ (ap (slice_get (filter test (places n) ++ n ∷ [])) (sym count ∙ sym (ap (count_to test) last))
      ∙ (get_last (filter test (places n)) n ∙ ap Some last))))
]
