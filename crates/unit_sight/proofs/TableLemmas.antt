-- Tables of truth values: their size, their values, and when two are the same.
use Rattle.std.proofs.Common.{◌≡◌, ℕ, zero, suc, ◌<◌, Bool, false, [], ◌∷◌, ◌++◌, length, get_or, map, refl, sym, ap, ◌∙◌, arith, inl, inr, length-append}
use Rattle.std.proofs.Math.Seq.{get_or-append_seam}
use Rattle.std.proofs.lemmas.Bool.{cases_lt}
use Rattle.std.proofs.lemmas.List.{get_or_append_left, get_or-map, length-map, map-append}
use Rattle.unit_sight.specs.Tables.{joins, places, table_of}

pub length_places : (n : ℕ) → length (places n) ≡ n
length_places zero = refl
length_places (suc n) = length-append (places n) (n ∷ []) ∙ (let before = length_places n in omega arith)

pub get_or_places : (n i d : ℕ) → i < n → get_or (places n) i d ≡ i
get_or_places zero i d low = absurd (omega arith)
get_or_places (suc n) i d low =
    let size = length_places n in
    elim (cases_lt i n) [
      | inl below ↦ get_or_append_left (places n) (n ∷ []) d i (omega arith) ∙ get_or_places n i d below
      | inr above ↦
          (let last : i ≡ length (places n) = omega arith in
          ap (λ k. get_or (places n ++ n ∷ []) k d) last ∙ (get_or-append_seam (places n) n [] d ∙ (omega arith)))
    ]

pub get_or_row : {X : Type 0} (f : ℕ → X) (n i : ℕ) (d : X) → i < n → get_or (map f (places n)) i d ≡ f i
get_or_row f n i d low =
    let size = length_places n in
    get_or-map f (places n) i 0 d (omega arith) ∙ ap f (get_or_places n i 0 low)

pub row_same : {X : Type 0} (f g : ℕ → X) (n : ℕ) → ((i : ℕ) → i < n → f i ≡ g i) → map f (places n) ≡ map g (places n)
row_same f g zero same = refl
row_same f g (suc n) same =
    map-append f (places n) (n ∷ [])
    ∙ (ap (λ xs. xs ++ f n ∷ []) (row_same f g n (λ i low. same i (omega arith)))
    ∙ (ap (λ x. map g (places n) ++ x ∷ []) (same n (omega arith))
    ∙ sym (map-append g (places n) (n ∷ []))))

pub length_table : (n : ℕ) (test : ℕ → ℕ → Bool) → length (table_of n test) ≡ n
length_table n test = length-map (places n) (λ i. map (test i) (places n)) ∙ length_places n

pub joins_table : (n : ℕ) (test : ℕ → ℕ → Bool) (i j : ℕ) → i < n → j < n → joins (table_of n test) i j ≡ test i j
joins_table n test i j row column =
    ap (λ values. get_or values j false) (get_or_row (λ a. map (test a) (places n)) n i [] row)
    ∙ get_or_row (test i) n j false column

pub table_same : (n : ℕ) (a b : ℕ → ℕ → Bool) → ((i j : ℕ) → i < n → j < n → a i j ≡ b i j) → table_of n a ≡ table_of n b
table_same n a b same = row_same (λ i. map (a i) (places n)) (λ i. map (b i) (places n)) n (λ i row. row_same (a i) (b i) n (λ j column. same i j row column))
