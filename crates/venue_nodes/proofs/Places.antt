-- The places at which a test holds.
use Rattle.std.proofs.Common.{◌≡◌, ℕ, ◌+◌, ◌≤◌, ◌<◌, zero, suc, List, [], ◌∷◌, ◌++◌, Some, None, Bool, true, false, cond, length, refl, sym, ap, subst, ◌∙◌, arith, inl, inr, take, get_or}
use Rattle.std.specs.Prelude.{slice_get, filter}
use Rattle.std.specs.List.{AllByRecursion, AllZip}
use Rattle.std.specs.List.Sorted.{IsStrictlySortedBy}
use Rattle.std.specs.declared.cmp.Ordering.TheVariants.{Less}
use Rattle.std.specs.Ordering.{nat_cmp}
use Rattle.std.proofs.lemmas.Option.{same_Some, slice_get_within, get_or_from_slice_get}
use Rattle.std.proofs.lemmas.Bool.{cases_lt}
use Rattle.std.proofs.lemmas.Bool.Decides.{nat_tests}
use Rattle.std.proofs.lemmas.List.{take_more, length-take-le}
use Rattle.std.proofs.lemmas.Map.Keys.{below_from_sorted}
use Rattle.venue_nodes.specs.Members.{places_where}

-- ---- one list behind another

step_append : (b : Bool) (n : ℕ) (ps qs rs : List ℕ) → ps ≡ qs ++ rs → cond b (n ∷ ps) ps ≡ cond b (n ∷ qs) qs ++ rs
step_append true n ps qs rs e = ap (λ (xs : List ℕ). n ∷ xs) e
step_append false n ps qs rs e = e

pub places-append : {A : Type 0} (t : A → Bool) (n : ℕ) (xs ys : List A) → places_where t n (xs ++ ys) ≡ places_where t n xs ++ places_where t (n + length xs) ys
places-append t n [] ys = let e : n ≡ n + 0 = omega arith in ap (λ (m : ℕ). places_where t m ys) e
places-append t n (x ∷ xs) ys =
    let e : n + 1 + length xs ≡ n + suc (length xs) = omega arith in
    step_append (t x) n (places_where t (n + 1) (xs ++ ys)) (places_where t (n + 1) xs) (places_where t (n + suc (length xs)) ys)
    (places-append t (n + 1) xs ys ∙ ap (λ (m : ℕ). places_where t (n + 1) xs ++ places_where t m ys) e)

-- one item more
pub places-push : {A : Type 0} (t : A → Bool) (xs : List A) (x : A) → places_where t 0 (xs ++ x ∷ []) ≡ places_where t 0 xs ++ cond (t x) (length xs ∷ []) []
places-push t xs x =
    let e : 0 + length xs ≡ length xs = omega arith in
    places-append t 0 xs (x ∷ []) ∙ ap (λ (m : ℕ). places_where t 0 xs ++ cond (t x) (m ∷ []) []) e

pub places_more : {A : Type 0} (t : A → Bool) (xs : List A) (i : ℕ) (d : A) → i < length xs → places_where t 0 (take (i + 1) xs) ≡ places_where t 0 (take i xs) ++ cond (t (get_or xs i d)) (i ∷ []) []
places_more t xs i d within =
    ap (places_where t 0) (take_more xs i d within)
    ∙ places-push t (take i xs) (get_or xs i d)
    ∙ ap (λ (m : ℕ). places_where t 0 (take i xs) ++ cond (t (get_or xs i d)) (m ∷ []) []) (length-take-le i xs (omega arith))

-- ---- how many

step_long : (b : Bool) (n k : ℕ) (ps : List ℕ) → length ps ≤ k → length (cond b (n ∷ ps) ps) ≤ suc k
step_long true n k ps few = omega arith
step_long false n k ps few = omega arith

pub places_few : {A : Type 0} (t : A → Bool) (n : ℕ) (xs : List A) → length (places_where t n xs) ≤ length xs
places_few t n [] = omega arith
places_few t n (x ∷ xs) = step_long (t x) n (length xs) (places_where t (n + 1) xs) (places_few t (n + 1) xs)

step_same_long : {A : Type 0} (b : Bool) (n : ℕ) (x : A) (ps : List ℕ) (xs : List A) → length ps ≡ length xs → length (cond b (n ∷ ps) ps) ≡ length (cond b (x ∷ xs) xs)
step_same_long true n x ps xs e = ap suc e
step_same_long false n x ps xs e = e

-- as many as the filter keeps
pub places_count : {A : Type 0} (t : A → Bool) (n : ℕ) (xs : List A) → length (places_where t n xs) ≡ length (filter t xs)
places_count t n [] = refl
places_count t n (x ∷ xs) = step_same_long (t x) n x (places_where t (n + 1) xs) (filter t xs) (places_count t (n + 1) xs)

-- ---- tests that agree, place by place

step_same : (b c : Bool) (n : ℕ) (ps qs : List ℕ) → b ≡ c → ps ≡ qs → cond b (n ∷ ps) ps ≡ cond c (n ∷ qs) qs
step_same b c n ps qs e f = ap (λ (d : Bool). cond d (n ∷ ps) ps) e ∙ ap (λ (rs : List ℕ). cond c (n ∷ rs) rs) f

pub places-zip : {A B : Type 0} (t : A → Bool) (s : B → Bool) (n : ℕ) (xs : List A) (ys : List B) → AllZip (λ x y. t x ≡ s y) xs ys → places_where t n xs ≡ places_where s n ys
places-zip t s n [] [] zip = refl
places-zip t s n [] (y ∷ ys) zip = absurd zip
places-zip t s n (x ∷ xs) [] zip = absurd zip
places-zip t s n (x ∷ xs) (y ∷ ys) zip = step_same (t x) (s y) n (places_where t (n + 1) xs) (places_where s (n + 1) ys) zip.0 (places-zip t s (n + 1) xs ys zip.1)

-- ---- they rise

less : (m n : ℕ) → m < n → nat_cmp m n ≡ Less
less m n under = grind (arith, nat_tests)

step_above : (b : Bool) (m n : ℕ) (ps : List ℕ) → m < n → AllByRecursion (λ y. nat_cmp m y ≡ Less) ps → AllByRecursion (λ y. nat_cmp m y ≡ Less) (cond b (n ∷ ps) ps)
step_above true m n ps under all = (less m n under, all)
step_above false m n ps under all = all

above : {A : Type 0} (t : A → Bool) (m n : ℕ) (xs : List A) → m < n → AllByRecursion (λ y. nat_cmp m y ≡ Less) (places_where t n xs)
above t m n [] under = tt
above t m n (x ∷ xs) under = step_above (t x) m n (places_where t (n + 1) xs) under (above t m (n + 1) xs (omega arith))

step_rise : (b : Bool) (n : ℕ) (ps : List ℕ) → AllByRecursion (λ y. nat_cmp n y ≡ Less) ps → IsStrictlySortedBy nat_cmp ps → IsStrictlySortedBy nat_cmp (cond b (n ∷ ps) ps)
unfolding IsStrictlySortedBy
step_rise true n ps all up = (all, up)
step_rise false n ps all up = up

pub places_rise : {A : Type 0} (t : A → Bool) (n : ℕ) (xs : List A) → IsStrictlySortedBy nat_cmp (places_where t n xs)
unfolding IsStrictlySortedBy
places_rise t n [] = tt
places_rise t n (x ∷ xs) = step_rise (t x) n (places_where t (n + 1) xs) (above t n (n + 1) xs (omega arith)) (places_rise t (n + 1) xs)

-- ---- what stands at a place

-- the item of this number among those kept is of this place in the list, and passes
pub record IsKept {A : Type 0} (t : A → Bool) (n : ℕ) (xs kept : List A) (places : List ℕ) (w : ℕ) (x : A) : Type 0 where
  pub k : ℕ
  pub there : slice_get xs k ≡ Some x
  pub passes : t x ≡ true
  pub placed : slice_get places w ≡ Some (n + k)
  pub is_kept : slice_get kept w ≡ Some x

one_on : (n k : ℕ) → Some (n + 1 + k) ≡ Some (n + suc k)
one_on n k = let e : n + 1 + k ≡ n + suc k = omega arith in ap (λ (m : ℕ). Some m) e

kept_step : {A : Type 0} (t : A → Bool) (n : ℕ) (y : A) (ys kept : List A) (places : List ℕ)
    → ((w : ℕ) (x : A) → slice_get kept w ≡ Some x → IsKept t (n + 1) ys kept places w x)
    → (b : Bool) → t y ≡ b → (w : ℕ) (x : A) → slice_get (cond b (y ∷ kept) kept) w ≡ Some x → IsKept t n (y ∷ ys) (cond b (y ∷ kept) kept) (cond b (n ∷ places) places) w x
kept_step t n y ys kept places later true e zero x h =
    let same : y ≡ x = same_Some y x h in
    let start : n ≡ n + 0 = omega arith in
    record { k = 0; there = h; passes = ap t (sym same) ∙ e; placed = ap (λ (m : ℕ). Some m) start; is_kept = h }
kept_step t n y ys kept places later true e (suc w) x h =
    let r = later w x h in
    record { k = suc r.k; there = r.there; passes = r.passes; placed = r.placed ∙ one_on n r.k; is_kept = h }
kept_step t n y ys kept places later false e w x h =
    let r = later w x h in
    record { k = suc r.k; there = r.there; passes = r.passes; placed = r.placed ∙ one_on n r.k; is_kept = h }

pub kept_at : {A : Type 0} (t : A → Bool) (n : ℕ) (xs : List A) (w : ℕ) (x : A) → slice_get (filter t xs) w ≡ Some x → IsKept t n xs (filter t xs) (places_where t n xs) w x
kept_at t n [] w x h = absurd (let no : None ≡ Some x = h in cc)
kept_at t n (y ∷ ys) w x h = kept_step t n y ys (filter t ys) (places_where t (n + 1) ys) (λ v z i. kept_at t (n + 1) ys v z i) (t y) refl w x h

-- an item that passes has a number among those kept
pub record HasNumber {A : Type 0} (n : ℕ) (kept : List A) (places : List ℕ) (k : ℕ) (x : A) : Type 0 where
  pub w : ℕ
  pub is_kept : slice_get kept w ≡ Some x
  pub placed : slice_get places w ≡ Some (n + k)

number_here : {A : Type 0} (n : ℕ) (y : A) (kept : List A) (places : List ℕ) (b : Bool) → b ≡ true → (x : A) → y ≡ x → HasNumber n (cond b (y ∷ kept) kept) (cond b (n ∷ places) places) 0 x
number_here n y kept places true e x same = let start : n ≡ n + 0 = omega arith in record { w = 0; is_kept = ap (λ z. Some z) same; placed = ap (λ (m : ℕ). Some m) start }
number_here n y kept places false e x same = absurd (cc)

number_later : {A : Type 0} (n : ℕ) (y : A) (kept : List A) (places : List ℕ) (b : Bool) (k : ℕ) (x : A) → HasNumber (n + 1) kept places k x → HasNumber n (cond b (y ∷ kept) kept) (cond b (n ∷ places) places) (suc k) x
number_later n y kept places true k x r = record { w = suc r.w; is_kept = r.is_kept; placed = r.placed ∙ one_on n k }
number_later n y kept places false k x r = record { w = r.w; is_kept = r.is_kept; placed = r.placed ∙ one_on n k }

pub number_of : {A : Type 0} (t : A → Bool) (n : ℕ) (xs : List A) (k : ℕ) (x : A) → slice_get xs k ≡ Some x → t x ≡ true → HasNumber n (filter t xs) (places_where t n xs) k x
number_of t n [] k x h pass = absurd (let no : None ≡ Some x = h in cc)
number_of t n (y ∷ ys) zero x h pass =
    let same : y ≡ x = same_Some y x h in
    number_here n y (filter t ys) (places_where t (n + 1) ys) (t y) (ap t same ∙ pass) x same
number_of t n (y ∷ ys) (suc k) x h pass = number_later n y (filter t ys) (places_where t (n + 1) ys) (t y) k x (number_of t (n + 1) ys k x h pass)

-- ---- as a set

-- a place is that of an item that passes
pub record IsPlace {A : Type 0} (t : A → Bool) (n : ℕ) (xs : List A) (p : ℕ) : Type 0 where
  pub k : ℕ
  pub x : A
  pub there : slice_get xs k ≡ Some x
  pub passes : t x ≡ true
  pub is : p ≡ n + k

place_step : {A : Type 0} (t : A → Bool) (n : ℕ) (y : A) (ys : List A) (places : List ℕ) → ((w p : ℕ) → slice_get places w ≡ Some p → IsPlace t (n + 1) ys p)
    → (b : Bool) → t y ≡ b → (w p : ℕ) → slice_get (cond b (n ∷ places) places) w ≡ Some p → IsPlace t n (y ∷ ys) p
place_step t n y ys places later true e zero p h =
    let same : n ≡ p = same_Some n p h in
    record { k = 0; x = y; there = refl; passes = e; is = omega arith }
place_step t n y ys places later true e (suc w) p h =
    let r = later w p h in
    let on : p ≡ n + suc r.k = let is : p ≡ n + 1 + r.k = r.is in omega arith in
    record { k = suc r.k; x = r.x; there = r.there; passes = r.passes; is = on }
place_step t n y ys places later false e w p h =
    let r = later w p h in
    let on : p ≡ n + suc r.k = let is : p ≡ n + 1 + r.k = r.is in omega arith in
    record { k = suc r.k; x = r.x; there = r.there; passes = r.passes; is = on }

pub place_at : {A : Type 0} (t : A → Bool) (n : ℕ) (xs : List A) (w p : ℕ) → slice_get (places_where t n xs) w ≡ Some p → IsPlace t n xs p
place_at t n [] w p h = absurd (let no : None ≡ Some p = h in cc)
place_at t n (y ∷ ys) w p h = place_step t n y ys (places_where t (n + 1) ys) (λ v q i. place_at t (n + 1) ys v q i) (t y) refl w p h

-- each is below the end of the list
pub places_within : {A : Type 0} (t : A → Bool) (xs : List A) (w p : ℕ) → slice_get (places_where t 0 xs) w ≡ Some p → p < length xs
places_within t xs w p h =
    let r = place_at t 0 xs w p h in
    let within : r.k < length xs = slice_get_within xs r.k r.x r.there in
    let is : p ≡ 0 + r.k = r.is in
    omega arith

-- a place has one number
no_later : (ps : List ℕ) (k j p : ℕ) → IsStrictlySortedBy nat_cmp ps → slice_get ps k ≡ Some p → slice_get ps j ≡ Some p → k < j → ⊥
no_later ps k j p up here there before =
    let a : get_or ps k 0 ≡ p = get_or_from_slice_get ps k p 0 here in
    let b : get_or ps j 0 ≡ p = get_or_from_slice_get ps j p 0 there in
    let under : get_or ps k 0 < get_or ps j 0 = below_from_sorted ps k j 0 up before (slice_get_within ps j p there) in
    omega arith

pub one_number : (ps : List ℕ) (k j p : ℕ) → IsStrictlySortedBy nat_cmp ps → slice_get ps k ≡ Some p → slice_get ps j ≡ Some p → k ≡ j
one_number ps k j p up here there = elim (cases_lt k j) [
  | inl before ↦ absurd (no_later ps k j p up here there before)
  | inr behind ↦ elim (cases_lt j k) [
    | inl under ↦ absurd (no_later ps j k p up there here under)
    | inr over ↦ omega arith
  ]
]

-- a lesser place has a lesser number
pub lesser_number : (ps : List ℕ) (k j p q : ℕ) → IsStrictlySortedBy nat_cmp ps → slice_get ps k ≡ Some p → slice_get ps j ≡ Some q → p < q → k < j
lesser_number ps k j p q up here there under = elim (cases_lt k j) [
  | inl before ↦ before
  | inr behind ↦ elim (cases_lt j k) [
    | inl after ↦
        let a : get_or ps k 0 ≡ p = get_or_from_slice_get ps k p 0 here in
        let b : get_or ps j 0 ≡ q = get_or_from_slice_get ps j q 0 there in
        let over : get_or ps j 0 < get_or ps k 0 = below_from_sorted ps j k 0 up after (slice_get_within ps k p here) in
        absurd (omega arith)
    | inr over ↦
        let same : j ≡ k = omega arith in
        let c : p ≡ q = same_Some p q (sym here ∙ subst (λ (i : ℕ). slice_get ps i ≡ Some q) same there) in
        absurd (omega arith)
  ]
]
