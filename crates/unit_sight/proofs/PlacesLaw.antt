-- Who is joined by place is joined by member, where the members rise.
use Rattle.std.proofs.Common.{◌≡◌, ℕ, ◌<◌, ◌≤◌, zero, suc, Bool, true, false, cond, not, ◌&&◌, ◌||◌, ◌==◌, nat_lt, List, [], ◌∷◌, ◌++◌, length, map, filter, get_or, take, Option, Some, None, option_map, IfSome, All, refl, sym, ap, ap₂, ◌∙◌, arith, inl, inr}
use Rattle.std.specs.List.{list_all, AllByRecursion}
use Rattle.std.specs.List.Sorted.{IsStrictlyIncreasing}
use Rattle.std.specs.Option.{option_map_or}
use Rattle.std.proofs.Math.Seq.{take-suc, take-length}
use Rattle.std.proofs.lemmas.Bool.{cases_order, cond_both, eq-eqb, ne_eqb, lt-ltb, le-ltb}
use Rattle.std.proofs.lemmas.List.{map-append}
use Rattle.std.proofs.lemmas.List.Elements.{All-nil, All-push, All-filter, All-from_recursion, recursion_from_All}
use Rattle.std.proofs.lemmas.List.Folds.{list_all-map}
use Rattle.std.proofs.lemmas.List.Kept.{AllPairs-from_increasing}
use Rattle.unit_sight.specs.Joined.{is_blind, are_blind, seeing, is_nearer, nearer, nearest, host_of, is_guest_of, is_joined}
use Rattle.unit_sight.specs.Tables.{places}

-- ---- a function that rises below n keeps tests of order

record Rises (f : ℕ → ℕ) (n : ℕ) : Type 0 where
  rises : (i j : ℕ) → i < j → j < n → f i < f j

abbrev AllBelow : ℕ → List ℕ → Type 0
AllBelow n xs = AllByRecursion (λ x. x < n) xs

same_equal : (f : ℕ → ℕ) (n i j : ℕ) → Rises f n → i < n → j < n → (f i == f j) ≡ (i == j)
same_equal f n i j up hi hj = elim (cases_order i j) [
  | inl same ↦ eq-eqb (f i) (f j) (ap f same) ∙ sym (eq-eqb i j same)
  | inr (inl less) ↦ (let lower = up.rises i j less hj in ne_eqb (f i) (f j) (λ e. omega arith) ∙ sym (ne_eqb i j (λ e. omega arith)))
  | inr (inr more) ↦ (let higher = up.rises j i more hi in ne_eqb (f i) (f j) (λ e. omega arith) ∙ sym (ne_eqb i j (λ e. omega arith)))
]

same_less : (f : ℕ → ℕ) (n i j : ℕ) → Rises f n → i < n → j < n → nat_lt (f i) (f j) ≡ nat_lt i j
same_less f n i j up hi hj = elim (cases_order i j) [
  | inl same ↦ (let level = ap f same in le-ltb (f i) (f j) (omega arith) ∙ sym (le-ltb i j (omega arith)))
  | inr (inl less) ↦ lt-ltb (f i) (f j) (up.rises i j less hj) ∙ sym (lt-ltb i j less)
  | inr (inr more) ↦ (let higher = up.rises j i more hi in le-ltb (f i) (f j) (omega arith) ∙ sym (le-ltb i j (omega arith)))
]

-- ---- tests that agree below n

all_agree : (p q : ℕ → Bool) (n : ℕ) (xs : List ℕ) → AllBelow n xs → ((x : ℕ) → x < n → p x ≡ q x) → list_all p xs ≡ list_all q xs
all_agree p q n [] below agree = refl
all_agree p q n (x ∷ xs) below agree = ap₂ (λ (a b : Bool). a && b) (agree x below.0) (all_agree p q n xs below.1 agree)

filter_agrees : (p q : ℕ → Bool) (n : ℕ) (xs : List ℕ) → AllBelow n xs → ((x : ℕ) → x < n → p x ≡ q x) → filter p xs ≡ filter q xs
filter_agrees p q n [] below agree = refl
filter_agrees p q n (x ∷ xs) below agree =
    ap₂ (λ (b : Bool) (ys : List ℕ). cond b (x ∷ ys) ys) (agree x below.0) (filter_agrees p q n xs below.1 agree)

map_cond : (f : ℕ → ℕ) (b : Bool) (x : ℕ) (ys : List ℕ) → cond b (f x ∷ map f ys) (map f ys) ≡ map f (cond b (x ∷ ys) ys)
map_cond f true x ys = refl
map_cond f false x ys = refl

filter_mapped : (p : ℕ → Bool) (f : ℕ → ℕ) (xs : List ℕ) → filter p (map f xs) ≡ map f (filter (λ x. p (f x)) xs)
filter_mapped p f [] = refl
filter_mapped p f (x ∷ xs) =
    ap (λ (ys : List ℕ). cond (p (f x)) (f x ∷ ys) ys) (filter_mapped p f xs) ∙ map_cond f (p (f x)) x (filter (λ y. p (f y)) xs)

filter_below : (p : ℕ → Bool) (n : ℕ) (xs : List ℕ) → AllBelow n xs → AllBelow n (filter p xs)
filter_below p n xs below =
    recursion_from_All (λ x. x < n) (filter p xs) (All-filter p (λ x. x < n) xs (All-from_recursion (λ x. x < n) xs below))

-- ---- who is blind

-- sight by place
abbrev sees_by : (ℕ → ℕ → Bool) → (ℕ → ℕ) → ℕ → ℕ → Bool
sees_by sees f i j = sees (f i) (f j)

blind_same : (sees : ℕ → ℕ → Bool) (f : ℕ → ℕ) (n : ℕ) (ps : List ℕ) (i : ℕ) → Rises f n → AllBelow n ps → i < n
    → is_blind sees (map f ps) (f i) ≡ is_blind (sees_by sees f) ps i
blind_same sees f n ps i up below h =
    list_all-map (λ b. (f i == b) || not (sees (f i) b)) f ps
    ∙ all_agree (λ b. (f i == f b) || not (sees (f i) (f b))) (λ b. (i == b) || not (sees (f i) (f b))) n ps below
    (λ b hb. ap (λ (same : Bool). same || not (sees (f i) (f b))) (same_equal f n i b up h hb))

all_blind_same : (sees : ℕ → ℕ → Bool) (f : ℕ → ℕ) (n : ℕ) (ps : List ℕ) → Rises f n → AllBelow n ps
    → are_blind sees (map f ps) ≡ are_blind (sees_by sees f) ps
all_blind_same sees f n ps up below =
    list_all-map (is_blind sees (map f ps)) f ps
    ∙ all_agree (λ b. is_blind sees (map f ps) (f b)) (is_blind (sees_by sees f) ps) n ps below (λ b hb. blind_same sees f n ps b up below hb)

seeing_same : (sees : ℕ → ℕ → Bool) (f : ℕ → ℕ) (n : ℕ) (ps : List ℕ) → Rises f n → AllBelow n ps
    → seeing sees (map f ps) ≡ map f (seeing (sees_by sees f) ps)
seeing_same sees f n ps up below =
    filter_mapped (λ b. not (is_blind sees (map f ps) b)) f ps
    ∙ ap (map f) (filter_agrees (λ b. not (is_blind sees (map f ps) (f b))) (λ b. not (is_blind (sees_by sees f) ps b)) n ps below
    (λ b hb. ap not (blind_same sees f n ps b up below hb)))

-- ---- who is the host

nearer_same : (far : ℕ → ℕ) (f : ℕ → ℕ) (n b c : ℕ) → Rises f n → b < n → c < n → is_nearer far (f b) (f c) ≡ is_nearer (λ k. far (f k)) b c
nearer_same far f n b c up hb hc =
    ap (λ (less : Bool). nat_lt (far (f b)) (far (f c)) || ((far (f b) == far (f c)) && less)) (same_less f n b c up hb hc)

cond_mapped : (f : ℕ → ℕ) (b : Bool) (x y : ℕ) → cond b (f x) (f y) ≡ f (cond b x y)
cond_mapped f true x y = refl
cond_mapped f false x y = refl

step_same : (far : ℕ → ℕ) (f : ℕ → ℕ) (n b : ℕ) (o : Option ℕ) → Rises f n → b < n → IfSome o (λ c. c < n)
    → nearer far (f b) (option_map f o) ≡ f (nearer (λ k. far (f k)) b o)
step_same far f n b None up hb below = refl
step_same far f n b (Some c) up hb below =
    ap (λ (t : Bool). cond t (f c) (f b)) (nearer_same far f n c b up below hb) ∙ cond_mapped f (is_nearer (λ k. far (f k)) c b) c b

step_below : (far : ℕ → ℕ) (n b : ℕ) (o : Option ℕ) → b < n → IfSome o (λ c. c < n) → nearer far b o < n
step_below far n b None hb below = hb
step_below far n b (Some c) hb below = cond_both (is_nearer far c b) c b (λ (x : ℕ). x < n) (λ h. below) (λ h. hb)

nearest_below : (far : ℕ → ℕ) (n : ℕ) (qs : List ℕ) → AllBelow n qs → IfSome (nearest far qs) (λ c. c < n)
nearest_below far n [] below = tt
nearest_below far n (q ∷ qs) below = step_below far n q (nearest far qs) below.0 (nearest_below far n qs below.1)

nearest_same : (far : ℕ → ℕ) (f : ℕ → ℕ) (n : ℕ) (qs : List ℕ) → Rises f n → AllBelow n qs
    → nearest far (map f qs) ≡ option_map f (nearest (λ k. far (f k)) qs)
nearest_same far f n [] up below = refl
nearest_same far f n (q ∷ qs) up below =
    ap (λ (o : Option ℕ). Some (nearer far (f q) o)) (nearest_same far f n qs up below.1)
    ∙ ap Some (step_same far f n q (nearest (λ k. far (f k)) qs) up below.0 (nearest_below (λ k. far (f k)) n qs below.1))

-- lengths by place
abbrev far_by : (ℕ → ℕ → ℕ) → (ℕ → ℕ) → ℕ → ℕ → ℕ
far_by far f i j = far (f i) (f j)

host_same : (sees : ℕ → ℕ → Bool) (far : ℕ → ℕ → ℕ) (f : ℕ → ℕ) (n : ℕ) (ps : List ℕ) (i : ℕ) → Rises f n → AllBelow n ps
    → host_of sees far (map f ps) (f i) ≡ option_map f (host_of (sees_by sees f) (far_by far f) ps i)
host_same sees far f n ps i up below =
    ap (nearest (far (f i))) (seeing_same sees f n ps up below)
    ∙ nearest_same (far (f i)) f n (seeing (sees_by sees f) ps) up (filter_below (λ b. not (is_blind (sees_by sees f) ps b)) n ps below)

host_below : (sees : ℕ → ℕ → Bool) (far : ℕ → ℕ → ℕ) (n : ℕ) (ps : List ℕ) (i : ℕ) → AllBelow n ps → IfSome (host_of sees far ps i) (λ c. c < n)
host_below sees far n ps i below = nearest_below (far i) n (seeing sees ps) (filter_below (λ b. not (is_blind sees ps b)) n ps below)

-- ---- who is joined

is_same : (f : ℕ → ℕ) (n j : ℕ) (o : Option ℕ) → Rises f n → j < n → IfSome o (λ c. c < n)
    → option_map_or (λ host. host == f j) (option_map f o) false ≡ option_map_or (λ host. host == j) o false
is_same f n j None up h below = refl
is_same f n j (Some c) up h below = same_equal f n c j up below h

guest_same : (sees : ℕ → ℕ → Bool) (far : ℕ → ℕ → ℕ) (f : ℕ → ℕ) (n : ℕ) (ps : List ℕ) (i j : ℕ) → Rises f n → AllBelow n ps → i < n → j < n
    → is_guest_of sees far (map f ps) (f i) (f j) ≡ is_guest_of (sees_by sees f) (far_by far f) ps i j
guest_same sees far f n ps i j up below hi hj =
    ap₂ (λ (a b : Bool). a && b) (blind_same sees f n ps i up below hi)
    (ap (λ (o : Option ℕ). option_map_or (λ host. host == f j) o false) (host_same sees far f n ps i up below)
    ∙ is_same f n j (host_of (sees_by sees f) (far_by far f) ps i) up hj (host_below (sees_by sees f) (far_by far f) n ps i below))

parts_same : (seen e e' g g' h h' k k' : Bool) → e ≡ e' → g ≡ g' → h ≡ h' → k ≡ k'
    → (not e && (seen || ((g || h) || k))) ≡ (not e' && (seen || ((g' || h') || k')))
parts_same seen e e' g g' h h' k k' one two three four =
    ap (λ (x : Bool). not x && (seen || ((g || h) || k))) one
    ∙ ap (λ (x : Bool). not e' && (seen || ((x || h) || k))) two
    ∙ ap (λ (x : Bool). not e' && (seen || ((g' || x) || k))) three
    ∙ ap (λ (x : Bool). not e' && (seen || ((g' || h') || x))) four

joined_same : (sees : ℕ → ℕ → Bool) (far : ℕ → ℕ → ℕ) (f : ℕ → ℕ) (n : ℕ) (ps : List ℕ) (i j : ℕ) → Rises f n → AllBelow n ps → i < n → j < n
    → is_joined sees far (map f ps) (f i) (f j) ≡ is_joined (sees_by sees f) (far_by far f) ps i j
unfolding is_joined
joined_same sees far f n ps i j up below hi hj =
    parts_same (sees (f i) (f j)) (f i == f j) (i == j)
    (is_guest_of sees far (map f ps) (f i) (f j)) (is_guest_of (sees_by sees f) (far_by far f) ps i j)
    (is_guest_of sees far (map f ps) (f j) (f i)) (is_guest_of (sees_by sees f) (far_by far f) ps j i)
    (are_blind sees (map f ps)) (are_blind (sees_by sees f) ps)
    (same_equal f n i j up hi hj) (guest_same sees far f n ps i j up below hi hj) (guest_same sees far f n ps j i up below hj hi)
    (all_blind_same sees f n ps up below)

-- ---- members by place

places_below : (n m : ℕ) → m ≤ n → All (λ x. x < n) (places m)
places_below n zero h = All-nil (λ x. x < n)
places_below n (suc m) h = All-push (λ x. x < n) (places m) m (places_below n m (omega arith)) (omega arith)

taken_by_place : (xs : List ℕ) (m : ℕ) → m ≤ length xs → map (λ i. get_or xs i 0) (places m) ≡ take m xs
taken_by_place xs zero h = refl
taken_by_place xs (suc m) h =
    map-append (λ i. get_or xs i 0) (places m) (m ∷ [])
    ∙ ap (λ (ys : List ℕ). ys ++ get_or xs m 0 ∷ []) (taken_by_place xs m (omega arith))
    ∙ sym (take-suc xs m 0 (omega arith))

members_by_place : (xs : List ℕ) → map (λ i. get_or xs i 0) (places (length xs)) ≡ xs
members_by_place xs = taken_by_place xs (length xs) (omega arith) ∙ take-length xs

members_rise : (xs : List ℕ) → IsStrictlyIncreasing xs → Rises (λ i. get_or xs i 0) (length xs)
members_rise xs up = record { rises = λ i j before within. AllPairs-from_increasing xs up i j 0 before within }

pub joined_by_place : (sees : ℕ → ℕ → Bool) (far : ℕ → ℕ → ℕ) (members : List ℕ) (i j : ℕ) → IsStrictlyIncreasing members → i < length members → j < length members
    → is_joined (λ k l. sees (get_or members k 0) (get_or members l 0)) (λ k l. far (get_or members k 0) (get_or members l 0)) (places (length members)) i j
    ≡ is_joined sees far members (get_or members i 0) (get_or members j 0)
joined_by_place sees far members i j up hi hj =
    let at : ℕ → ℕ = λ k. get_or members k 0 in
    let n = length members in
    sym (joined_same sees far at n (places n) i j (members_rise members up) (recursion_from_All (λ x. x < n) (places n) (places_below n n (omega arith))) hi hj)
    ∙ ap (λ (xs : List ℕ). is_joined sees far xs (at i) (at j)) (members_by_place members)

pub host_by_place : (sees : ℕ → ℕ → Bool) (far : ℕ → ℕ → ℕ) (members : List ℕ) (i : ℕ) → IsStrictlyIncreasing members
    → option_map (λ k. get_or members k 0) (host_of (λ k l. sees (get_or members k 0) (get_or members l 0)) (λ k l. far (get_or members k 0) (get_or members l 0)) (places (length members)) i)
    ≡ host_of sees far members (get_or members i 0)
host_by_place sees far members i up =
    let at : ℕ → ℕ = λ k. get_or members k 0 in
    let n = length members in
    sym (host_same sees far at n (places n) i (members_rise members up) (recursion_from_All (λ x. x < n) (places n) (places_below n n (omega arith))))
    ∙ ap (λ (xs : List ℕ). host_of sees far xs (at i)) (members_by_place members)
