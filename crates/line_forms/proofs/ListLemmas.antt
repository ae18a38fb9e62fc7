-- Cuts and fronts are unique.
use Rattle.std.proofs.Common.{◌≡◌, ℕ, ◌+◌, ◌<◌, ◌≤◌, List, [], ◌∷◌, ◌++◌, length, refl, sym, ap, ◌∙◌, append_assoc, arith, take, get_or}
use Rattle.std.proofs.lemmas.List.{take_more, length-append}
use Rattle.std.specs.List.{flat_map, AllByRecursion}
use Rattle.line_forms.specs.Fronts.{Lacks, HasNone, IsUnique, IsFront}

pub Lacks-append : (stop : ℕ) (xs ys : List ℕ) → Lacks stop xs → Lacks stop ys → Lacks stop (xs ++ ys)
Lacks-append stop [] ys p q = q
Lacks-append stop (x ∷ xs) ys p q = (p.0, Lacks-append stop xs ys p.1 q)

pub Lacks-cut : (stop : ℕ) (a x : List ℕ) → Lacks stop (a ++ stop ∷ x) → ⊥
Lacks-cut stop [] x p = p.0 refl
Lacks-cut stop (b ∷ a) x p = Lacks-cut stop a x p.1

pub head_same : (a b : ℕ) (x y : List ℕ) → a ∷ x ≡ b ∷ y → a ≡ b
head_same a b x y e = cc

pub tail_same : (a b : ℕ) (x y : List ℕ) → a ∷ x ≡ b ∷ y → x ≡ y
tail_same a b x y e = cc

-- texts whose first bytes differ
pub differ : (a b : ℕ) (x y : List ℕ) → a ∷ x ≡ b ∷ y → (a ≡ b → ⊥) → ⊥
differ a b x y e apart = apart (head_same a b x y e)

pub cut_unique : (stop : ℕ) (a x b y : List ℕ) → Lacks stop a → Lacks stop b → a ++ stop ∷ x ≡ b ++ stop ∷ y → (a ≡ b) × (x ≡ y)
cut_unique stop [] x [] y p q e = (refl, tail_same stop stop x y e)
cut_unique stop [] x (c ∷ b) y p q e = absurd (q.0 (sym (head_same stop c x (b ++ stop ∷ y) e)))
cut_unique stop (c ∷ a) x [] y p q e = absurd (p.0 (head_same c stop (a ++ stop ∷ x) y e))
cut_unique stop (c ∷ a) x (d ∷ b) y p q e =
    let rest = cut_unique stop a x b y p.1 q.1 (tail_same c d (a ++ stop ∷ x) (b ++ stop ∷ y) e) in
    let heads : c ≡ d = head_same c d (a ++ stop ∷ x) (b ++ stop ∷ y) e in
    (ap (λ (h : ℕ). h ∷ a) heads ∙ ap (λ (t : List ℕ). d ∷ t) rest.0, rest.1)

-- the items that a text begins with are the first of those that it spells before a rest without one
pub record Splits {X : Type 0} (spelling : X → List ℕ) (xs ys : List X) (rest tail : List ℕ) : Type 0 where
  pub others : List X
  pub items : ys ≡ xs ++ others
  pub rest_is : rest ≡ flat_map spelling others ++ tail

pub fronts_split : {X : Type 0} (spelling : X → List ℕ) (Fits : X → Type 0) → IsUnique spelling Fits
    → (xs ys : List X) (rest tail : List ℕ) → AllByRecursion Fits xs → AllByRecursion Fits ys → HasNone spelling Fits tail
    → flat_map spelling xs ++ rest ≡ flat_map spelling ys ++ tail → Splits spelling xs ys rest tail
fronts_split spelling Fits unique [] ys rest tail p q none e = record { others = ys; items = refl; rest_is = e }
fronts_split spelling Fits unique (x ∷ xs) [] rest tail p q none e =
    absurd (none x (flat_map spelling xs ++ rest) p.0 (sym e ∙ append_assoc (spelling x) (flat_map spelling xs) rest))
fronts_split {X} spelling Fits unique (x ∷ xs) (y ∷ ys) rest tail p q none e =
    let one = unique x y (flat_map spelling xs ++ rest) (flat_map spelling ys ++ tail) p.0 q.0
    (sym (append_assoc (spelling x) (flat_map spelling xs) rest) ∙ e ∙ append_assoc (spelling y) (flat_map spelling ys) tail) in
    let more = fronts_split spelling Fits unique xs ys rest tail p.1 q.1 none one.1 in
    record {
      others = more.others;
      items = ap (λ (h : X). h ∷ ys) (sym one.0) ∙ ap (λ (t : List X). x ∷ t) more.items;
      rest_is = more.rest_is;
    }

-- two readings of one text into items and a rest without one are the same
pub fronts_agree : {X : Type 0} (spelling : X → List ℕ) (Fits : X → Type 0) → IsUnique spelling Fits
    → (xs ys : List X) (rest tail : List ℕ) → AllByRecursion Fits xs → AllByRecursion Fits ys → HasNone spelling Fits rest → HasNone spelling Fits tail
    → flat_map spelling xs ++ rest ≡ flat_map spelling ys ++ tail → (xs ≡ ys) × (rest ≡ tail)
fronts_agree spelling Fits unique [] [] rest tail p q none none' e = (refl, e)
fronts_agree spelling Fits unique [] (y ∷ ys) rest tail p q none none' e =
    absurd (none y (flat_map spelling ys ++ tail) q.0 (e ∙ append_assoc (spelling y) (flat_map spelling ys) tail))
fronts_agree spelling Fits unique (x ∷ xs) [] rest tail p q none none' e =
    absurd (none' x (flat_map spelling xs ++ rest) p.0 (sym e ∙ append_assoc (spelling x) (flat_map spelling xs) rest))
fronts_agree {X} spelling Fits unique (x ∷ xs) (y ∷ ys) rest tail p q none none' e =
    let one = unique x y (flat_map spelling xs ++ rest) (flat_map spelling ys ++ tail) p.0 q.0
    (sym (append_assoc (spelling x) (flat_map spelling xs) rest) ∙ e ∙ append_assoc (spelling y) (flat_map spelling ys) tail) in
    let others = fronts_agree spelling Fits unique xs ys rest tail p.1 q.1 none none' one.1 in
    (ap (λ (h : X). h ∷ xs) one.0 ∙ ap (λ (t : List X). y ∷ t) others.0, others.1)

pub one_front : {X : Type 0} (spelling : X → List ℕ) (Fits : X → Type 0) → IsUnique spelling Fits → (xs ys : List X) (text rest tail : List ℕ)
    → IsFront spelling Fits xs text rest → IsFront spelling Fits ys text tail → (xs ≡ ys) × (rest ≡ tail)
one_front spelling Fits unique xs ys text rest tail p q = fronts_agree spelling Fits unique xs ys rest tail p.fit q.fit p.all q.all (sym p.parts ∙ q.parts)

-- a loop over the bytes takes one more
pub Lacks_more : (stop : ℕ) (xs : List ℕ) (i : ℕ) → i < length xs → Lacks stop (take i xs) → (get_or xs i 0 ≡ stop → ⊥) → Lacks stop (take (i + 1) xs)
Lacks_more stop xs i within before apart = rw (take_more xs i 0 within) (Lacks-append stop (take i xs) (get_or xs i 0 ∷ []) before (apart, tt))

-- as many items as there are, at least so long is their text
pub length-flat_map-le : {X : Type 0} (f : X → List ℕ) → ((x : X) → 0 < length (f x)) → (xs : List X) → length xs ≤ length (flat_map f xs)
length-flat_map-le f some [] = omega arith
length-flat_map-le f some (x ∷ xs) = omega (arith, some x, length-flat_map-le f some xs, length-append (f x) (flat_map f xs))
