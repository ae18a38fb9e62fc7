-- Lists that are filtered, joined and read by place.
use Rattle.std.proofs.Common.{◌≡◌, ℕ, ◌+◌, ◌<◌, zero, suc, Bool, true, false, cond, eqb, List, [], ◌∷◌, ◌++◌, Some, length, map, get_or, take, refl, sym, ap, ◌∙◌, arith}
use Rattle.std.specs.Prelude.{slice_get, filter}
use Rattle.std.specs.List.{flat_map}
use Rattle.std.proofs.lemmas.List.{append-nil, append_assoc, map-append}
use Rattle.std.proofs.lemmas.List.Elements.{filter-append, filter_more}
use Rattle.venue_nodes.specs.Members.{places_where}

-- ---- filtered

pub filter-flat_map : {X Y : Type 0} (t : Y → Bool) (f : X → List Y) (xs : List X) → filter t (flat_map f xs) ≡ flat_map (λ x. filter t (f x)) xs
filter-flat_map t f [] = refl
filter-flat_map {X} {Y} t f (x ∷ xs) = filter-append t (f x) (flat_map f xs) ∙ ap (λ (ys : List Y). filter t (f x) ++ ys) (filter-flat_map t f xs)

-- one item more, where all pass or none
same_step : {Y : Type 0} (b : Bool) (y : Y) (ys : List Y) → cond b (y ∷ cond b ys []) (cond b ys []) ≡ cond b (y ∷ ys) []
same_step true y ys = refl
same_step false y ys = refl

empty_both : {Y : Type 0} (b : Bool) → [] ≡ cond b (let ys : List Y = [] in ys) []
empty_both true = refl
empty_both false = refl

-- where all items of a mapped list pass, or none does
pub filter-map_same : {X Y : Type 0} (t : Y → Bool) (g : X → Y) (b : Bool) → ((x : X) → t (g x) ≡ b) → (xs : List X) → filter t (map g xs) ≡ cond b (map g xs) []
filter-map_same t g b h [] = empty_both b
filter-map_same {X} {Y} t g b h (x ∷ xs) =
    ap (λ (c : Bool). cond c (g x ∷ filter t (map g xs)) (filter t (map g xs))) (h x)
    ∙ ap (λ (ys : List Y). cond b (g x ∷ ys) ys) (filter-map_same t g b h xs)
    ∙ same_step b (g x) (map g xs)

-- a test on a list that may be empty
pub filter-cond : {Y : Type 0} (t : Y → Bool) (b : Bool) (ys : List Y) → filter t (cond b ys []) ≡ cond b (filter t ys) []
filter-cond t true ys = refl
filter-cond t false ys = refl

pub flat_map_same : {X Y : Type 0} (f g : X → List Y) → ((x : X) → f x ≡ g x) → (xs : List X) → flat_map f xs ≡ flat_map g xs
flat_map_same f g h [] = refl
flat_map_same {X} {Y} f g h (x ∷ xs) = ap (λ (ys : List Y). ys ++ flat_map f xs) (h x) ∙ ap (λ (ys : List Y). g x ++ ys) (flat_map_same f g h xs)

pub flat_map_cond : {X Y : Type 0} (b : Bool) (ys : List Y) (xs : List X) → flat_map (λ x. cond b ys []) xs ≡ cond b (flat_map (λ x. ys) xs) []
flat_map_cond true ys xs = refl
flat_map_cond false ys [] = refl
flat_map_cond false ys (x ∷ xs) = flat_map_cond false ys xs

-- a list for each item that is n, is one for each place at which n stands
place_step : {Y : Type 0} (b : Bool) (k : ℕ) (ys : List Y) (ps : List ℕ) → cond b ys [] ++ flat_map (λ (p : ℕ). ys) ps ≡ flat_map (λ (p : ℕ). ys) (cond b (k ∷ ps) ps)
place_step true k ys ps = refl
place_step false k ys ps = refl

pub flat_map_places : {Y : Type 0} (n k : ℕ) (ys : List Y) (row : List ℕ) → flat_map (λ a. cond (eqb a n) ys []) row ≡ flat_map (λ (p : ℕ). ys) (places_where (λ m. eqb m n) k row)
flat_map_places n k ys [] = refl
flat_map_places {Y} n k ys (a ∷ row) =
    ap (λ (zs : List Y). cond (eqb a n) ys [] ++ zs) (flat_map_places n (k + 1) ys row)
    ∙ place_step (eqb a n) k ys (places_where (λ m. eqb m n) (k + 1) row)

-- ---- by place

pub at_left : {X : Type 0} (xs ys : List X) (k : ℕ) → k < length xs → slice_get (xs ++ ys) k ≡ slice_get xs k
at_left [] ys k h = absurd (omega (arith, h))
at_left (x ∷ xs) ys zero h = refl
at_left (x ∷ xs) ys (suc k) h = at_left xs ys k (omega (arith, h))

pub at_right : {X : Type 0} (xs ys : List X) (k j : ℕ) → k ≡ length xs + j → slice_get (xs ++ ys) k ≡ slice_get ys j
at_right [] ys k j e = let same : k ≡ j = omega (arith, e) in ap (slice_get ys) same
at_right (x ∷ xs) ys zero j e = absurd (omega (arith, e))
at_right (x ∷ xs) ys (suc k) j e = at_right xs ys k j (omega (arith, e))

pub at_place : {X : Type 0} (xs : List X) (n : ℕ) → n < length xs → (x : X) × (slice_get xs n ≡ Some x)
at_place [] n h = absurd (omega (arith, h))
at_place (x ∷ xs) zero h = (x, refl)
at_place (x ∷ xs) (suc n) h = at_place xs n (omega (arith, h))

-- ---- kept one by one

kept_step : {X Y : Type 0} (f : X → Y) (b : Bool) (x : X) (kept : List X) (start : List Y) → b ≡ true → (start ++ map f kept) ++ f x ∷ [] ≡ start ++ map f (kept ++ cond b (x ∷ []) [])
kept_step {X} {Y} f true x kept start e = append_assoc start (map f kept) (f x ∷ []) ∙ ap (λ (ys : List Y). start ++ ys) (sym (map-append f kept (x ∷ [])))
kept_step f false x kept start e = absurd (cc)

left_step : {X Y : Type 0} (f : X → Y) (b : Bool) (x : X) (kept : List X) (start : List Y) → b ≡ false → start ++ map f kept ≡ start ++ map f (kept ++ cond b (x ∷ []) [])
left_step f true x kept start e = absurd (cc)
left_step {X} {Y} f false x kept start e = ap (λ (xs : List X). start ++ map f xs) (sym (append-nil kept))

-- an item that passes is added behind what was made of those before it
pub kept_more : {X Y : Type 0} (f : X → Y) (t : X → Bool) (xs : List X) (i : ℕ) (d : X) (start old new : List Y) → i < length xs → old ≡ start ++ map f (filter t (take i xs)) → t (get_or xs i d) ≡ true → new ≡ old ++ f (get_or xs i d) ∷ []
    → new ≡ start ++ map f (filter t (take (i + 1) xs))
kept_more {X} {Y} f t xs i d start old new within before pass grown =
    grown
    ∙ ap (λ (ys : List Y). ys ++ f (get_or xs i d) ∷ []) before
    ∙ kept_step f (t (get_or xs i d)) (get_or xs i d) (filter t (take i xs)) start pass
    ∙ ap (λ (zs : List X). start ++ map f zs) (sym (filter_more t xs i d within))

-- one that doesn't pass isn't
pub left_more : {X Y : Type 0} (f : X → Y) (t : X → Bool) (xs : List X) (i : ℕ) (d : X) (start old new : List Y) → i < length xs → old ≡ start ++ map f (filter t (take i xs)) → t (get_or xs i d) ≡ false → new ≡ old
    → new ≡ start ++ map f (filter t (take (i + 1) xs))
left_more {X} {Y} f t xs i d start old new within before fail same =
    same
    ∙ before
    ∙ left_step f (t (get_or xs i d)) (get_or xs i d) (filter t (take i xs)) start fail
    ∙ ap (λ (zs : List X). start ++ map f zs) (sym (filter_more t xs i d within))
