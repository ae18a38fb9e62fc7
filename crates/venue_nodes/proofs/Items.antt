-- Items of lists by their places.
pub use Rattle.venue_types.proofs.Items.{at_member, member_at, at_map, from_map}
use Rattle.std.proofs.Common.{◌≡◌, ℕ, ◌+◌, ◌<◌, zero, suc, List, [], ◌∷◌, ◌++◌, Option, Some, None, length, map, take, get_or, refl, sym, ap, ◌∙◌}
use Rattle.std.specs.Prelude.{slice_get}
use Rattle.std.specs.List.{filter_map, cons_option}
use Rattle.std.specs.Option.{option_to_list}
use Rattle.std.proofs.lemmas.List.{take_more, map-append}
use Rattle.std.proofs.lemmas.List.Elements.{filter_map-append}
use Rattle.std.proofs.lemmas.Option.{same_Some}

-- ---- what a function gives of some items

given_one : {Y : Type 0} (o : Option Y) → cons_option o [] ≡ option_to_list o
given_one None = refl
given_one (Some y) = refl

pub given_more : {X Y : Type 0} (h : X → Option Y) (xs : List X) (i : ℕ) (d : X) → i < length xs → filter_map h (take (i + 1) xs) ≡ filter_map h (take i xs) ++ option_to_list (h (get_or xs i d))
given_more {X} {Y} h xs i d within =
    ap (filter_map h) (take_more xs i d within)
    ∙ filter_map-append h (take i xs) (get_or xs i d ∷ [])
    ∙ ap (λ (ys : List Y). filter_map h (take i xs) ++ ys) (given_one (h (get_or xs i d)))

-- what is given is of one of the items
pub record IsGiven {X Y : Type 0} (h : X → Option Y) (xs : List X) (y : Y) : Type 0 where
  pub k : ℕ
  pub x : X
  pub there : slice_get xs k ≡ Some x
  pub gives : h x ≡ Some y

given_later : {X Y : Type 0} (h : X → Option Y) (x : X) (xs : List X) (y : Y) → IsGiven h xs y → IsGiven h (x ∷ xs) y
given_later h x xs y r = record { k = suc r.k; x = r.x; there = r.there; gives = r.gives }

given_step : {X Y : Type 0} (h : X → Option Y) (x : X) (xs : List X) (ys : List Y) → ((w : ℕ) (y : Y) → slice_get ys w ≡ Some y → IsGiven h xs y)
    → (o : Option Y) → h x ≡ o → (w : ℕ) (y : Y) → slice_get (cons_option o ys) w ≡ Some y → IsGiven h (x ∷ xs) y
given_step h x xs ys later None e w y at = given_later h x xs y (later w y at)
given_step h x xs ys later (Some z) e zero y at = record { k = 0; x = x; there = refl; gives = e ∙ at }
given_step h x xs ys later (Some z) e (suc w) y at = given_later h x xs y (later w y at)

pub given_from : {X Y : Type 0} (h : X → Option Y) (xs : List X) (w : ℕ) (y : Y) → slice_get (filter_map h xs) w ≡ Some y → IsGiven h xs y
given_from h [] w y at = absurd (let no : None ≡ Some y = at in cc)
given_from h (x ∷ xs) w y at = given_step h x xs (filter_map h xs) (λ v z i. given_from h xs v z i) (h x) refl w y at

some_first : {Y : Type 0} (o : Option Y) (ys : List Y) (y : Y) → o ≡ Some y → slice_get (cons_option o ys) 0 ≡ Some y
some_first None ys y e = absurd (cc)
some_first (Some z) ys y e = e

some_behind : {Y : Type 0} (o : Option Y) (ys : List Y) (w : ℕ) (y : Y) → slice_get ys w ≡ Some y → (v : ℕ) × (slice_get (cons_option o ys) v ≡ Some y)
some_behind None ys w y at = (w, at)
some_behind (Some z) ys w y at = (suc w, at)

pub given_to : {X Y : Type 0} (h : X → Option Y) (xs : List X) (k : ℕ) (x : X) (y : Y) → slice_get xs k ≡ Some x → h x ≡ Some y → (w : ℕ) × (slice_get (filter_map h xs) w ≡ Some y)
given_to h [] k x y at gives = absurd (let no : None ≡ Some x = at in cc)
given_to h (z ∷ xs) zero x y at gives = (0, some_first (h z) (filter_map h xs) y (ap h (same_Some z x at) ∙ gives))
given_to h (z ∷ xs) (suc k) x y at gives = let r = given_to h xs k x y at gives in some_behind (h z) (filter_map h xs) r.0 y r.1

-- a loop's step, by what its calls say
pub given_on : {X Y : Type 0} (h : X → Option Y) (xs : List X) (i : ℕ) (d : X) (o : Option Y) (old new : List Y) → i < length xs → old ≡ filter_map h (take i xs) → o ≡ h (get_or xs i d)
    → new ≡ old ++ option_to_list o → new ≡ filter_map h (take (i + 1) xs)
given_on {X} {Y} h xs i d o old new within before is grown =
    grown
    ∙ ap (λ (ys : List Y). ys ++ option_to_list o) before
    ∙ ap (λ (p : Option Y). filter_map h (take i xs) ++ option_to_list p) is
    ∙ sym (given_more h xs i d within)

pub map_twice : {X Y Z : Type 0} (f : Y → Z) (g : X → Y) (xs : List X) → map f (map g xs) ≡ map (λ x. f (g x)) xs
map_twice f g [] = refl
map_twice {X} {Y} {Z} f g (x ∷ xs) = ap (λ (zs : List Z). f (g x) ∷ zs) (map_twice f g xs)

-- what four passes add, one after another
pub four_passes : {A B C D X Y : Type 0} (f : X → Y) (a : A → X) (b : B → X) (c : C → X) (d : D → X) (as1 as2 : List A) (bs bs' : List B) (cs cs' : List C) (ds ds' : List D) (l0 l1 l2 l3 l4 : List Y)
    → l0 ≡ [] → as2 ≡ as1 → bs' ≡ bs → cs' ≡ cs → ds' ≡ ds
    → l1 ≡ l0 ++ map (λ x. f (a x)) as2 → l2 ≡ l1 ++ map (λ x. f (b x)) bs' → l3 ≡ l2 ++ map (λ x. f (c x)) cs' → l4 ≡ l3 ++ map (λ x. f (d x)) ds'
    → l4 ≡ map f (map a as1 ++ map b bs ++ map c cs ++ map d ds)
four_passes {A} {B} {C} {D} {X} {Y} f a b c d as1 as2 bs bs' cs cs' ds ds' l0 l1 l2 l3 l4 e0 ea eb ec ed e1 e2 e3 e4 =
    let one : l1 ≡ map f (map a as1) = e1 ∙ ap (λ (l : List Y). l ++ map (λ x. f (a x)) as2) e0 ∙ ap (map (λ x. f (a x))) ea ∙ sym (map_twice f a as1) in
    let two : l2 ≡ map f (map a as1 ++ map b bs) = e2 ∙ ap (λ (l : List Y). l ++ map (λ x. f (b x)) bs') one ∙ ap (λ (l : List Y). map f (map a as1) ++ l) (ap (map (λ x. f (b x))) eb ∙ sym (map_twice f b bs)) ∙ sym (map-append f (map a as1) (map b bs)) in
    let three : l3 ≡ map f (map a as1 ++ map b bs ++ map c cs) = e3 ∙ ap (λ (l : List Y). l ++ map (λ x. f (c x)) cs') two ∙ ap (λ (l : List Y). map f (map a as1 ++ map b bs) ++ l) (ap (map (λ x. f (c x))) ec ∙ sym (map_twice f c cs)) ∙ sym (map-append f (map a as1 ++ map b bs) (map c cs)) in
    e4 ∙ ap (λ (l : List Y). l ++ map (λ x. f (d x)) ds') three ∙ ap (λ (l : List Y). map f (map a as1 ++ map b bs ++ map c cs) ++ l) (ap (map (λ x. f (d x))) ed ∙ sym (map_twice f d ds)) ∙ sym (map-append f (map a as1 ++ map b bs ++ map c cs) (map d ds))
