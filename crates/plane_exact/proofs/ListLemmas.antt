-- Steps of loops whose result the items ahead decide.
use Rattle.std.proofs.Common.{◌≡◌, ℕ, zero, suc, ◌+◌, ◌-◌, ◌<◌, ◌≤◌, List, [], ◌∷◌, ◌++◌, length, take, drop, get_or, append_assoc, Any, ◌↔◌, ◌⊎◌, flat_map, inl, inr, refl, sym, subst, ap, ◌∙◌, arith}
use Rattle.std.proofs.lemmas.List.Concat.{flat_map-append}
use Rattle.std.proofs.lemmas.List.{at_drop_more, length-append, take_all}

-- what is ahead begins with the item at hand
pub drop_at : {X : Type 0} (xs : List X) (i : ℕ) (x d : X) → i < length xs → get_or xs i d ≡ x → drop i xs ≡ x ∷ drop (i + 1) xs
drop_at {X} xs i x d h e = rw (← e) (at_drop_more (λ (ys : List X). ys) xs i d h)

-- ---- some item has a property

pub any_here : {X : Type 0} (P : X → Type 0) (x : X) (xs : List X) → P x → Any P (x ∷ xs)
any_here P x xs h = (0, x, omega arith, refl, h)

pub any_later : {X : Type 0} (P : X → Type 0) (x : X) (xs : List X) → Any P xs → Any P (x ∷ xs)
any_later P x xs (k, y, within, at, h) = (suc k, y, omega arith, at, h)

pub any_of_cons : {X : Type 0} (P : X → Type 0) (x : X) (xs : List X) → Any P (x ∷ xs) → P x ⊎ Any P xs
any_of_cons P x xs (zero, y, within, at, h) = inl (subst P (sym at) h)
any_of_cons P x xs (suc k, y, within, at, h) = inr (k, y, omega arith, at, h)

-- past an item without the property the rest decides
pub any_past : {X : Type 0} (P : X → Type 0) (x : X) (xs : List X) → ¬ P x → Any P xs ↔ Any P (x ∷ xs)
any_past P x xs none = (any_later P x xs, λ a. elim (any_of_cons P x xs a) [ inl h ↦ absurd (none h) | inr rest ↦ rest ])

pub any_left : {X : Type 0} (P : X → Type 0) (xs ys : List X) → Any P xs → Any P (xs ++ ys)
any_left P [] ys (k, y, within, at, h) = absurd (omega (arith, within))
any_left P (x ∷ xs) ys a = elim (any_of_cons P x xs a) [ inl h ↦ any_here P x (xs ++ ys) h | inr rest ↦ any_later P x (xs ++ ys) (any_left P xs ys rest) ]

pub any_right : {X : Type 0} (P : X → Type 0) (xs ys : List X) → Any P ys → Any P (xs ++ ys)
any_right P [] ys a = a
any_right P (x ∷ xs) ys a = any_later P x (xs ++ ys) (any_right P xs ys a)

pub any_of_append : {X : Type 0} (P : X → Type 0) (xs ys : List X) → Any P (xs ++ ys) → Any P xs ⊎ Any P ys
any_of_append P [] ys a = inr a
any_of_append P (x ∷ xs) ys a = elim (any_of_cons P x (xs ++ ys) a) [
  | inl h ↦ inl (any_here P x xs h)
  | inr rest ↦ elim (any_of_append P xs ys rest) [ inl l ↦ inl (any_later P x xs l) | inr r ↦ inr r ]
]

-- past items without the property the rest decides
pub any_past_all : {X : Type 0} (P : X → Type 0) (xs ys : List X) → ¬ Any P xs → Any P ys ↔ Any P (xs ++ ys)
any_past_all P xs ys none = (any_right P xs ys, λ a. elim (any_of_append P xs ys a) [ inl l ↦ absurd (none l) | inr r ↦ r ])

-- ---- lists in lists

pub flat_map-flat_map : {X Y Z : Type 0} (f : Y → List Z) (g : X → List Y) (xs : List X) → flat_map f (flat_map g xs) ≡ flat_map (λ x. flat_map f (g x)) xs
flat_map-flat_map f g [] = refl
flat_map-flat_map f g (x ∷ xs) = flat_map-append f (g x) (flat_map g xs) ∙ ap (λ zs. flat_map f (g x) ++ zs) (flat_map-flat_map f g xs)

-- ---- a list that takes over what lies ahead

pub pushed_step : {X : Type 0} (list new items all : List X) (i : ℕ) (x y d : X) → i < length items → get_or items i d ≡ x → y ≡ x → new ≡ list ++ y ∷ [] → list ++ drop i items ≡ all → new ++ drop (i + 1) items ≡ all
pushed_step list new items all i x y d within at same e h =
    ap (λ ys. ys ++ drop (i + 1) items) e ∙ append_assoc list (y ∷ []) (drop (i + 1) items) ∙ ap (λ z. list ++ z ∷ drop (i + 1) items) same ∙ ap (λ ys. list ++ ys) (sym (drop_at items i x d within at)) ∙ h

pub added_step : {X Y : Type 0} (f : X → List Y) (list new all : List Y) (items : List X) (i : ℕ) (x d : X) → i < length items → get_or items i d ≡ x → new ≡ list ++ f x → list ++ flat_map f (drop i items) ≡ all → new ++ flat_map f (drop (i + 1) items) ≡ all
added_step f list new all items i x d within at e h =
    ap (λ ys. ys ++ flat_map f (drop (i + 1) items)) e ∙ append_assoc list (f x) (flat_map f (drop (i + 1) items)) ∙ ap (λ ys. list ++ flat_map f ys) (sym (drop_at items i x d within at)) ∙ h

-- what is read of a list that is handed on is the list's item
pub read_item : {X : Type 0} (read items : List X) (i : ℕ) (x : X) → read ≡ items → x ≡ get_or read i x → get_or items i x ≡ x
read_item read items i x e at = ap (λ list. get_or list i x) (sym e) ∙ sym at

-- what a pattern reads is the whole list
pub read_whole : {X : Type 0} (xs : List X) (d : X) → 1 ≤ length xs → get_or xs 0 d ∷ take (length xs - 1) (drop 1 xs) ≡ xs
read_whole [] d some = absurd (omega (arith, some))
read_whole (x ∷ xs) d some = let all : length xs ≤ length (x ∷ xs) - 1 = omega arith in ap (λ ys. x ∷ ys) (take_all (length (x ∷ xs) - 1) xs all)

-- ---- a count of what lies in lists

-- at the beginning
pub count_none : {X : Type 0} (xs ys : List X) → xs ≡ ys → 0 + length xs ≡ length ys
count_none xs ys e = omega (arith, ap (λ zs. length zs) e)

-- one list further
pub count_step : {X Y : Type 0} (f : X → List Y) (count more all : ℕ) (items : List X) (i : ℕ) (x d : X) → i < length items → get_or items i d ≡ x → more ≡ length (f x) → count + length (flat_map f (drop i items)) ≡ all → (count + more) + length (flat_map f (drop (i + 1) items)) ≡ all
count_step f count more all items i x d within at e h =
    omega (arith, e, h, ap (λ ys. length (flat_map f ys)) (drop_at items i x d within at), length-append (f x) (flat_map f (drop (i + 1) items)))

-- what lies in one list ahead is no more than all
pub count_one : {X Y : Type 0} (f : X → List Y) (count all : ℕ) (items : List X) (i : ℕ) (x d : X) → i < length items → get_or items i d ≡ x → count + length (flat_map f (drop i items)) ≡ all → count + length (f x) ≤ all
count_one f count all items i x d within at h =
    omega (arith, count_step f count (length (f x)) all items i x d within at refl h)
