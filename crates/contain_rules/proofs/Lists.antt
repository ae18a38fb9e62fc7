-- What stands in lists of lists, and what of a list an item has.
use Rattle.std.proofs.Common.{◌≡◌, ◌∙◌, ℕ, ◌+◌, ◌<◌, Bool, true, false, IsTrue, List, length, get_or, drop, Any, Contains, ◌↔◌, flat_map, refl, sym, ◌⊎◌, inl, inr}
use Rattle.plane_exact.proofs.ListLemmas.{drop_at, any_here, any_past, any_left, any_past_all}

pub at_place : {X : Type 0} (xs : List X) (i : ℕ) (x : X) → i < length xs → x ≡ get_or xs i x → Contains xs x
at_place xs i x within is = (i, within, sym is)

-- the item with the property, and back
pub any_item : {X : Type 0} (P : X → Type 0) (xs : List X) → Any P xs → (x : X) × Contains xs x × P x
any_item P xs (k, x, within, at, h) = (x, (k, within, at), h)

pub item_any : {X : Type 0} (P : X → Type 0) (xs : List X) (x : X) → Contains xs x → P x → Any P xs
item_any P xs x (k, within, at) h = (k, x, within, at, h)

-- of the items ahead, the one at hand
pub here : {X : Type 0} (P : X → Type 0) (xs : List X) (i : ℕ) (x d : X) → i < length xs → get_or xs i d ≡ x → P x → Any P (drop i xs)
here P xs i x d within at h = rw (drop_at xs i x d within at) (any_here P x (drop (i + 1) xs) h)

pub past : {X : Type 0} (P : X → Type 0) (xs : List X) (i : ℕ) (x d : X) → i < length xs → get_or xs i d ≡ x → ¬ P x → Any P (drop (i + 1) xs) ↔ Any P (drop i xs)
past P xs i x d within at none = rw (drop_at xs i x d within at) (any_past P x (drop (i + 1) xs) none)

-- the same of items that have some each
pub all_here : {X Y : Type 0} (P : Y → Type 0) (f : X → List Y) (xs : List X) (i : ℕ) (x d : X) → i < length xs → get_or xs i d ≡ x → Any P (f x) → Any P (flat_map f (drop i xs))
all_here P f xs i x d within at h = rw (drop_at xs i x d within at) (any_left P (f x) (flat_map f (drop (i + 1) xs)) h)

pub all_past : {X Y : Type 0} (P : Y → Type 0) (f : X → List Y) (xs : List X) (i : ℕ) (x d : X) → i < length xs → get_or xs i d ≡ x → ¬ Any P (f x) → Any P (flat_map f (drop (i + 1) xs)) ↔ Any P (flat_map f (drop i xs))
all_past P f xs i x d within at none = rw (drop_at xs i x d within at) (any_past_all P (f x) (flat_map f (drop (i + 1) xs)) none)

-- ---- whether one of the items has the property, told item by item: where none behind has it, those ahead decide

pub found_before : {X : Type 0} (P : X → Type 0) (xs : List X) (i : ℕ) (old new : Bool) → old ≡ true → new ≡ old
    → (IsTrue old ⊎ Any P (drop i xs)) ↔ Any P xs → (IsTrue new ⊎ Any P (drop (i + 1) xs)) ↔ Any P xs
found_before P xs i old new found same ahead = ((λ _. ahead.0 (inl found)), (λ _. inl (same ∙ found)))

of_step : {X : Type 0} (P : X → Type 0) (xs : List X) (i : ℕ) (x d : X) (r : Bool) → i < length xs → get_or xs i d ≡ x → (IsTrue r ↔ P x) → (IsTrue r ⊎ Any P (drop (i + 1) xs)) ↔ Any P (drop i xs)
of_step P xs i x d true within at decides = ((λ _. here P xs i x d within at (decides.0 refl)), (λ _. inl refl))
of_step P xs i x d false within at decides =
    let rest = past P xs i x d within at (λ h. let c : false ≡ true = decides.1 h in cc) in
    ((λ h. elim h [ inl held ↦ absurd (let c : false ≡ true = held in cc) | inr more ↦ rest.0 more ]), (λ h. inr (rest.1 h)))

pub found_here : {X : Type 0} (P : X → Type 0) (xs : List X) (i : ℕ) (x d : X) (old new r : Bool) → old ≡ false → new ≡ r → i < length xs → get_or xs i d ≡ x → (IsTrue r ↔ P x)
    → (IsTrue old ⊎ Any P (drop i xs)) ↔ Any P xs → (IsTrue new ⊎ Any P (drop (i + 1) xs)) ↔ Any P xs
found_here P xs i x d old new r none same within at decides ahead =
    let step = of_step P xs i x d r within at decides in (
      (λ h. elim h [ inl held ↦ ahead.0 (inr (step.0 (inl (sym same ∙ held)))) | inr more ↦ ahead.0 (inr (step.0 (inr more))) ]),
      (λ h. elim (ahead.1 h) [
        | inl held ↦ absurd (let c : true ≡ false = sym held ∙ none in cc)
        | inr more ↦ elim (step.1 more) [ inl held ↦ inl (same ∙ held) | inr rest ↦ inr rest ]
      ]),
    )
