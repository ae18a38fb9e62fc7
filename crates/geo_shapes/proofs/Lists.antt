-- Some element of a list, and two lists place by place.
use Rattle.std.proofs.Common.{◌≡◌, ℕ, zero, suc, ◌+◌, ◌<◌, ◌≤◌, List, [], ◌∷◌, ◌++◌, length, get_or, map, take, Any, ◌⊎◌, inl, inr, refl, sym, ap, ◌∙◌, subst, arith}
use Rattle.std.specs.List.{AllZip}
use Rattle.std.proofs.lemmas.List.{take_more, map-append, length-map, get_or-map, take_all}
use Rattle.std.proofs.lemmas.Slice.Zip.{all_zipped_more}

pub any_here : {X : Type 0} (P : X → Type 0) (x : X) (xs : List X) → P x → Any P (x ∷ xs)
any_here P x xs p = (0, x, omega arith, refl, p)

pub any_there : {X : Type 0} (P : X → Type 0) (x : X) (xs : List X) → Any P xs → Any P (x ∷ xs)
any_there P x xs (k, y, below, at, p) = (suc k, y, omega arith, at, p)

pub any_cons : {X : Type 0} (P : X → Type 0) (x : X) (xs : List X) → Any P (x ∷ xs) → P x ⊎ Any P xs
any_cons P x xs (zero, y, below, at, p) = inl (subst P (sym at) p)
any_cons P x xs (suc k, y, below, at, p) = inr (k, y, omega arith, at, p)

pub any_none : {X : Type 0} (P : X → Type 0) → Any P [] → ⊥
any_none P (k, y, below, at, p) = omega arith

pub any_left : {X : Type 0} (P : X → Type 0) (xs ys : List X) → Any P xs → Any P (xs ++ ys)
any_left P [] ys a = absurd (any_none P a)
any_left P (x ∷ xs) ys a = elim (any_cons P x xs a) [ inl p ↦ any_here P x (xs ++ ys) p | inr b ↦ any_there P x (xs ++ ys) (any_left P xs ys b) ]

pub any_right : {X : Type 0} (P : X → Type 0) (xs ys : List X) → Any P ys → Any P (xs ++ ys)
any_right P [] ys a = a
any_right P (x ∷ xs) ys a = any_there P x (xs ++ ys) (any_right P xs ys a)

pub any_either : {X : Type 0} (P : X → Type 0) (xs ys : List X) → Any P (xs ++ ys) → Any P xs ⊎ Any P ys
any_either P [] ys a = inr a
any_either P (x ∷ xs) ys a =
    elim (any_cons P x (xs ++ ys) a) [
      | inl p ↦ inl (any_here P x xs p)
      | inr b ↦ elim (any_either P xs ys b) [ inl c ↦ inl (any_there P x xs c) | inr c ↦ inr c ]
    ]

-- an element that was reached
pub any_at : {T X : Type 0} (P : X → Type 0) (view : T → X) (xs : List T) (i : ℕ) (x : T) → i < length xs → x ≡ get_or xs i x → P (view x) → Any P (map view xs)
any_at P view xs i x below at p =
    (i, view x, (let e = length-map xs view in omega arith), get_or-map view xs i x (view x) below ∙ ap view (sym at), p)

-- the front of a list, by one more
pub front_more : {T X : Type 0} (view : T → X) (xs : List T) (i : ℕ) (x : T) → i < length xs → x ≡ get_or xs i x
    → map view (take (i + 1) xs) ≡ map view (take i xs) ++ view x ∷ []
front_more view xs i x below at =
    ap (map view) (take_more xs i x below ∙ ap (λ y. take i xs ++ y ∷ []) (sym at)) ∙ map-append view (take i xs) (x ∷ [])

pub zip_more : {T X Y : Type 0} (R : X → Y → Type 0) (view : T → X) (xs : List T) (i : ℕ) (x : T) (ys : List Y) (y : Y) → i < length xs → x ≡ get_or xs i x
    → AllZip R (map view (take i xs)) ys → R (view x) y → AllZip R (map view (take (i + 1) xs)) (ys ++ y ∷ [])
zip_more {T} {X} {Y} R view xs i x ys y below at front here =
    let P : List X → Type 0 = λ zs. AllZip R zs (ys ++ y ∷ []) in
    subst P (sym (front_more view xs i x below at)) (all_zipped_more R (map view (take i xs)) ys (view x) y front here)

pub whole_front : {T X : Type 0} (view : T → X) (xs : List T) (n : ℕ) → length xs ≤ n → map view (take n xs) ≡ map view xs
whole_front view xs n long = ap (map view) (take_all n xs long)
