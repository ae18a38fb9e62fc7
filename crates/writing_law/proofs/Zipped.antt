-- What two lists, place by place, say of the first and of the second.
use Rattle.std.proofs.Common.{◌≡◌, ℕ, zero, suc, List, [], ◌∷◌, ◌++◌, Some, None, refl, sym, subst}
use Rattle.std.specs.Prelude.{All, Any, slice_get}
use Rattle.std.specs.List.{AllZip, flat_map}
use Rattle.std.proofs.lemmas.List.Elements.{All-nil, All-cons}

zip_append : {A B : Type 0} (R : A → B → Type 0) (xs us : List A) (ys vs : List B) → AllZip R xs ys → AllZip R us vs → AllZip R (xs ++ us) (ys ++ vs)
zip_append R [] us [] vs zip rest = rest
zip_append R [] us (y ∷ ys) vs zip rest = absurd zip
zip_append R (x ∷ xs) us [] vs zip rest = absurd zip
zip_append R (x ∷ xs) us (y ∷ ys) vs zip rest = (zip.0, zip_append R xs us ys vs zip.1 rest)

-- lists of lists, put together
pub zip_flat : {A B X Y : Type 0} (R : A → B → Type 0) (S : X → Y → Type 0) (f : A → List X) (g : B → List Y) → ((a : A) (b : B) → R a b → AllZip S (f a) (g b))
    → (xs : List A) (ys : List B) → AllZip R xs ys → AllZip S (flat_map f xs) (flat_map g ys)
zip_flat R S f g step [] [] zip = tt
zip_flat R S f g step [] (y ∷ ys) zip = absurd zip
zip_flat R S f g step (x ∷ xs) [] zip = absurd zip
zip_flat R S f g step (x ∷ xs) (y ∷ ys) zip =
    zip_append S (f x) (flat_map f xs) (g y) (flat_map g ys) (step x y zip.0) (zip_flat R S f g step xs ys zip.1)

all_not : {A B : Type 0} (P : A → Type 0) (R : A → B → Type 0) → ((x : A) (y : B) → R x y → ¬ P x) → (xs : List A) (ys : List B) → AllZip R xs ys → All (λ x. ¬ P x) xs
all_not P R step [] [] zip = All-nil (λ x. ¬ P x)
all_not P R step [] (y ∷ ys) zip = absurd zip
all_not P R step (x ∷ xs) [] zip = absurd zip
all_not P R step (x ∷ xs) (y ∷ ys) zip = All-cons (λ x. ¬ P x) x xs (step x y zip.0) (all_not P R step xs ys zip.1)

-- where no item that has its twin is so, none of the list is
pub none_of : {A B : Type 0} (P : A → Type 0) (R : A → B → Type 0) → ((x : A) (y : B) → R x y → ¬ P x) → (xs : List A) (ys : List B) → AllZip R xs ys → ¬ Any P xs
none_of P R step xs ys zip (k, x, below, is, h) = all_not P R step xs ys zip k x below (subst P (sym is) h)

-- the twin of the item at a place
pub twin_at : {A B : Type 0} (R : A → B → Type 0) (xs : List A) (ys : List B) (k : ℕ) (x : A) → AllZip R xs ys → slice_get xs k ≡ Some x → (y : B) × (slice_get ys k ≡ Some y) × R x y
twin_at R [] ys k x zip at = absurd (let no : None ≡ Some x = at in cc)
twin_at R (a ∷ xs) [] k x zip at = absurd zip
twin_at R (a ∷ xs) (b ∷ ys) zero x zip at = let same : a ≡ x = cc in (b, refl, subst (λ z. R z b) same zip.0)
twin_at R (a ∷ xs) (b ∷ ys) (suc k) x zip at = twin_at R xs ys k x zip.1 at
