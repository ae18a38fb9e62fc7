-- What two lists, place by place, say of the second.
use Rattle.std.proofs.Common.{◌≡◌, ℕ, suc, ◌+◌, ◌≤◌, List, [], ◌∷◌, ◌++◌, length, Some, refl, arith}
use Rattle.std.specs.Prelude.{slice_get, sum_by, All}
use Rattle.std.specs.List.{AllZip, flat_map}
use Rattle.std.proofs.lemmas.List.{length-append}
use Rattle.std.proofs.lemmas.List.Elements.{All-nil, All-append}
use Rattle.std.proofs.lemmas.List.Sums.{sum_by-cons}

-- what holds of each item of the first list is known beside its twin
pub zip_places : {A B : Type 0} (P : A → Type 0) (R : A → B → Type 0) (xs : List A) (ys : List B) → ((k : ℕ) (x : A) → slice_get xs k ≡ Some x → P x) → AllZip R xs ys → AllZip (λ x y. P x × R x y) xs ys
zip_places P R [] [] all zip = tt
zip_places P R [] (y ∷ ys) all zip = absurd zip
zip_places P R (x ∷ xs) [] all zip = absurd zip
zip_places P R (x ∷ xs) (y ∷ ys) all zip = ((all 0 x refl, zip.0), zip_places P R xs ys (λ k z at. all (suc k) z at) zip.1)

zip_append : {A B : Type 0} (R : A → B → Type 0) (xs us : List A) (ys vs : List B) → AllZip R xs ys → AllZip R us vs → AllZip R (xs ++ us) (ys ++ vs)
zip_append R [] us [] vs zip rest = rest
zip_append R [] us (y ∷ ys) vs zip rest = absurd zip
zip_append R (x ∷ xs) us [] vs zip rest = absurd zip
zip_append R (x ∷ xs) us (y ∷ ys) vs zip rest = (zip.0, zip_append R xs us ys vs zip.1 rest)

-- lists of lists, put together
pub zip_flat : {A B X Y : Type 0} (R : A → B → Type 0) (S : X → Y → Type 0) (f : A → List X) (g : B → List Y) → ((a : A) (b : B) → R a b → AllZip S (f a) (g b))
    → (xs : List A) (ys : List B) → AllZip R xs ys → AllZip S (flat_map f xs) (flat_map g ys)
zip_flat R S f g step [] [] zip = tt
zip_flat R S f g step [] (y ∷ ys) zip = absurd zip
zip_flat R S f g step (x ∷ xs) [] zip = absurd zip
zip_flat R S f g step (x ∷ xs) (y ∷ ys) zip =
    zip_append S (f x) (flat_map f xs) (g y) (flat_map g ys) (step x y zip.0) (zip_flat R S f g step xs ys zip.1)

pub zip_flat_all : {A B Y : Type 0} (R : A → B → Type 0) (Q : Y → Type 0) (g : B → List Y) → ((x : A) (y : B) → R x y → All Q (g y)) → (xs : List A) (ys : List B) → AllZip R xs ys → All Q (flat_map g ys)
zip_flat_all R Q g step [] [] zip = All-nil Q
zip_flat_all R Q g step [] (y ∷ ys) zip = absurd zip
zip_flat_all R Q g step (x ∷ xs) [] zip = absurd zip
zip_flat_all R Q g step (x ∷ xs) (y ∷ ys) zip = All-append Q (g y) (flat_map g ys) (step x y zip.0) (zip_flat_all R Q g step xs ys zip.1)

-- the second list is no longer than what is counted of the first
pub zip_count : {A B : Type 0} (R : A → B → Type 0) (h : A → ℕ) → ((x : A) (y : B) → R x y → 1 ≤ h x) → (xs : List A) (ys : List B) → AllZip R xs ys → length ys ≤ sum_by h xs
zip_count R h step [] [] zip = omega arith
zip_count R h step [] (y ∷ ys) zip = absurd zip
zip_count R h step (x ∷ xs) [] zip = absurd zip
zip_count R h step (x ∷ xs) (y ∷ ys) zip =
    let here = step x y zip.0 in
    let rest = zip_count R h step xs ys zip.1 in
    let sum : sum_by h (x ∷ xs) ≡ h x + sum_by h xs = sum_by-cons h x xs in
    omega arith

pub zip_flat_count : {A B Y : Type 0} (R : A → B → Type 0) (h : A → ℕ) (g : B → List Y) → ((x : A) (y : B) → R x y → length (g y) ≤ h x) → (xs : List A) (ys : List B) → AllZip R xs ys → length (flat_map g ys) ≤ sum_by h xs
zip_flat_count R h g step [] [] zip = omega arith
zip_flat_count R h g step [] (y ∷ ys) zip = absurd zip
zip_flat_count R h g step (x ∷ xs) [] zip = absurd zip
zip_flat_count R h g step (x ∷ xs) (y ∷ ys) zip =
    let here = step x y zip.0 in
    let rest = zip_flat_count R h g step xs ys zip.1 in
    let sum : sum_by h (x ∷ xs) ≡ h x + sum_by h xs = sum_by-cons h x xs in
    let long : length (g y ++ flat_map g ys) ≡ length (g y) + length (flat_map g ys) = length-append (g y) (flat_map g ys) in
    omega arith

pub all_flat : {X Y : Type 0} (Q : Y → Type 0) (g : X → List Y) → ((x : X) → All Q (g x)) → (xs : List X) → All Q (flat_map g xs)
all_flat Q g each [] = All-nil Q
all_flat Q g each (x ∷ xs) = All-append Q (g x) (flat_map g xs) (each x) (all_flat Q g each xs)
