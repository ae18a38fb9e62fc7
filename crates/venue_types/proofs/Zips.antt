-- What two lists, place by place, say of the second.
use Rattle.std.proofs.Common.{◌≡◌, ◌∙◌, List, [], ◌∷◌, refl, ap}
use Rattle.std.specs.Prelude.{All}
use Rattle.std.specs.List.{AllZip}
use Rattle.std.proofs.lemmas.List.Elements.{All-nil, All-cons}

pub zip_all : {A B : Type 0} (R : A → B → Type 0) (Q : B → Type 0) → ((x : A) (y : B) → R x y → Q y) → (xs : List A) (ys : List B) → AllZip R xs ys → All Q ys
zip_all R Q step [] [] zip = All-nil Q
zip_all R Q step [] (y ∷ ys) zip = absurd zip
zip_all R Q step (x ∷ xs) [] zip = absurd zip
zip_all R Q step (x ∷ xs) (y ∷ ys) zip = All-cons Q y ys (step x y zip.0) (zip_all R Q step xs ys zip.1)

-- the things of a list, place by place, are one list at most
pub zip_one : {A B : Type 0} (R : A → B → Type 0) → ((x : A) (y z : B) → R x y → R x z → y ≡ z) → (xs : List A) (ys zs : List B) → AllZip R xs ys → AllZip R xs zs → ys ≡ zs
zip_one R one [] [] [] h k = refl
zip_one R one [] [] (z ∷ zs) h k = absurd k
zip_one R one [] (y ∷ ys) zs h k = absurd h
zip_one R one (x ∷ xs) [] zs h k = absurd h
zip_one R one (x ∷ xs) (y ∷ ys) [] h k = absurd k
zip_one R one (x ∷ xs) (y ∷ ys) (z ∷ zs) h k =
    let front : y ≡ z = one x y z h.0 k.0 in
    let rest : ys ≡ zs = zip_one R one xs ys zs h.1 k.1 in
    ap (λ w. w ∷ ys) front ∙ ap (λ ws. z ∷ ws) rest
