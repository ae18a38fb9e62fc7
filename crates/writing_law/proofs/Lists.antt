-- A list of values that is written and read again.
use Rattle.std.proofs.Common.{◌≡◌, ◌∙◌, List, [], ◌∷◌, map, Option, Some, refl, ap}
use Rattle.std.specs.Prelude.{All}
use Rattle.std.specs.List.{filter_map, cons_option}
use Rattle.std.proofs.lemmas.List.Elements.{All-head, All-tail}
use Rattle.exact_json.specs.Json.{Json, items_list}
use Rattle.imdf_schema.specs.Values.{listed}
use Rattle.imdf_write.specs.Values.{items_of, list_value}

pub items_back : (vs : List Json) → items_list (items_of vs) ≡ vs
items_back [] = refl
items_back (v ∷ vs) = ap (λ rest. v ∷ rest) (items_back vs)

-- the items of a written list are the values of its parts
pub listed_back : {A : Type 0} (value : A → Json) (xs : List A) → listed (list_value value xs) ≡ map value xs
listed_back value xs = items_back (map value xs)

filtered : {A : Type 0} (Fit : A → Type 0) (read : Json → Option A) (value : A → Json) → ((x : A) → Fit x → read (value x) ≡ Some x) → (xs : List A) → All Fit xs → filter_map read (map value xs) ≡ xs
filtered Fit read value back [] fits = refl
filtered Fit read value back (x ∷ xs) fits =
    ap (λ o. cons_option o (filter_map read (map value xs))) (back x (All-head Fit x xs fits)) ∙ ap (λ rest. x ∷ rest) (filtered Fit read value back xs (All-tail Fit x xs fits))

-- where each part is read back, so is the list
pub list_back : {A : Type 0} (Fit : A → Type 0) (read : Json → Option A) (value : A → Json) → ((x : A) → Fit x → read (value x) ≡ Some x) → (xs : List A) → All Fit xs → filter_map read (listed (list_value value xs)) ≡ xs
list_back Fit read value back xs fits = ap (filter_map read) (listed_back value xs) ∙ filtered Fit read value back xs fits
