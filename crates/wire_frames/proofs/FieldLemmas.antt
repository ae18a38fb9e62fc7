-- The values of the fields of one name, one field at a time.
use Rattle.std.proofs.Common.{◌≡◌, ℕ, ◌+◌, ◌<◌, List, [], ◌∷◌, ◌++◌, length, take, map, get_or, sym, ap, Bool, true, false, ◌∙◌, if◌then◌else◌}
use Rattle.std.proofs.lemmas.List.{take_more, map-append, append-nil}
use Rattle.std.proofs.lemmas.Grind.{flat_map-append}
use Rattle.http1.specs.Fields.{values_named, is_named}

-- one more field adds its value, where it has the name
pub values_more : {X : Type 0} (parts : X → List ℕ × List ℕ) (name : List ℕ) (xs : List X) (i : ℕ) (d : X) → i < length xs
    → values_named name (map parts (take (i + 1) xs))
    ≡ values_named name (map parts (take i xs)) ++ (if is_named name (parts (get_or xs i d)) then (parts (get_or xs i d)).1 ∷ [] else [])
values_more parts name xs i d lt =
    let f : List ℕ × List ℕ → List (List ℕ) = λ field. if is_named name field then field.1 ∷ [] else [] in
    ap (λ ys. values_named name (map parts ys)) (take_more xs i d lt)
    ∙ ap (values_named name) (map-append parts (take i xs) (get_or xs i d ∷ []))
    ∙ flat_map-append f (map parts (take i xs)) (parts (get_or xs i d) ∷ [])
    ∙ ap (λ (ys : List (List ℕ)). values_named name (map parts (take i xs)) ++ ys) (append-nil (f (parts (get_or xs i d))))

pub values_yes : {X : Type 0} (parts : X → List ℕ × List ℕ) (name : List ℕ) (xs : List X) (i : ℕ) (d : X) (r : Bool) → i < length xs
    → r ≡ is_named name (parts (get_or xs i d)) → r ≡ true
    → values_named name (map parts (take (i + 1) xs)) ≡ values_named name (map parts (take i xs)) ++ (parts (get_or xs i d)).1 ∷ []
values_yes parts name xs i d r lt is so =
    values_more parts name xs i d lt
    ∙ ap (λ (c : Bool). values_named name (map parts (take i xs)) ++ (if c then (parts (get_or xs i d)).1 ∷ [] else [])) (sym is ∙ so)

pub values_no : {X : Type 0} (parts : X → List ℕ × List ℕ) (name : List ℕ) (xs : List X) (i : ℕ) (d : X) (r : Bool) → i < length xs
    → r ≡ is_named name (parts (get_or xs i d)) → r ≡ false
    → values_named name (map parts (take (i + 1) xs)) ≡ values_named name (map parts (take i xs))
values_no parts name xs i d r lt is so =
    values_more parts name xs i d lt
    ∙ ap (λ (c : Bool). values_named name (map parts (take i xs)) ++ (if c then (parts (get_or xs i d)).1 ∷ [] else [])) (sym is ∙ so)
    ∙ append-nil (values_named name (map parts (take i xs)))
