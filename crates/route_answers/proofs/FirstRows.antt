-- The first place of a row in lists of rows.
use Rattle.std.proofs.Common.{◌≡◌, ◌≢◌, ℕ, zero, suc, ◌+◌, ◌≤◌, List, [], ◌∷◌, ◌++◌, length, take, flat_map, Some, None, sym, subst, arith, length-append}
use Rattle.std.specs.Prelude.{slice_get}
use Rattle.std.specs.List.{AllByRecursion}
use Rattle.std.proofs.lemmas.Option.{same_Some}
use Rattle.route_certificate.specs.declared.table.TableLink.{TableLink}
use Rattle.route_answers.specs.Places.{IsFirstPlace}

-- none of them is the row
abbrev pub Lacks : List TableLink → TableLink → Type 0
Lacks rows row = AllByRecursion (λ (y : TableLink). y ≢ row) rows

pub moved : (xs : List TableLink) (x : TableLink) (k j : ℕ) → k ≡ j → IsFirstPlace xs x k → IsFirstPlace xs x j
moved xs x k j same f = subst (IsFirstPlace xs x) same f

later_least : (y : TableLink) (xs : List TableLink) (x : TableLink) (k : ℕ) → y ≢ x → IsFirstPlace xs x k → (j : ℕ) → slice_get (y ∷ xs) j ≡ Some x → suc k ≤ j
later_least y xs x k other f zero at = absurd (other (same_Some y x at))
later_least y xs x k other f (suc j) at = let least = f.first j at in omega (arith, least)

pub first_later : (y : TableLink) (xs : List TableLink) (x : TableLink) (k : ℕ) → y ≢ x → IsFirstPlace xs x k → IsFirstPlace (y ∷ xs) x (suc k)
first_later y xs x k other f = record { there = f.there; first = later_least y xs x k other f }

pub first_behind : (front xs : List TableLink) (x : TableLink) (k : ℕ) → Lacks front x → IsFirstPlace xs x k → IsFirstPlace (front ++ xs) x (length front + k)
first_behind [] xs x k none f = moved xs x k (0 + k) (omega arith) f
first_behind (y ∷ front) xs x k none f =
    moved (y ∷ (front ++ xs)) x (suc (length front + k)) (suc (length front) + k) (omega arith) (first_later y (front ++ xs) x (length front + k) none.0 (first_behind front xs x k none.1 f))

at_front : (xs back : List TableLink) (k : ℕ) (x : TableLink) → slice_get xs k ≡ Some x → slice_get (xs ++ back) k ≡ Some x
at_front [] back k x at = absurd (let no_item : None ≡ Some x = at in cc)
at_front (y ∷ xs) back zero x at = at
at_front (y ∷ xs) back (suc k) x at = at_front xs back k x at

first_least : (xs back : List TableLink) (x : TableLink) (k : ℕ) → IsFirstPlace xs x k → (j : ℕ) → slice_get (xs ++ back) j ≡ Some x → k ≤ j
first_least [] back x k f j at = absurd (let no_item : None ≡ Some x = f.there in cc)
first_least (y ∷ xs) back x k f zero at = f.first zero at
first_least (y ∷ xs) back x zero f (suc j) at = omega arith
first_least (y ∷ xs) back x (suc k) f (suc j) at =
    let rest : IsFirstPlace xs x k = record { there = f.there; first = λ i here. let least = f.first (suc i) here in omega (arith, least) } in
    let least : k ≤ j = first_least xs back x k rest j at in
    omega (arith, least)

pub first_before : (xs back : List TableLink) (x : TableLink) (k : ℕ) → IsFirstPlace xs x k → IsFirstPlace (xs ++ back) x k
first_before xs back x k f = record { there = at_front xs back k x f.there; first = first_least xs back x k f }

lacks_parts : (front back : List TableLink) (y : TableLink) → Lacks (front ++ back) y → Lacks front y × Lacks back y
lacks_parts [] back y none = (tt, none)
lacks_parts (w ∷ front) back y none = let rest = lacks_parts front back y none.1 in ((none.0, rest.0), rest.1)

-- a piece of pieces
pub first_piece : {X : Type 0} (g : X → List TableLink) (xs : List X) (i : ℕ) (x : X) (y : TableLink) (k : ℕ) → slice_get xs i ≡ Some x → Lacks (flat_map g (take i xs)) y → IsFirstPlace (g x) y k
    → IsFirstPlace (flat_map g xs) y (length (flat_map g (take i xs)) + k)
first_piece g [] i x y k at none f = absurd (let no_item : None ≡ Some x = at in cc)
first_piece g (z ∷ xs) zero x y k at none f =
    moved (g z ++ flat_map g xs) y k (0 + k) (omega arith) (first_before (g z) (flat_map g xs) y k (subst (λ v. IsFirstPlace (g v) y k) (sym (same_Some z x at)) f))
first_piece g (z ∷ xs) (suc i) x y k at none f =
    let parts = lacks_parts (g z) (flat_map g (take i xs)) y none in
    let rest : IsFirstPlace (flat_map g xs) y (length (flat_map g (take i xs)) + k) = first_piece g xs i x y k at parts.1 f in
    let sum = length-append (g z) (flat_map g (take i xs)) in
    moved (g z ++ flat_map g xs) y (length (g z) + (length (flat_map g (take i xs)) + k)) _ (omega (arith, sum)) (first_behind (g z) (flat_map g xs) y (length (flat_map g (take i xs)) + k) parts.0 rest)
