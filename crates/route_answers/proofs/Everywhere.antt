-- What holds of all items of a list.
use Rattle.std.proofs.Common.{◌≡◌, ℕ, zero, suc, Bool, true, false, cond, List, [], ◌∷◌, take, map, filter, flat_map, Some, None, subst}
use Rattle.std.specs.Prelude.{slice_get}
use Rattle.std.specs.List.{AllByRecursion}
use Rattle.std.proofs.lemmas.Option.{same_Some}
use Rattle.route_answers.proofs.Gathering.{all_joined}

pub of_item : {X : Type 0} (P : X → Type 0) (xs : List X) (k : ℕ) (x : X) → AllByRecursion P xs → slice_get xs k ≡ Some x → P x
of_item P [] k x all there = absurd (let no_item : None ≡ Some x = there in cc)
of_item P (y ∷ xs) zero x all there = subst P (same_Some y x there) all.0
of_item P (y ∷ xs) (suc k) x all there = of_item P xs k x all.1 there

pub all_pieces : {X Y : Type 0} (P : Y → Type 0) (g : X → List Y) (xs : List X) → AllByRecursion (λ (x : X). AllByRecursion P (g x)) xs → AllByRecursion P (flat_map g xs)
all_pieces P g [] all = tt
all_pieces P g (x ∷ xs) all = all_joined P (g x) (flat_map g xs) all.0 (all_pieces P g xs all.1)

pub all_mapped : {X Y : Type 0} (P : Y → Type 0) (h : X → Y) (xs : List X) → AllByRecursion (λ (x : X). P (h x)) xs → AllByRecursion P (map h xs)
all_mapped P h [] all = tt
all_mapped P h (x ∷ xs) all = (all.0, all_mapped P h xs all.1)

pub all_unmapped : {X Y : Type 0} (P : Y → Type 0) (h : X → Y) (xs : List X) → AllByRecursion P (map h xs) → AllByRecursion (λ (x : X). P (h x)) xs
all_unmapped P h [] all = tt
all_unmapped P h (x ∷ xs) all = (all.0, all_unmapped P h xs all.1)

kept_all : {X : Type 0} (P : X → Type 0) (x : X) (xs : List X) (b : Bool) → P x → AllByRecursion P xs → AllByRecursion P (cond b (x ∷ xs) xs)
kept_all P x xs true h all = (h, all)
kept_all P x xs false h all = all

pub all_kept : {X : Type 0} (P : X → Type 0) (t : X → Bool) (xs : List X) → AllByRecursion P xs → AllByRecursion P (filter t xs)
all_kept P t [] all = tt
all_kept P t (x ∷ xs) all = kept_all P x (filter t xs) (t x) all.0 (all_kept P t xs all.1)

pub all_front : {X : Type 0} (P : X → Type 0) (i : ℕ) (xs : List X) → AllByRecursion P xs → AllByRecursion P (take i xs)
all_front P zero xs all = tt
all_front P (suc i) [] all = tt
all_front P (suc i) (x ∷ xs) all = (all.0, all_front P i xs all.1)

pub all_by : {X : Type 0} (P Q : X → Type 0) → ((x : X) → P x → Q x) → (xs : List X) → AllByRecursion P xs → AllByRecursion Q xs
all_by P Q f [] all = tt
all_by P Q f (x ∷ xs) all = (f x all.0, all_by P Q f xs all.1)

pub all_at_all : {X : Type 0} (P : X → Type 0) → ((x : X) → P x) → (xs : List X) → AllByRecursion P xs
all_at_all P f [] = tt
all_at_all P f (x ∷ xs) = (f x, all_at_all P f xs)
