-- Where the row of a pair stands among those of all pairs of numbers that rise.
use Rattle.std.proofs.Common.{◌≡◌, ◌≢◌, ℕ, zero, suc, ◌+◌, ◌*◌, ◌-◌, ◌<◌, ◌≤◌, List, [], ◌∷◌, Option, Some, None, length, take, map, filter, flat_map, sym, ap, ◌∙◌, ⊎_elim, arith}
use Rattle.std.specs.Prelude.{option_map, slice_get}
use Rattle.std.specs.List.{AllByRecursion}
use Rattle.std.specs.List.Sorted.{IsStrictlyIncreasing}
use Rattle.std.proofs.lemmas.Bool.{cases_lt}
use Rattle.std.proofs.lemmas.List.{length-take-le}
use Rattle.std.proofs.lemmas.List.Kept.{IsStrictlyIncreasing-filter}
use Rattle.std.proofs.lemmas.Option.{same_Some, slice_get-map, slice_get_within}
use Rattle.route_answers.specs.Passing.{other_than}
use Rattle.route_certificate.specs.declared.table.TableLink.{TableLink}
use Rattle.route_answers.specs.Places.{IsFirstPlace}
use Rattle.route_answers.proofs.Everywhere.{all_at_all, all_by, all_front, all_mapped, all_pieces}
use Rattle.route_answers.proofs.FirstRows.{Lacks, first_piece, moved}
use Rattle.route_answers.proofs.Pairs.{each_less, even}
use Rattle.route_answers.proofs.Rising.{Rises, lesser_before, one_place, other_before, other_behind, rises_from}

-- the row of a pair starts and ends at its numbers
pub record IsRowOf (f : ℕ → ℕ → TableLink) : Type 0 where
  pub from : (a b : ℕ) → (f a b).from ≡ a
  pub to : (a b : ℕ) → (f a b).to ≡ b

-- ---- the pairs from one number

number_at : (f : ℕ → ℕ → TableLink) → IsRowOf f → (a : ℕ) (ys : List ℕ) (j : ℕ) (row : TableLink) → slice_get (map (f a) ys) j ≡ Some row → slice_get ys j ≡ Some row.to
number_at f is a [] j row at = absurd (let no_item : None ≡ Some row = at in cc)
number_at f is a (y ∷ ys) zero row at = ap (λ (v : ℕ). Some v) (sym (is.to a y) ∙ ap (λ (r : TableLink). r.to) (same_Some (f a y) row at))
number_at f is a (y ∷ ys) (suc j) row at = number_at f is a ys j row at

pub first_to : (f : ℕ → ℕ → TableLink) → IsRowOf f → (a : ℕ) (ys : List ℕ) (k b : ℕ) → Rises ys → slice_get ys k ≡ Some b → IsFirstPlace (map (f a) ys) (f a b) k
first_to f is a ys k b up at = record {
  there = slice_get-map (f a) ys k ∙ ap (λ (v : Option ℕ). option_map (f a) v) at;
  first = λ j here. one_place ys k j b up at (number_at f is a ys j (f a b) here ∙ ap (λ (v : ℕ). Some v) (is.to a b));
}

-- ---- all pairs

-- the pairs from lesser numbers start elsewhere
pub lacks_pairs : (f : ℕ → ℕ → TableLink) → IsRowOf f → (h : ℕ → List ℕ) (front : List ℕ) (a b : ℕ) → AllByRecursion (λ (y : ℕ). y < a) front → Lacks (flat_map (λ (c : ℕ). map (f c) (h c)) front) (f a b)
lacks_pairs f is h front a b less =
    all_pieces (λ (row : TableLink). row ≢ f a b) (λ (c : ℕ). map (f c) (h c)) front
    (all_by (λ (c : ℕ). c < a) (λ (c : ℕ). Lacks (map (f c) (h c)) (f a b))
    (λ c below. all_mapped (λ (row : TableLink). row ≢ f a b) (f c) (h c)
    (all_at_all (λ (d : ℕ). f c d ≢ f a b)
    (λ d e. let same : c ≡ a = sym (is.from c d) ∙ ap (λ (row : TableLink). row.from) e ∙ is.from a b in omega (arith, below, same))
    (h c)))
    front less)

-- by the place of its first, and of its second among the others
pair_by : (f : ℕ → ℕ → TableLink) → IsRowOf f → (xs : List ℕ) (i a b k : ℕ) → IsStrictlyIncreasing xs → slice_get xs i ≡ Some a → slice_get (filter (other_than a) xs) k ≡ Some b
    → IsFirstPlace (flat_map (λ (c : ℕ). map (f c) (filter (other_than c) xs)) xs) (f a b) (i * (length xs - 1) + k)
pair_by f is xs i a b k rise here there =
    let g : ℕ → List TableLink = λ c. map (f c) (filter (other_than c) xs) in
    let front = even g (length xs - 1) (take i xs) (all_front (λ (c : ℕ). length (g c) ≡ length xs - 1) i xs (each_less f xs rise)) in
    let count : length (take i xs) ≡ i = length-take-le i xs (let within = slice_get_within xs i a here in omega (arith, within)) in
    moved (flat_map g xs) (f a b) (length (flat_map g (take i xs)) + k) (i * (length xs - 1) + k)
    (ap (λ (n : ℕ). n + k) (front ∙ ap (λ (n : ℕ). n * (length xs - 1)) count))
    (first_piece g xs i a (f a b) k here
    (lacks_pairs f is (λ (c : ℕ). filter (other_than c) xs) (take i xs) a b (lesser_before xs i a (rises_from xs rise) here))
    (first_to f is a (filter (other_than a) xs) k b (rises_from (filter (other_than a) xs) (IsStrictlyIncreasing-filter (other_than a) xs rise)) there))

-- numbers that differ stand at places that do
ends_differ : (xs : List ℕ) (i j a b : ℕ) → slice_get xs i ≡ Some a → slice_get xs j ≡ Some b → a ≢ b → j ≤ i → j < i
ends_differ xs i j a b here there differ most =
    ⊎_elim
    (λ (less : j < i). less)
    (λ (more : i ≤ j).
    let same : j ≡ i = omega (arith, most, more) in
    absurd (differ (same_Some a b (sym here ∙ ap (λ (n : ℕ). slice_get xs n) (sym same) ∙ there))))
    (cases_lt j i)

-- by the places of both
pub first_pair : (f : ℕ → ℕ → TableLink) → IsRowOf f → (xs : List ℕ) (i j a b place : ℕ) → IsStrictlyIncreasing xs → slice_get xs i ≡ Some a → slice_get xs j ≡ Some b → a ≢ b
    → (j ≤ i → place ≡ i * (length xs - 1) + j) → (i < j → place ≡ i * (length xs - 1) + (j - 1))
    → IsFirstPlace (flat_map (λ (c : ℕ). map (f c) (filter (other_than c) xs)) xs) (f a b) place
first_pair f is xs i zero a b place rise here there differ before behind =
    let place_is = before (omega arith) in
    moved _ (f a b) _ place (sym place_is)
    (pair_by f is xs i a b zero rise here (other_before xs i zero a b (rises_from xs rise) here there (ends_differ xs i zero a b here there differ (omega arith))))
first_pair f is xs i (suc j) a b place rise here there differ before behind =
    ⊎_elim
    (λ (less : i < suc j).
    moved _ (f a b) _ place (let place_is = behind less in omega (arith, place_is))
    (pair_by f is xs i a b j rise here (other_behind xs i j a b (rises_from xs rise) here there (omega (arith, less)))))
    (λ (more : suc j ≤ i).
    moved _ (f a b) _ place (sym (before more))
    (pair_by f is xs i a b (suc j) rise here (other_before xs i (suc j) a b (rises_from xs rise) here there (ends_differ xs i (suc j) a b here there differ more))))
    (cases_lt i (suc j))
