-- A row and the table of its places: who is joined with a member stands at the neighbours of the member's place.
use Rattle.std.proofs.Common.{◌≡◌, ◌≢◌, ℕ, ◌+◌, ◌<◌, ◌≤◌, zero, suc, Bool, true, false, cond, ◌==◌, List, [], ◌∷◌, ◌++◌, Some, length, map, filter, get_or, take, refl, sym, ap, ◌∙◌, arith, inl, inr, true≢false}
use Rattle.std.specs.Prelude.{slice_get, slice_index_or, Contains, IsTrue}
use Rattle.std.specs.List.Sorted.{IsStrictlyIncreasing}
use Rattle.std.proofs.Math.Seq.{take-suc, take-length}
use Rattle.std.proofs.lemmas.Bool.{cases_eq, eq-eqb, ne_eqb}
use Rattle.std.proofs.lemmas.List.{map-append}
use Rattle.std.proofs.lemmas.List.Elements.{filter-append}
use Rattle.std.proofs.lemmas.Map.Keys.{sorted_from_strictly_increasing}
use Rattle.std.proofs.lemmas.Option.{slice_get_within, slice_get-get_or, get_or_from_slice_get}
use Rattle.rule_reports.proofs.Members.{Contains-nil, Contains-cons_cases}
use Rattle.unit_sight.specs.Tables.{joins, places, neighbours}
use Rattle.unit_sight.proofs.Counts.{filter_same}
use Rattle.unit_sight.proofs.TableLemmas.{length_places, get_or_places}
use Rattle.venue_nodes.proofs.Items.{member_at, at_member}
use Rattle.venue_nodes.proofs.Places.{one_number}
use Rattle.link_graph.specs.declared.parts.Crossing.{Crossing}
use Rattle.link_graph.specs.Cores.{place_in, joined_in, IsTableOf}
use Rattle.link_graph.proofs.Items.{from_filter}

-- ---- where a member stands

here_step : (row : List ℕ) (m a p : ℕ) → m ≡ a → slice_get (m ∷ row) (cond (m == a) 0 (p + 1)) ≡ Some a
here_step row m a p same = rw (eq-eqb m a same) (ap (λ x. Some x) same)

later_step : (row : List ℕ) (m a p : ℕ) → m ≢ a → slice_get row p ≡ Some a → slice_get (m ∷ row) (cond (m == a) 0 (p + 1)) ≡ Some a
later_step row m a p apart at =
    let next : p + 1 ≡ suc p = omega arith in
    rw (ne_eqb m a apart) (ap (slice_get (m ∷ row)) next ∙ at)

pub at_place : (row : List ℕ) (a : ℕ) → Contains row a → slice_get row (place_in row a) ≡ Some a
at_place [] a h = absurd (Contains-nil a h)
at_place (m ∷ row) a h = elim (cases_eq m a) [
  | inl same ↦ here_step row m a (place_in row a) same
  | inr apart ↦ later_step row m a (place_in row a) apart (at_place row a (elim (Contains-cons_cases m row a h) [
    | inl here ↦ absurd (apart here)
    | inr there ↦ there
  ]))
]

pub place_at : (row : List ℕ) (i a : ℕ) → IsStrictlyIncreasing row → slice_get row i ≡ Some a → place_in row a ≡ i
place_at row i a rise at =
    one_number row (place_in row a) i a (sorted_from_strictly_increasing row rise) (at_place row a (member_at row i a at)) at

-- ---- a list filtered is filtered by place

one_kept : (f : ℕ → ℕ) (b : Bool) (j : ℕ) → cond b (f j ∷ []) [] ≡ map f (cond b (j ∷ []) [])
one_kept f true j = refl
one_kept f false j = refl

kept_by_place : (t : ℕ → Bool) (row : List ℕ) (n : ℕ) → n ≤ length row → filter t (take n row) ≡ map (λ j. get_or row j 0) (filter (λ j. t (get_or row j 0)) (places n))
kept_by_place t row zero h = refl
kept_by_place t row (suc n) h =
    let at : ℕ → ℕ = λ j. get_or row j 0 in
    let kept : ℕ → Bool = λ j. t (at j) in
    ap (filter t) (take-suc row n 0 (omega arith))
    ∙ filter-append t (take n row) (at n ∷ [])
    ∙ ap (λ (xs : List ℕ). xs ++ cond (kept n) (at n ∷ []) []) (kept_by_place t row n (omega arith))
    ∙ ap (λ (xs : List ℕ). map at (filter kept (places n)) ++ xs) (one_kept at (kept n) n)
    ∙ sym (map-append at (filter kept (places n)) (cond (kept n) (n ∷ []) []))
    ∙ ap (map at) (sym (filter-append kept (places n) (n ∷ [])))

-- ---- who is joined

pub same_place : (crossing : Crossing) (row : List ℕ) (i a j : ℕ) → IsStrictlyIncreasing row → slice_get row i ≡ Some a → j < length row → joined_in crossing row a (get_or row j 0) ≡ joins crossing.sights i j
unfolding joined_in
same_place crossing row i a j rise at low =
    ap (λ (p : ℕ). joins crossing.sights p (place_in row (get_or row j 0))) (place_at row i a rise at)
    ∙ ap (joins crossing.sights i) (place_at row j (get_or row j 0) rise (slice_get-get_or row j 0 low))

pub joined_row : (crossing : Crossing) (row : List ℕ) (i a : ℕ) → IsStrictlyIncreasing row → IsTableOf crossing row → slice_get row i ≡ Some a → filter (joined_in crossing row a) row ≡ map (λ j. slice_index_or row j 0) (neighbours crossing.sights i)
joined_row crossing row i a rise table at =
    let read : ℕ → ℕ = λ j. get_or row j 0 in
    ap (filter (joined_in crossing row a)) (sym (take-length row))
    ∙ kept_by_place (joined_in crossing row a) row (length row) (omega arith)
    ∙ ap (map read) (
    filter_same (λ j. joined_in crossing row a (read j)) (joins crossing.sights i) (length row) (λ j low. same_place crossing row i a j rise at low)
    ∙ ap (λ (n : ℕ). filter (joins crossing.sights i) (places n)) (sym table.long)
    )

pub joined_in_apart : (crossing : Crossing) (row : List ℕ) (a b : ℕ) → IsTableOf crossing row → IsTrue (joined_in crossing row a b) → a ≢ b
unfolding joined_in
joined_in_apart crossing row a b table h e =
    true≢false (sym h ∙ ap (λ (c : ℕ). joins crossing.sights (place_in row a) (place_in row c)) (sym e) ∙ table.apart (place_in row a))

-- ---- neighbours are places

pub neighbour_within : (table : List (List Bool)) (i k j : ℕ) → slice_get (neighbours table i) k ≡ Some j → j < length table
neighbour_within table i k j h =
    let all = places (length table) in
    let at = at_member all j (from_filter (joins table i) all j (member_at (neighbours table i) k j h)).0 in
    let within = slice_get_within all at.0 j at.1 in
    let long = length_places (length table) in
    let read = get_or_from_slice_get all at.0 j 0 at.1 in
    let is = get_or_places (length table) at.0 0 (omega (arith, within, long)) in
    omega (arith, within, long, read, is)
