-- Rows one after another, and their last cost.
use Rattle.std.proofs.Common.{◌≡◌, ℕ, ◌+◌, ◌-◌, ◌<◌, ◌≤◌, List, [], ◌∷◌, ◌++◌, Option, Some, None, length, get_or, map, take, slice_get, All, AllPairs, refl, sym, ap, subst, ◌∙◌, arith, inl, inr}
use Rattle.std.proofs.lemmas.Bool.{cases_lt}
use Rattle.std.proofs.lemmas.List.{take_more, take_all, map-append, get_or-map, length-map}
use Rattle.std.proofs.lemmas.List.Elements.{All-nil, All-push}
use Rattle.std.proofs.lemmas.Option.{same_Some, slice_get-get_or}
use Rattle.venue_types.specs.declared.link.Link.{Link}
use Rattle.nearest_laws.specs.Nearest.{Row, IsNearer, last_cost, row_costs}
use Rattle.walk_laws.specs.Reaches.{IsWithin}
use Rattle.route_search.specs.declared.reached.Reach.{Reach}
use Rattle.route_search.specs.Reaches.{bound_of, cost_of}
use Rattle.route_search.proofs.ReachCalls.{call_within}
use Rattle.nearest_place.specs.declared.entries.Entry.{Entry}
use Rattle.nearest_place.specs.declared.near.NearWalk.{NearWalk}
use Rattle.nearest_place.specs.Entries.{AreRows, IsWalked, entry_of_row}
use Rattle.nearest_place.specs.Near.{row_of}

pub rows_none : (reach : Reach) (rows : List NearWalk) → rows ≡ [] → AreRows reach [] rows
rows_none reach rows is = record {
  entries_are = ap (map entry_of_row) is;
  walked = subst (All (IsWalked reach)) (sym is) (All-nil (IsWalked reach));
}

pub rows_more : (reach : Reach) (entries : List Entry) (k : ℕ) (d : Entry) (row : NearWalk) (old new : List NearWalk) → k < length entries → AreRows reach (take k entries) old
    → entry_of_row row ≡ get_or entries k d → IsWalked reach row → new ≡ old ++ row ∷ [] → AreRows reach (take (k + 1) entries) new
rows_more reach entries k d row old new within are is walked grown = record {
  entries_are = ap (map entry_of_row) grown
      ∙ map-append entry_of_row old (row ∷ [])
      ∙ ap (λ (es : List Entry). es ++ entry_of_row row ∷ []) are.entries_are
      ∙ ap (λ (e : Entry). take k entries ++ e ∷ []) is
      ∙ sym (take_more entries k d within);
  walked = subst (All (IsWalked reach)) (sym grown) (All-push (IsWalked reach) old row are.walked walked);
}

pub rows_all : (reach : Reach) (entries : List Entry) (k : ℕ) (rows : List NearWalk) → length entries ≤ k → AreRows reach (take k entries) rows → AreRows reach entries rows
rows_all reach entries k rows past are = subst (λ (es : List Entry). AreRows reach es rows) (take_all k entries past) are

-- ---- the last cost

cost_at : (rows : List NearWalk) (k : ℕ) (d : NearWalk) → k < length rows → get_or (row_costs (map row_of rows)) k 0 ≡ (get_or rows k d).cost
cost_at rows k d within =
    get_or-map (λ (row : Row Link). row.cost) (map row_of rows) k (row_of d) 0 (omega (arith, within, length-map rows row_of))
    ∙ ap (λ (row : Row Link). row.cost) (get_or-map row_of rows k d (row_of d) within)

last_at : (rows : List NearWalk) (d : NearWalk) → 0 < length rows → last_cost (map row_of rows) ≡ (get_or rows (length rows - 1) d).cost
last_at rows d some =
    ap (λ (n : ℕ). get_or (row_costs (map row_of rows)) (n - 1) 0) (length-map rows row_of) ∙ cost_at rows (length rows - 1) d (omega arith)

pub last_some : (rows : List NearWalk) (row : NearWalk) → slice_get rows (length rows - 1) ≡ Some row → row.cost ≡ last_cost (map row_of rows)
last_some [] row is = absurd (let never : None ≡ Some row = is in cc)
last_some (x ∷ rows) row is =
    let at = slice_get-get_or (x ∷ rows) (length (x ∷ rows) - 1) x (omega arith) in
    let same : get_or (x ∷ rows) (length (x ∷ rows) - 1) x ≡ row = same_Some (get_or (x ∷ rows) (length (x ∷ rows) - 1) x) row (sym at ∙ is) in
    sym (last_at (x ∷ rows) x (omega arith) ∙ ap (λ (r : NearWalk). r.cost) same)

pub last_none : (rows : List NearWalk) → slice_get rows (length rows - 1) ≡ None → 0 ≡ last_cost (map row_of rows)
last_none [] is = refl
last_none (x ∷ rows) is =
    let at = slice_get-get_or (x ∷ rows) (length (x ∷ rows) - 1) x (omega arith) in
    let never : None ≡ Some (get_or (x ∷ rows) (length (x ∷ rows) - 1) x) = sym is ∙ at in
    absurd (cc)

-- no row costs more than the last
pub up_to_last : (rows : List NearWalk) → AllPairs (λ (row later : NearWalk). IsNearer row.cost row.node later.cost later.node) rows
    → All (λ (row : NearWalk). row.cost ≤ last_cost (map row_of rows)) rows
up_to_last rows ordered k d within =
    let last = last_at rows d (omega arith) in
    elim (cases_lt k (length rows - 1)) [
      | inl before ↦ elim (ordered k (length rows - 1) d before (omega arith)) [ inl less ↦ omega (arith, last, less) | inr (same, less) ↦ omega (arith, last, same) ]
      | inr there ↦
          (let at : k ≡ length rows - 1 = omega (arith, there, within) in
          let same : (get_or rows k d).cost ≡ (get_or rows (length rows - 1) d).cost = ap (λ (n : ℕ). (get_or rows n d).cost) at in
          omega (arith, last, same))
    ]

-- what no row costs more than, the last cost isn't above
pub last_below : (rows : List NearWalk) (c : ℕ) → All (λ (row : NearWalk). row.cost ≤ c) rows → last_cost (map row_of rows) ≤ c
last_below [] c all = omega arith
last_below (x ∷ rows) c all =
    let here : (get_or (x ∷ rows) (length (x ∷ rows) - 1) x).cost ≤ c = all (length (x ∷ rows) - 1) x (omega arith) in
    omega (arith, last_at (x ∷ rows) x (omega arith), here)

none_within : (bound : Option ℕ) → IsWithin bound 0
none_within None = tt
none_within (Some b) = omega arith

-- the last cost is within the bound
pub last_within : (reach : Reach) (rows : List NearWalk) → All (λ (row : NearWalk). cost_of reach row.node ≡ Some row.cost) rows → IsWithin (bound_of reach) (last_cost (map row_of rows))
last_within reach [] known = none_within (bound_of reach)
last_within reach (x ∷ rows) known =
    let k = length (x ∷ rows) - 1 in
    subst (IsWithin (bound_of reach)) (sym (last_at (x ∷ rows) x (omega arith)))
    (call_within reach (get_or (x ∷ rows) k x).node (get_or (x ∷ rows) k x).cost (known k x (omega arith)))
