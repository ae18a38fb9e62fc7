-- Where the rows of units begin.
use Rattle.std.proofs.Common.{Bool, ◌≡◌, ℕ, ◌<◌, ◌≤◌, zero, suc, List, [], ◌∷◌, ◌++◌, length, map, get_or, Some, None, refl, sym, ap, ◌∙◌, subst, arith, ◌⊎◌, inl, inr, ⊎_elim}
use Rattle.std.specs.Prelude.{option_map, Option, slice_get}
use Rattle.std.specs.List.Sorted.{IsNonDecreasingBy, IsStrictlyIncreasing}
use Rattle.std.proofs.lemmas.Bool.{cases_lt}
use Rattle.std.proofs.lemmas.Option.{same_Some, slice_get-get_or, slice_get-map}
use Rattle.venue_types.specs.declared.settings.Profile.{Profile}
use Rattle.link_graph.specs.declared.areas.Area.{Area}
use Rattle.link_graph.specs.declared.graph.Graph.{Graph}
use Rattle.link_graph.specs.Areas.{areas}
use Rattle.route_answers.specs.declared.starts.AreaStart.{AreaStart}
use Rattle.route_answers.specs.Placing.{IsStart, rows_before}
use Rattle.route_answers.proofs.Gathering.{at_place}
use Rattle.route_answers.proofs.Rising.{less_at, rises_from}
use Rattle.route_answers.proofs.Units.{number}

-- ---- one unit more

pushed_cases : {X : Type 0} (xs : List X) (y : X) (k : ℕ) (x : X) → slice_get (xs ++ y ∷ []) k ≡ Some x → (slice_get xs k ≡ Some x) ⊎ ((k ≡ length xs) × (y ≡ x))
pushed_cases [] y zero x at = inr (refl, same_Some y x at)
pushed_cases [] y (suc k) x at = absurd (let no_item : None ≡ Some x = at in cc)
pushed_cases (z ∷ xs) y zero x at = inl at
pushed_cases (z ∷ xs) y (suc k) x at = elim (pushed_cases xs y k x at) [
  | inl here ↦ inl here
  | inr last ↦ let count = last.0 in inr (omega (arith, count), last.1)
]

pub start_is : (graph : Graph) (profile : Profile) (w : ℕ) (start : AreaStart) (unit : Area) (members : List ℕ) (table : List (List Bool)) → slice_get (areas graph) w ≡ Some (unit, members, table) → start.area ≡ w → start.via ≡ unit.via → start.first ≡ rows_before graph profile w
    → IsStart graph profile w start
start_is graph profile w start unit members table there own via first = record {
  area = own;
  via = λ area at. via ∙ ap (λ (a : Area × List ℕ × List (List Bool)). a.0.via) (same_Some (unit, members, table) area (sym there ∙ at));
  first = first;
}

pub starts_more : (graph : Graph) (profile : Profile) (old new : List AreaStart) (w : ℕ) (start : AreaStart) → length old ≡ w → ((k : ℕ) (s : AreaStart) → slice_get old k ≡ Some s → IsStart graph profile k s) → new ≡ old ++ start ∷ []
    → IsStart graph profile w start → (k : ℕ) (s : AreaStart) → slice_get new k ≡ Some s → IsStart graph profile k s
starts_more graph profile old new w start count before grown is = λ k s at.
    elim (pushed_cases old start k s (ap (λ (ss : List AreaStart). slice_get ss k) (sym grown) ∙ at)) [
      | inl here ↦ before k s here
      | inr last ↦ subst (λ (n : ℕ). IsStart graph profile n s) (sym count ∙ sym last.0) (subst (IsStart graph profile w) last.1 is)
    ]

-- ---- they rise

via_at : (graph : Graph) (profile : Profile) (starts : List AreaStart) → length starts ≡ length (areas graph) → ((k : ℕ) (s : AreaStart) → slice_get starts k ≡ Some s → IsStart graph profile k s) → (k : ℕ) (d : AreaStart) → k < length starts
    → slice_get (map number (areas graph)) k ≡ Some (get_or starts k d).via
via_at graph profile starts count are k d within =
    let start = get_or starts k d in
    let is : IsStart graph profile k start = are k start (slice_get-get_or starts k d within) in
    let area = at_place (areas graph) k (omega (arith, within, count)) in
    slice_get-map number (areas graph) k ∙ ap (λ (found : Option (Area × List ℕ × List (List Bool))). option_map number found) area.1 ∙ ap (λ (n : ℕ). Some n) (sym (is.via area.0 area.1))

pub starts_rise : (graph : Graph) (profile : Profile) (starts : List AreaStart) → length starts ≡ length (areas graph) → ((k : ℕ) (s : AreaStart) → slice_get starts k ≡ Some s → IsStart graph profile k s) → IsStrictlyIncreasing (map number (areas graph))
    → IsNonDecreasingBy (λ (start : AreaStart). start.via) starts
starts_rise graph profile starts count are rise = λ i j d from within.
    ⊎_elim
    (λ (less : i < j).
    let up = less_at (map number (areas graph)) i j (get_or starts i d).via (get_or starts j d).via (rises_from (map number (areas graph)) rise)
    (via_at graph profile starts count are i d (omega (arith, less, within))) (via_at graph profile starts count are j d within) less in
    omega (arith, up))
    (λ (most : j ≤ i).
    let same : i ≡ j = omega (arith, from, most) in
    let equal : (get_or starts i d).via ≡ (get_or starts j d).via = ap (λ (n : ℕ). (get_or starts n d).via) same in
    omega (arith, equal))
    (cases_lt i j)
