-- How much there is to look through: row by row, and unit by unit.
use Rattle.std.proofs.Common.{◌≡◌, ℕ, Bool, true, false, cond, not, nat_lt, ◌↔◌, ◌+◌, ◌*◌, ◌≤◌, ◌<◌, zero, suc, List, [], ◌∷◌, Option, Some, None, length, map, filter, take, if◌then◌else◌, refl, sym, ap, subst, ◌∙◌, arith}
use Rattle.std.specs.Prelude.{All, IsTrue, slice_get, sum_by}
use Rattle.std.proofs.Math.Nat.{mul-le-mul}
use Rattle.std.proofs.lemmas.Bool.Decides.{nat_tests}
use Rattle.std.proofs.lemmas.List.Elements.{All-contains}
use Rattle.std.proofs.lemmas.List.Sums.{sum_by-cons}
use Rattle.std.proofs.lemmas.Option.{same_Some}
use Rattle.venue_types.proofs.Items.{member_at}
use Rattle.venue_types.specs.declared.features.Features.{Features}
use Rattle.venue_types.specs.declared.features.UnitRow.{UnitRow}
use Rattle.venue_types.specs.declared.settings.Settings.{Settings}
use Rattle.plane_exact.specs.Figure.{all_edges, vertices}
use Rattle.plane_exact.proofs.CornerCounts.{edges_few}
use Rattle.venue_nodes.specs.declared.members.Rows.{Rows}
use Rattle.venue_nodes.specs.Crowds.{sight_at, sight_of}
use Rattle.venue_nodes.specs.Limits.{sight_sum}
use Rattle.venue_nodes.specs.Members.{members, places_where}
use Rattle.venue_nodes.specs.Naming.{can_walk}
use Rattle.venue_nodes.specs.Nodes.{carries}
use Rattle.venue_nodes.specs.Rows.{AreRowsOf, row_list, unit_indexes}

-- the sum over rows, each with its unit's index
abbrev pub sights : List UnitRow → List ℕ → List (List ℕ) → ℕ
sights units [] rows = 0
sights units (k ∷ ks) [] = 0
sights units (k ∷ ks) (row ∷ rows) = sight_at units k (length row) + sights units ks rows

-- ---- one row more

only_one : (a b : ℕ) → a ≡ b → a + 0 ≡ 0 + b
only_one a b e = omega (arith, e)

one_behind : (a b c d : ℕ) → b ≡ c + d → a + b ≡ a + c + d
one_behind a b c d e = omega (arith, e)

sights_next : (units : List UnitRow) (ks : List ℕ) (rows : List (List ℕ)) (w k : ℕ) (row : List ℕ) → slice_get ks w ≡ Some k → slice_get rows w ≡ Some row
    → sights units (take (suc w) ks) (take (suc w) rows) ≡ sights units (take w ks) (take w rows) + sight_at units k (length row)
sights_next units [] rows w k row at there = absurd (let no : None ≡ Some k = at in cc)
sights_next units (j ∷ ks) [] w k row at there = absurd (let no : None ≡ Some row = there in cc)
sights_next units (j ∷ ks) (r ∷ rows) zero k row at there =
    only_one (sight_at units j (length r)) (sight_at units k (length row)) (ap (λ (i : ℕ). sight_at units i (length r)) (same_Some j k at) ∙ ap (λ (q : List ℕ). sight_at units k (length q)) (same_Some r row there))
sights_next units (j ∷ ks) (r ∷ rows) (suc w) k row at there =
    one_behind (sight_at units j (length r)) (sights units (take (suc w) ks) (take (suc w) rows)) (sights units (take w ks) (take w rows)) (sight_at units k (length row)) (sights_next units ks rows w k row at there)

pub sights_more : (units : List UnitRow) (ks : List ℕ) (rows : List (List ℕ)) (w k : ℕ) (row : List ℕ) → slice_get ks w ≡ Some k → slice_get rows w ≡ Some row
    → sights units (take (w + 1) ks) (take (w + 1) rows) ≡ sights units (take w ks) (take w rows) + sight_at units k (length row)
sights_more units ks rows w k row at there =
    let on : suc w ≡ w + 1 = omega arith in
    subst (λ (v : ℕ). sights units (take v ks) (take v rows) ≡ sights units (take w ks) (take w rows) + sight_at units k (length row)) on (sights_next units ks rows w k row at there)

-- all rows are as many as there are
pub sights_whole : (units : List UnitRow) (ks : List ℕ) (rows : List (List ℕ)) (w : ℕ) → length rows ≤ w → sights units (take w ks) (take w rows) ≡ sights units ks rows
sights_whole units [] rows zero all = refl
sights_whole units [] rows (suc w) all = refl
sights_whole units (k ∷ ks) [] zero all = refl
sights_whole units (k ∷ ks) [] (suc w) all = refl
sights_whole units (k ∷ ks) (row ∷ rows) zero all = absurd (omega (arith, all))
sights_whole units (k ∷ ks) (row ∷ rows) (suc w) all = ap (λ (n : ℕ). sight_at units k (length row) + n) (sights_whole units ks rows w (omega (arith, all)))

-- ---- how much at most

few_in : (b : Bool) (square edges : ℕ) → edges ≤ 1000000 → (if b then 0 else square * edges) ≤ square * 1000000
few_in true square edges few = omega arith
few_in false square edges few = let same : square ≤ square = omega arith in mul-le-mul same few

few_of : (u : UnitRow) (count : ℕ) → length (vertices u.shape) ≤ 1000000 → sight_of u count ≤ count * count * 1000000
few_of u count few = let edges = edges_few u.shape in few_in (carries u) (count * count) (length (all_edges u.shape)) (omega (arith, edges, few))

few_there : (o : Option UnitRow) (count : ℕ) → ((u : UnitRow) → o ≡ Some u → length (vertices u.shape) ≤ 1000000) → (elim o [ None ↦ 0 | Some u ↦ sight_of u count ]) ≤ count * count * 1000000
few_there None count few = omega arith
few_there (Some u) count few = few_of u count (few u refl)

pub few_sight : (units : List UnitRow) (k count : ℕ) → All (λ (row : UnitRow). length (vertices row.shape) ≤ 1000000) units → sight_at units k count ≤ count * count * 1000000
few_sight units k count few = few_there (slice_get units k) count (λ u at. All-contains (λ (row : UnitRow). length (vertices row.shape) ≤ 1000000) units u few (member_at units k u at))

-- ---- as a sum over units

module _ (g : UnitRow → List ℕ) (all : List UnitRow) where
  abbrev much : UnitRow → ℕ
  much u = length (g u) * length (g u) * length (all_edges u.shape)

  abbrev stands : UnitRow → Bool
  stands u = not (carries u)

  unless_carried : (b : Bool) (x : UnitRow) (kept : List UnitRow) (rest : ℕ) → rest ≡ sum_by much kept → (if b then 0 else much x) + rest ≡ sum_by much (cond (not b) (x ∷ kept) kept)
  unless_carried true x kept rest e = omega (arith, e)
  unless_carried false x kept rest e = ap (λ (n : ℕ). much x + n) e ∙ sym (sum_by-cons much x kept)

  if_walked : (b : Bool) (n : ℕ) (x : UnitRow) (kept : List UnitRow) (places : List ℕ) → slice_get all n ≡ Some x → sights all places (map g kept) ≡ sum_by much (filter stands kept)
      → sights all (cond b (n ∷ places) places) (map g (cond b (x ∷ kept) kept)) ≡ sum_by much (filter stands (cond b (x ∷ kept) kept))
  if_walked false n x kept places at e = e
  if_walked true n x kept places at e =
      ap (λ (o : Option UnitRow). (elim o [ None ↦ 0 | Some u ↦ sight_of u (length (g x)) ]) + sights all places (map g kept)) at
      ∙ unless_carried (carries x) x (filter stands kept) (sights all places (map g kept)) e

  kept_sights : (n : ℕ) (xs : List UnitRow) → ((k : ℕ) → slice_get all (n + k) ≡ slice_get xs k) → sights all (places_where can_walk n xs) (map g (filter can_walk xs)) ≡ sum_by much (filter stands (filter can_walk xs))
  kept_sights n [] same = refl
  kept_sights n (x ∷ xs) same =
      let start : n + 0 ≡ n = omega arith in
      let here : slice_get all n ≡ Some x = subst (λ (m : ℕ). slice_get all m ≡ Some x) start (same 0) in
      if_walked (can_walk x) n x (filter can_walk xs) (places_where can_walk (n + 1) xs) here
      (kept_sights (n + 1) xs (λ k. let on : n + suc k ≡ n + 1 + k = omega arith in subst (λ (m : ℕ). slice_get all m ≡ slice_get xs k) on (same (suc k))))

pub sights_are : (features : Features) (settings : Settings) (rows : Rows) → AreRowsOf features settings rows → sights features.units (unit_indexes rows) (row_list rows) ≡ sight_sum features settings
sights_are features settings rows are =
    ap (λ (ks : List ℕ). sights features.units ks (row_list rows)) are.units_are
    ∙ ap (sights features.units (places_where can_walk 0 features.units)) are.members_are
    ∙ kept_sights (members features settings) features.units 0 features.units (λ k. let same : 0 + k ≡ k = omega arith in ap (slice_get features.units) same)

pub passes_same : (sum whole : ℕ) → sum ≡ whole → IsTrue (nat_lt 2000000000 sum) ↔ (2000000000 < whole)
passes_same sum whole e = (λ over. grind (arith, nat_tests), λ over. grind (arith, nat_tests))
