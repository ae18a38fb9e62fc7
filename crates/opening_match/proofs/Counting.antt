-- Counts grow by one unit after the other.
use Rattle.std.proofs.Common.{◌≡◌, ℕ, Bool, true, false, true≢false, ◌+◌, ◌*◌, ◌<◌, ◌≤◌, zero, suc, List, [], ◌∷◌, ◌++◌, Some, None, length, get_or, ◌↔◌, refl, sym, ap, subst, ◌∙◌, arith, inl, inr}
use Rattle.std.specs.Prelude.{IsTrue, slice_get, if◌then◌else◌}
use Rattle.std.proofs.lemmas.Bool.{cases_lt}
use Rattle.std.proofs.lemmas.List.{length_push}
use Rattle.std.proofs.lemmas.Option.{same_Some}
use Rattle.venue_types.specs.declared.features.OpeningRow.{OpeningRow}
use Rattle.venue_types.specs.declared.features.UnitRow.{UnitRow}
use Rattle.imdf_access.specs.Categories.{is_walkable}
use Rattle.venue_nodes.specs.TouchCounts.{AreCounts, HasFull, walked_part, walked_sum}
use Rattle.venue_nodes.specs.TouchCounts.{AreMatches}
use Rattle.opening_match.proofs.Items.{at_push, item_at}

nothing_at : {X : Type 0} (k : ℕ) (x : X) → ¬ (slice_get [] k ≡ Some x)
nothing_at zero x there = let c : None ≡ Some x = there in cc
nothing_at (suc k) x there = let c : None ≡ Some x = there in cc

at_end : {X : Type 0} (xs : List X) (x : X) → slice_get (xs ++ x ∷ []) (length xs) ≡ Some x
at_end [] x = refl
at_end (y ∷ xs) x = at_end xs x

pub not_so : {P : Type 0} (b : Bool) → (IsTrue b ↔ P) → b ≡ false → ¬ P
not_so b decides is holds = true≢false (sym (decides.1 holds) ∙ is)

small_part : (b : Bool) (count : ℕ) → ¬ (IsTrue b × (4095 < count)) → (if b then count else 0) ≤ 4095
small_part true count none = elim (cases_lt 4095 count) [
  | inl over ↦ absurd (none (refl, over))
  | inr under ↦ under
]
small_part false count none = omega arith

sum_none : (units : List UnitRow) → walked_sum units [] ≡ 0
sum_none [] = refl
sum_none (unit ∷ units) = refl

sum_more : (units : List UnitRow) (counts : List ℕ) (unit : UnitRow) (count : ℕ) → slice_get units (length counts) ≡ Some unit → walked_sum units (counts ++ count ∷ []) ≡ walked_sum units counts + walked_part unit count
sum_more [] counts unit count there = absurd (nothing_at (length counts) unit there)
sum_more (u ∷ units) [] unit count there =
    let same : u ≡ unit = same_Some u unit there in
    let none = sum_none units in
    let part : walked_part u count ≡ walked_part unit count = ap (λ (v : UnitRow). walked_part v count) same in
    omega (arith, none, part)
sum_more (u ∷ units) (n ∷ counts) unit count there = let more = sum_more units counts unit count there in omega (arith, more)

-- what holds of the counts of the first units
pub record AreCounted (t : ℕ) (openings : List OpeningRow) (units : List UnitRow) (place walked : ℕ) (counts : List ℕ) : Type 0 where
  pub are : AreCounts t openings units counts
  pub long : length counts ≡ place
  pub roomy : ¬ HasFull units counts
  pub sum : walked_sum units counts ≡ walked
  pub bound : walked ≤ place * 4095

module _ (t : ℕ) (openings : List OpeningRow) (units : List UnitRow) where
  pub counted_none : (counts : List ℕ) → counts ≡ [] → AreCounted t openings units 0 0 counts
  counted_none counts none = subst (λ (ns : List ℕ). AreCounted t openings units 0 0 ns) (sym none) (record {
    are = λ k count there. absurd (nothing_at k count there);
    long = refl;
    roomy = λ h. nothing_at h.k h.count h.counted;
    sum = sum_none units;
    bound = omega arith;
  })

  counts_more : (counts : List ℕ) (unit : UnitRow) (found : List ℕ) → slice_get units (length counts) ≡ Some unit → AreMatches t openings unit found → AreCounts t openings units counts
      → AreCounts t openings units (counts ++ length found ∷ [])
  counts_more counts unit found there matched old k count at = elim (at_push counts (length found) k count at) [
    | inl was ↦ old k count was
    | inr end ↦ record { unit = unit; there = ap (λ (i : ℕ). slice_get units i) end.0 ∙ there; touched = record { places = found; are = matched; long = end.1 } }
  ]

  -- one unit more, by what the loop knows of it
  module _ (k : ℕ) (unit : UnitRow) (found counts new : List ℕ) (count : ℕ) (within : k < length units) (is : unit ≡ get_or units k unit)
      (long : length counts ≡ k) (many : count ≡ length found) (pushed : new ≡ counts ++ count ∷ []) (matched : AreMatches t openings unit found) where
    there : slice_get units (length counts) ≡ Some unit
    there = ap (λ (i : ℕ). slice_get units i) long ∙ item_at units k unit within is

    pub counts_next : AreCounts t openings units counts → AreCounts t openings units new
    counts_next old =
        subst (λ (ns : List ℕ). AreCounts t openings units ns) (sym (pushed ∙ ap (λ (n : ℕ). counts ++ n ∷ []) many)) (counts_more counts unit found there matched old)

    -- the unit is full
    pub full_next : (IsTrue (is_walkable unit.category) × (4095 < count)) → HasFull units new
    full_next full = record {
      k = length counts;
      unit = unit;
      count = count;
      there = there;
      counted = ap (λ (ns : List ℕ). slice_get ns (length counts)) pushed ∙ at_end counts count;
      walkable = full.0;
      full = full.1;
    }

    roomy_next : ¬ (IsTrue (is_walkable unit.category) × (4095 < count)) → ¬ HasFull units counts → ¬ HasFull units new
    roomy_next none old h = elim (at_push counts count h.k h.count (ap (λ (ns : List ℕ). slice_get ns h.k) (sym pushed) ∙ h.counted)) [
      | inl was ↦ old (record { k = h.k; unit = h.unit; count = h.count; there = h.there; counted = was; walkable = h.walkable; full = h.full })
      | inr end ↦
          let same : h.unit ≡ unit = same_Some h.unit unit (sym h.there ∙ ap (λ (i : ℕ). slice_get units i) end.0 ∙ there) in
          none (subst (λ (u : UnitRow). IsTrue (is_walkable u.category)) same h.walkable, omega (arith, h.full, end.1))
    ]

    pub counted_next : (walked more : ℕ) → ¬ (IsTrue (is_walkable unit.category) × (4095 < count)) → more ≡ walked + walked_part unit count
        → AreCounted t openings units k walked counts → AreCounted t openings units (k + 1) more new
    counted_next walked more none next old =
        let part = small_part (is_walkable unit.category) count none in
        let sum = sum_more units counts unit count there in
        record {
          are = counts_next old.are;
          long = ap length pushed ∙ length_push counts count ∙ ap (λ (n : ℕ). n + 1) long;
          roomy = roomy_next none old.roomy;
          sum = ap (walked_sum units) pushed ∙ sum ∙ ap (λ (n : ℕ). n + walked_part unit count) old.sum ∙ sym next;
          bound = omega (arith, part, next, old.bound);
        }
