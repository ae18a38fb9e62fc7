-- Rows grow by one unit after the other.
use Rattle.std.proofs.Common.{◌≡◌, ℕ, ◌+◌, ◌<◌, ◌≤◌, zero, suc, List, [], ◌∷◌, ◌++◌, Some, None, length, get_or, take, replicate, ◌↔◌, refl, sym, ap, subst, ◌∙◌, arith, inl, inr, All}
use Rattle.std.specs.Prelude.{Contains, slice_get}
use Rattle.std.specs.List.Sorted.{IsStrictlyIncreasing}
use Rattle.std.proofs.lemmas.Bool.{cases_lt}
use Rattle.std.proofs.lemmas.List.{take_all, length-replicate}
use Rattle.std.proofs.lemmas.List.Elements.{All-replicate, All-contains, Contains-append_left, Contains-push, Contains-push_cases, Contains-get_or}
use Rattle.std.proofs.lemmas.Option.{slice_get_within, slice_get-get_or, same_Some}
use Rattle.venue_types.proofs.Items.{member_at, Contains-nil, IsStrictlyIncreasing-push}
use Rattle.venue_types.specs.declared.features.Features.{Features}
use Rattle.venue_types.specs.declared.features.OpeningRow.{OpeningRow}
use Rattle.venue_types.specs.declared.features.UnitRow.{UnitRow}
use Rattle.venue_types.specs.declared.link.Touches as touching
use Rattle.plane_exact.specs.Opening.{AreTouches}
use Rattle.opening_match.specs.declared.matches.Matches.{Matches}
use Rattle.opening_match.specs.declared.matches.Matches.TheVariants.{Each, Many}
use Rattle.venue_nodes.specs.TouchCounts.{TouchFew, TouchMany}
use Rattle.opening_match.specs.Kept.{AreKept, AreKeptOf}
use Rattle.opening_match.specs.Places.{AreDistinct}
use Rattle.venue_nodes.specs.TouchCounts.{TouchesAt, AreMatches}
use Rattle.opening_match.specs.Rows.{GainsAt, GainsUnit, HaveMatch, AreRowsBelow}
use Rattle.opening_match.proofs.Items.{some_at, item_at, stands, one_more, apart_before}

-- ---- one unit, row by row

pub gains_none : (unit : ℕ) (rows : List (List ℕ)) → GainsUnit unit [] rows rows
gains_none unit rows = record { count = refl; chosen = λ o row h there. absurd (Contains-nil o h); others = λ o missing. refl }

gains_one : (unit : ℕ) (before : List ℕ) (place : ℕ) (old mid new : List (List ℕ)) → ¬ Contains before place → GainsUnit unit before old mid → GainsAt place unit mid new → GainsUnit unit (before ++ place ∷ []) old new
gains_one unit before place old mid new apart first one = record {
  count = one.count ∙ first.count;
  chosen = λ o row h there. elim (Contains-push_cases before place o h) [
    | inl was ↦ one.others o (λ same. apart (subst (λ (k : ℕ). Contains before k) same was)) ∙ first.chosen o row was there
    | inr here ↦ subst (λ (k : ℕ). slice_get new k ≡ Some (row ++ unit ∷ [])) here (one.chosen row (first.others place apart ∙ ap (λ (k : ℕ). slice_get old k) here ∙ there))
  ];
  others = λ o missing.
      one.others o (λ same. missing (subst (λ (k : ℕ). Contains (before ++ place ∷ []) k) (sym same) (Contains-push before place)))
      ∙ first.others o (λ was. missing (Contains-append_left before (place ∷ []) o was));
}

pub gains_more : (unit : ℕ) (places : List ℕ) (i : ℕ) (place : ℕ) (old mid new : List (List ℕ)) → AreDistinct places → i < length places → place ≡ get_or places i place → GainsUnit unit (take i places) old mid → GainsAt place unit mid new → GainsUnit unit (take (i + 1) places) old new
gains_more unit places i place old mid new distinct within is first one =
    subst (λ (list : List ℕ). GainsUnit unit list old new) (sym (one_more places i place within is))
    (gains_one unit (take i places) place old mid new (λ h. apart_before (λ (k : ℕ). k) places i place distinct within is place h refl) first one)

pub gains_all : (unit : ℕ) (places : List ℕ) (i : ℕ) (old new : List (List ℕ)) → length places ≤ i → GainsUnit unit (take i places) old new → GainsUnit unit places old new
gains_all unit places i old new past gains = subst (λ (list : List ℕ). GainsUnit unit list old new) (take_all i places past) gains

-- ---- unit after unit

none_in : (n o : ℕ) (row : List ℕ) → slice_get (replicate n []) o ≡ Some row → row ≡ []
none_in zero o row there = absurd (let c : None ≡ Some row = there in cc)
none_in (suc n) zero row there = sym (same_Some [] row there)
none_in (suc n) (suc o) row there = none_in n o row there

pub below_none : (t : ℕ) (openings : List OpeningRow) (units : List UnitRow) (n : ℕ) (rows : List (List ℕ)) → n ≡ length openings → rows ≡ replicate n [] → AreRowsBelow t openings units 0 rows
below_none t openings units n rows count is = subst (λ (list : List (List ℕ)). AreRowsBelow t openings units 0 list) (sym is) (record {
  all = length-replicate n [] ∙ count;
  rise = All-replicate (λ (row : List ℕ). IsStrictlyIncreasing row) n [] (λ k within. absurd (omega (arith, within)));
  exact = λ o u row there. (
    (λ h. absurd (Contains-nil u (subst (λ (list : List ℕ). Contains list u) (none_in n o row there) h))),
    (λ h. absurd (omega (arith, h.0))),
  );
})

match_of : (t : ℕ) (openings : List OpeningRow) (units : List UnitRow) (k : ℕ) (unit : UnitRow) (o : ℕ) → slice_get units k ≡ Some unit → HaveMatch t openings units o k → TouchesAt t openings unit o
match_of t openings units k unit o there have = subst (λ (u : UnitRow). TouchesAt t openings u o) (same_Some have.unit unit (sym have.there ∙ there)) have.touch

-- what one unit more makes of a row
pub record IsRowBelow (t : ℕ) (openings : List OpeningRow) (units : List UnitRow) (count o : ℕ) (row : List ℕ) : Type 0 where
  pub rise : IsStrictlyIncreasing row
  pub exact : (u : ℕ) → Contains row u ↔ ((u < count) × HaveMatch t openings units o u)

row_with : (t : ℕ) (openings : List OpeningRow) (units : List UnitRow) (k o : ℕ) (row : List ℕ) → HaveMatch t openings units o k → IsRowBelow t openings units k o row → IsRowBelow t openings units (k + 1) o (row ++ k ∷ [])
row_with t openings units k o row have is = record {
  rise = IsStrictlyIncreasing-push row k is.rise (λ i within. ((is.exact (get_or row i 0)).0 (Contains-get_or row i 0 within)).0);
  exact = λ u. (
    (λ h. elim (Contains-push_cases row k u h) [
      | inl before ↦ let both = (is.exact u).0 before in (omega (arith, both.0), both.1)
      | inr here ↦ (omega (arith, here), subst (HaveMatch t openings units o) here have)
    ]),
    (λ h. elim (cases_lt u k) [
      | inl less ↦ Contains-append_left row (k ∷ []) u ((is.exact u).1 (less, h.1))
      | inr past ↦ subst (λ (n : ℕ). Contains (row ++ k ∷ []) n) (last u k h.0 past) (Contains-push row k)
    ]),
  );
} where
  last : (u k : ℕ) → u < k + 1 → k ≤ u → k ≡ u
  last u k h l = omega arith

row_without : (t : ℕ) (openings : List OpeningRow) (units : List UnitRow) (k o : ℕ) (row : List ℕ) → ¬ HaveMatch t openings units o k → IsRowBelow t openings units k o row → IsRowBelow t openings units (k + 1) o row
row_without t openings units k o row none is = record {
  rise = is.rise;
  exact = λ u. (
    (λ h. let both = (is.exact u).0 h in (omega (arith, both.0), both.1)),
    (λ h. elim (cases_lt u k) [
      | inl less ↦ (is.exact u).1 (less, h.1)
      | inr past ↦ absurd (none (subst (HaveMatch t openings units o) (last u k h.0 past) h.1))
    ]),
  );
} where
  last : (u k : ℕ) → u < k + 1 → k ≤ u → u ≡ k
  last u k h l = omega arith

row_at : (t : ℕ) (openings : List OpeningRow) (units : List UnitRow) (count o : ℕ) (rows : List (List ℕ)) (row : List ℕ) → AreRowsBelow t openings units count rows → slice_get rows o ≡ Some row → IsRowBelow t openings units count o row
row_at t openings units count o rows row below there = record {
  rise = All-contains (λ (list : List ℕ). IsStrictlyIncreasing list) rows row below.rise (member_at rows o row there);
  exact = λ u. below.exact o u row there;
}

-- the row after one unit more
row_after : (t : ℕ) (openings : List OpeningRow) (units : List UnitRow) (k : ℕ) (unit : UnitRow) (found : List ℕ) (rows new : List (List ℕ)) → slice_get units k ≡ Some unit → AreMatches t openings unit found → GainsUnit k found rows new → AreRowsBelow t openings units k rows
    → (o : ℕ) (row : List ℕ) → slice_get new o ≡ Some row → IsRowBelow t openings units (k + 1) o row
row_after t openings units k unit found rows new there are gains below o row after =
    let within : o < length rows = omega (arith, slice_get_within new o row after, gains.count) in
    let was = some_at rows o within in
    let old = row_at t openings units k o rows was.0 below was.1 in
    elim (stands found o) [
      | inl chosen ↦
          let same : was.0 ++ k ∷ [] ≡ row = same_Some (was.0 ++ k ∷ []) row (sym (gains.chosen o was.0 chosen was.1) ∙ after) in
          subst (IsRowBelow t openings units (k + 1) o) same (row_with t openings units k o was.0 (record { unit = unit; there = there; touch = (are.exact o).0 chosen }) old)
      | inr missing ↦
          let same : was.0 ≡ row = same_Some was.0 row (sym was.1 ∙ sym (gains.others o missing) ∙ after) in
          subst (IsRowBelow t openings units (k + 1) o) same (row_without t openings units k o was.0 (λ have. missing ((are.exact o).1 (match_of t openings units k unit o there have))) old)
    ]

pub below_more : (t : ℕ) (openings : List OpeningRow) (units : List UnitRow) (k : ℕ) (unit : UnitRow) (found : List ℕ) (rows new : List (List ℕ)) → slice_get units k ≡ Some unit → AreMatches t openings unit found → GainsUnit k found rows new → AreRowsBelow t openings units k rows → AreRowsBelow t openings units (k + 1) new
below_more t openings units k unit found rows new there are gains below = record {
  all = gains.count ∙ below.all;
  rise = λ o d within. (row_after t openings units k unit found rows new there are gains below o (get_or new o d) (slice_get-get_or new o d within)).rise;
  exact = λ o u row after. (row_after t openings units k unit found rows new there are gains below o row after).exact u;
}

-- ---- rows as they stand in the loop

pub found_there : (t : ℕ) (openings : List OpeningRow) (units : List UnitRow) (unit : UnitRow) (k : ℕ) (found : List ℕ) (rows : List (List ℕ)) → AreMatches t openings unit found → AreRowsBelow t openings units k rows → All (λ o. o < length rows) found
found_there t openings units unit k found rows are below i d within =
    let o = get_or found i d in
    let touch = (are.exact o).0 (Contains-get_or found i d within) in
    let under : o < length openings = slice_get_within openings o touch.opening touch.there in
    omega (arith, under, below.all)

pub below_next : (t : ℕ) (openings : List OpeningRow) (units : List UnitRow) (k : ℕ) (unit : UnitRow) (found places : List ℕ) (rows new : List (List ℕ)) → k < length units → unit ≡ get_or units k unit
    → places ≡ found → AreMatches t openings unit found → GainsUnit k places rows new → AreRowsBelow t openings units k rows → AreRowsBelow t openings units (k + 1) new
below_next t openings units k unit found places rows new within is list are gains below =
    below_more t openings units k unit found rows new (item_at units k unit within is) are (subst (λ (ps : List ℕ). GainsUnit k ps rows new) list gains) below

pub below_end : (t : ℕ) (openings : List OpeningRow) (units : List UnitRow) (k n : ℕ) (rows : List (List ℕ)) → k ≤ n → n ≤ k → AreRowsBelow t openings units k rows → AreRowsBelow t openings units n rows
below_end t openings units k n rows under over below = let same : k ≡ n = omega arith in subst (λ (i : ℕ). AreRowsBelow t openings units i rows) same below

-- ---- the rows of a folder

pub folder_rows : (t : ℕ) (features : Features) (openings : List OpeningRow) (units : List UnitRow) (rows : List (List ℕ)) (touches : touching.Touches) → openings ≡ features.openings → units ≡ features.units → touches.rows ≡ rows
    → AreRowsBelow t openings units (length units) rows → AreTouches t features touches
folder_rows t features openings units rows touches same file is below = whole t features touches (subst (λ (list : List (List ℕ)). AreRowsBelow t features.openings features.units (length features.units) list) (sym is)
    (subst (λ (us : List UnitRow). AreRowsBelow t features.openings us (length us) rows) file (subst (λ (os : List OpeningRow). AreRowsBelow t os units (length units) rows) same below))) where
      whole : (t : ℕ) (features : Features) (touches : touching.Touches) → AreRowsBelow t features.openings features.units (length features.units) touches.rows → AreTouches t features touches
      whole t features touches below = record {
        rows = below.all;
        rise = below.rise;
        exact = λ o u row there. (
          (λ h. let m = ((below.exact o u row there).0 h).1 in record { opening = m.touch.opening; unit = m.unit; has_opening = m.touch.there; has_unit = m.there; touch = m.touch.touch }),
          (λ have. (below.exact o u row there).1 (slice_get_within features.units u have.unit have.has_unit, record { unit = have.unit; there = have.has_unit; touch = record { opening = have.opening; there = have.has_opening; touch = have.touch } })),
        );
      }

pub folder_kept : (t : ℕ) (features : Features) (openings : List OpeningRow) (units : List UnitRow) (matches : Matches) → openings ≡ features.openings → units ≡ features.units → AreKeptOf t openings units matches → AreKept t features matches
folder_kept t features openings units (Each touches) same file (below, few) = (
  folder_rows t features openings units touches.rows touches same file refl below,
  subst (λ (us : List UnitRow). TouchFew t features.openings us) file (subst (λ (os : List OpeningRow). TouchFew t os units) same few),
)
folder_kept t features openings units (Many counts) same file many =
    subst (λ (us : List UnitRow). TouchMany t features.openings us counts) file (subst (λ (os : List OpeningRow). TouchMany t os units counts) same many)
