-- What a search knows of the nodes for which it was made.
use Rattle.std.proofs.Common.{◌≡◌, ◌≢◌, ◌∙◌, ◌⊎◌, ℕ, zero, suc, ◌<◌, ◌≤◌, List, [], ◌∷◌, length, get_or, set, replicate, refl, sym, subst, Option, Some, None, Bool, true, false, All, arith, inl, inr, eqb}
use Rattle.std.specs.Prelude.{Contains, AllPairs, slice_get, IsPermutation}
use Rattle.std.specs.Ordering.{nat_cmp}
use Rattle.std.specs.Cmp.{nat_eq_equiv}
use Rattle.std.specs.List.{AllZip, list_any, dedup}
use Rattle.std.specs.List.Retain.{DiffersFromLast, IsFiltered}
use Rattle.std.specs.List.Sorted.{IsSorted, IsStrictlyIncreasing}
use Rattle.std.proofs.lemmas.Bool.{cases_eq}
use Rattle.std.proofs.lemmas.Bool.Decides.{Decides-eqb, eqb_tells}
use Rattle.std.proofs.lemmas.List.{get_or_default, get_or-set_other}
use Rattle.std.proofs.lemmas.List.Filters.{dedup_is}
use Rattle.std.proofs.lemmas.List.Kept.{AllPairs-cons, Contains-dedup_nat, Contains-from_dedup}
use Rattle.std.proofs.lemmas.List.Sorted.{Contains-permutation, IsPermutation-sym}
use Rattle.std.proofs.lemmas.Map.Keys.{IsStrictlyIncreasing-dedup}
use Rattle.std.proofs.lemmas.Map.Made.{IsDistinct-from_AllPairs, length-le_from_is_member}
use Rattle.std.proofs.lemmas.Map.Views.{Contains-from_any, list_any-from_Contains}
use Rattle.std.proofs.lemmas.Option.{slice_get_within, get_or_from_slice_get}
use Rattle.venue_types.specs.declared.settings.Profile.{Profile}
use Rattle.walk_laws.specs.Reaches.{HasCost, IsReach}
use Rattle.walk_laws.proofs.Reaches.{reach_reached}
use Rattle.route_search.specs.declared.reached.Reach.{Reach}
use Rattle.route_search.specs.Networks.{IsPassable}
use Rattle.route_search.specs.Reaches.{bound_of, cost_of}
use Rattle.route_search.specs.Views.{link_view}
use Rattle.venue_history.specs.Closed.{Version}
use Rattle.venue_history.specs.Ways.{Usable}
use Rattle.venue_state.specs.declared.tour_ways.Way.{Way}
use Rattle.venue_state.specs.Touring.{AreFlagsOf, IsCountOf, IsKnown, IsRow, IsSearched, IsWay}
use Rattle.venue_state.proofs.Marking.{tested}
use Rattle.venue_state.proofs.Routes.{walk_over}

-- ---- as many different ones as there are, are all

same_number : (a b : ℕ) → eqb a b ≡ true → a ≡ b
same_number a b is = elim (eqb_tells a b) [ inl here ↦ here.1 | inr other ↦ absurd (cc) ]

has_or_lacks : (xs : List ℕ) (n : ℕ) → Contains xs n ⊎ (Contains xs n → ⊥)
has_or_lacks xs n = elim (tested (list_any (eqb n) xs)) [
  | inl is ↦ inl (Contains-from_any same_number n xs is)
  | inr none ↦ inr (λ (has : Contains xs n). let is = list_any-from_Contains nat_eq_equiv n xs has in absurd (cc))
]

no_more_than : (xs ys : List ℕ) → AllPairs (λ a b. a ≢ b) xs → ((n : ℕ) → Contains xs n → Contains ys n) → length xs ≤ length ys
no_more_than xs ys apart within = length-le_from_is_member nat_eq_equiv xs ys (IsDistinct-from_AllPairs Decides-eqb xs apart)
    (λ n is. list_any-from_Contains nat_eq_equiv n ys (within n (Contains-from_any same_number n xs is)))

lacks_all : (xs : List ℕ) (n : ℕ) → (Contains xs n → ⊥) → All (λ m. n ≢ m) xs
lacks_all xs n lacks = λ k d within same. lacks (k, within, get_or_default xs k n d within ∙ sym same)

first_or_later : (ns found : List ℕ) (n m : ℕ) → Contains ns n → ((m : ℕ) → Contains found m → Contains ns m) → (k : ℕ) → k < suc (length found) → get_or (n ∷ found) k m ≡ m → Contains ns m
first_or_later ns found n m has within zero low at = subst (λ (x : ℕ). Contains ns x) at has
first_or_later ns found n m has within (suc k) low at = within m (k, omega arith, at)

found_all : (ns found different : List ℕ) → AllPairs (λ a b. a ≢ b) found → ((n : ℕ) → Contains found n → Contains ns n) → ((n : ℕ) → Contains ns n → Contains different n)
    → length found ≡ length different → (n : ℕ) → Contains ns n → Contains found n
found_all ns found different apart within whole many n has = elim (has_or_lacks found n) [
  | inl is ↦ is
  | inr lacks ↦
      (let more : AllPairs (λ a b. a ≢ b) (n ∷ found) = AllPairs-cons (λ a b. a ≢ b) n found (lacks_all found n lacks) apart in
      let long : length (n ∷ found) ≤ length different =
      no_more_than (n ∷ found) different more (λ m there. whole m (first_or_later ns found n m has within there.0 there.1 there.2)) in
      absurd (omega arith))
]

-- where a search has a bound, each of its ends has a cost
end_found : (v : Version) (number : ℕ) (profile : Profile) (from : ℕ) (flags : List Bool) (count : ℕ) (reach : Reach) (ns : List ℕ)
    → IsSearched v number profile from flags count reach → AreFlagsOf ns flags → IsCountOf ns count → (n bound : ℕ) → Contains ns n → bound_of reach ≡ Some bound
    → HasCost (cost_of reach) n
end_found v number profile from flags count reach ns searched flagged counted n bound has at =
    let (found, are) = searched.enough bound at in
    let all = found_all ns found counted.0 are.different (λ m there. flagged m (are.ends m there)) (λ m there. (counted.2 m).1 there) (are.many ∙ sym counted.3) n has in
    let (cost, is, less) = are.cheap n all in
    (cost, is)

is_none : (bound : Option ℕ) → ((b : ℕ) → bound ≡ Some b → ⊥) → bound ≡ None
is_none None never = refl
is_none (Some b) never = absurd (never b refl)

-- what it knows of an end is a way
known_way : (v : Version) (number : ℕ) (profile : Profile) (from : ℕ) (flags : List Bool) (count : ℕ) (reach : Reach) (ns : List ℕ)
    → IsSearched v number profile from flags count reach → AreFlagsOf ns flags → IsCountOf ns count → (n : ℕ) (way : Option Way) → Contains ns n → IsKnown reach n way
    → IsWay (Usable v number profile) from n way
known_way v number profile from flags count reach ns searched flagged counted n (Some way) has known =
    let P = IsPassable searched.given searched.closed profile in
    let Q = Usable v number profile in
    let least = known.1 searched.given searched.closed profile from searched.over in (
      record {
        leads = walk_over P Q (λ link. (searched.usable link).0) way.walk from n least.leads;
        costs = least.costs;
        least = λ other w. least.least other (walk_over Q P (λ link. (searched.usable link).1) other from n w);
      },
      searched.cheap n way.cost known.0,
    )
known_way v number profile from flags count reach ns searched flagged counted n None has none = λ walk w.
    let P = IsPassable searched.given searched.closed profile in
    let Q = Usable v number profile in
    let never : (cost : ℕ) → cost_of reach n ≡ Some cost → ⊥ = λ cost some. let both : None ≡ Some cost = sym none ∙ some in absurd (cc) in
    let free : bound_of reach ≡ None = is_none (bound_of reach) (λ bound at.
    let (cost, some) = end_found v number profile from flags count reach ns searched flagged counted n bound has at in never cost some) in
    let knows : IsReach link_view P from None (cost_of reach) = subst (λ (bound : Option ℕ). IsReach link_view P from bound (cost_of reach)) free searched.over.knows in
    let (cost, some) = (reach_reached link_view P from n (cost_of reach) knows).1 (walk, walk_over Q P (λ link. (searched.usable link).1) walk from n w) in
    never cost some

zip_over : {A B : Type 0} (P Q : A → B → Type 0) (xs : List A) (ys : List B) → ((k : ℕ) (x : A) (y : B) → slice_get xs k ≡ Some x → P x y → Q x y) → AllZip P xs ys → AllZip Q xs ys
zip_over P Q [] [] over all = tt
zip_over P Q [] (y ∷ ys) over all = absurd all
zip_over P Q (x ∷ xs) [] over all = absurd all
zip_over P Q (x ∷ xs) (y ∷ ys) over all = (over 0 x y refl all.0, zip_over P Q xs ys (λ k x' y' at. over (suc k) x' y' at) all.1)

row_over : (P Q : ℕ → Option Way → Type 0) (ns : List ℕ) (row : List (Option Way)) → ((n : ℕ) (way : Option Way) → Contains ns n → P n way → Q n way) → IsRow P ns row → IsRow Q ns row
row_over P Q ns [] over is = absurd is
row_over P Q ns (Some way ∷ ways) over is = absurd is
row_over P Q ns (None ∷ ways) over is =
    zip_over P Q ns ways (λ k n way at so. over n way (k, slice_get_within ns k n at, get_or_from_slice_get ns k n n at) so) is

-- so what it knows of its ends are ways
pub known_row : (v : Version) (number : ℕ) (profile : Profile) (from : ℕ) (flags : List Bool) (count : ℕ) (reach : Reach) (ns : List ℕ)
    → IsSearched v number profile from flags count reach → AreFlagsOf ns flags → IsCountOf ns count → (row : List (Option Way)) → IsRow (IsKnown reach) ns row
    → IsRow (IsWay (Usable v number profile) from) ns row
known_row v number profile from flags count reach ns searched flagged counted row is =
    row_over (IsKnown reach) (IsWay (Usable v number profile) from) ns row (known_way v number profile from flags count reach ns searched flagged counted) is

-- ---- the ends

-- these are sorted, each once
pub counted : (ns sorted different : List ℕ) → IsPermutation ns sorted → IsSorted nat_cmp sorted → IsFiltered (DiffersFromLast eqb) [] sorted different → IsCountOf ns (length different)
counted ns sorted different moved up filtered =
    let is : different ≡ dedup eqb sorted = dedup_is eqb sorted different filtered in (
      different,
      subst IsStrictlyIncreasing (sym is) (IsStrictlyIncreasing-dedup sorted up),
      (λ n. (
        (λ has. Contains-permutation sorted ns n (IsPermutation-sym ns sorted moved) (Contains-from_dedup eqb sorted n (subst (λ (xs : List ℕ). Contains xs n) is has))),
        (λ (has : Contains ns n). subst (λ (xs : List ℕ). Contains xs n) (sym is) (Contains-dedup_nat sorted n (Contains-permutation ns sorted n moved has))),
      )),
      refl,
    )

same_flag : (n k : ℕ) → get_or (replicate n false) k false ≡ false
same_flag zero k = refl
same_flag (suc n) zero = refl
same_flag (suc n) (suc k) = same_flag n k

pub no_flags : (ns : List ℕ) (all : ℕ) → AreFlagsOf ns (replicate all false)
no_flags ns all = λ n is. let none = same_flag all n in absurd (cc)

pub one_flag_more : (ns : List ℕ) (flags : List Bool) (n : ℕ) → n < length flags → Contains ns n → AreFlagsOf ns flags → AreFlagsOf ns (set flags n true)
one_flag_more ns flags n within has so_far = λ m is. elim (cases_eq m n) [
  | inl same ↦ subst (λ (x : ℕ). Contains ns x) (sym same) has
  | inr other ↦ so_far m (sym (get_or-set_other flags n m true false other) ∙ is)
]
