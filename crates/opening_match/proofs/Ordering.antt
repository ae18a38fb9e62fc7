-- The entries of openings, and their order.
use Rattle.std.proofs.Common.{◌≡◌, ◌≢◌, ℕ, zero, suc, ◌+◌, ◌<◌, ◌≤◌, ℤ, ◌<ℤ◌, ◌≤ℤ◌, List, [], ◌∷◌, ◌++◌, Some, None, true, false, eqb, eq-eqb, length, get_or, map, refl, sym, ap, subst, ◌∙◌, arith, inl, inr}
use Rattle.std.specs.Prelude.{Contains, slice_get, IsPermutation, AllPairs}
use Rattle.std.specs.declared.cmp.Ordering.{Ordering}
use Rattle.std.specs.Ordering.{nat_cmp, int_cmp, ordering_then, is_lt}
use Rattle.std.specs.Cmp.{IsTotalOrder}
use Rattle.std.specs.List.Sorted.{IsSorted}
use Rattle.std.proofs.lemmas.Cmp.{then_total, on_total, nat_cmp_total, int_cmp_total, ranked, int_ranked, by_ranked}
use Rattle.std.proofs.lemmas.Bool.{cases_Bool, eqb-true}
use Rattle.std.proofs.lemmas.Bool.Decides.{Decides-eqb}
use Rattle.std.proofs.lemmas.Int.{ints}
use Rattle.std.proofs.lemmas.Map.Keys.{IsDistinct-IsPermutation}
use Rattle.std.proofs.lemmas.Map.Made.{AllPairs-from_IsDistinct, IsDistinct-from_AllPairs}
use Rattle.std.proofs.lemmas.List.{length-map, length-append}
use Rattle.std.proofs.lemmas.List.Sorted.{sorted_far, ranks_by, Contains-permutation, IsPermutation-sym, IsPermutation-map}
use Rattle.std.proofs.lemmas.Option.{slice_get-get_or}
use Rattle.venue_types.proofs.Items.{at_member, member_at}
use Rattle.venue_types.specs.declared.features.OpeningRow.{OpeningRow}
use Rattle.venue_types.specs.declared.point.Point.{Point}
use Rattle.opening_match.specs.declared.entries.Entry.{Entry}
use Rattle.opening_match.specs.Entries.{IsEntry, AreFirst, AreEntries, AreRising, AreApart}
use Rattle.opening_match.proofs.Items.{some_at, at_push}

-- ---- their order

-- by level, longitude, latitude and place
abbrev pub entry_cmp : Entry → Entry → Ordering
entry_cmp a b = ordering_then (nat_cmp a.level.0 b.level.0) (ordering_then (int_cmp a.x b.x) (ordering_then (int_cmp a.y b.y) (nat_cmp a.place b.place)))

entries_total : IsTotalOrder entry_cmp
entries_total = then_total (on_total (λ (e : Entry). e.level.0) nat_cmp_total) (then_total (on_total (λ (e : Entry). e.x) int_cmp_total) (then_total (on_total (λ (e : Entry). e.y) int_cmp_total) (on_total (λ (e : Entry). e.place) nat_cmp_total)))

clash : {P : Type 0} → true ≡ false → P
clash e = absurd (cc)

not_west : (x y : ℤ) (rest : Ordering) → is_lt (ordering_then (int_cmp x y) rest) ≡ false → y ≤ℤ x
not_west x y rest e = by_ranked (x <ℤ y) (x ≡ y) (y <ℤ x) (int_cmp x y) (int_ranked x y (int_cmp x y) refl)
    (λ is less. clash (sym (ap (λ (o : Ordering). is_lt (ordering_then o rest)) is) ∙ e))
    (λ is same. subst (λ (z : ℤ). y ≤ℤ z) (sym same) (itself y))
    (λ is more. before y x more) where
      itself : (y : ℤ) → y ≤ℤ y
      itself y = omega (arith, ints)

      before : (y x : ℤ) → y <ℤ x → y ≤ℤ x
      before y x h = omega (arith, ints)

not_behind : (m n : ℕ) (x y : ℤ) (rest : Ordering) → is_lt (ordering_then (nat_cmp n m) (ordering_then (int_cmp y x) rest)) ≡ false → (m ≤ n) × (m ≡ n → x ≤ℤ y)
not_behind m n x y rest e = by_ranked (n < m) (n ≡ m) (m < n) (nat_cmp n m) (ranked n m (nat_cmp n m) refl)
    (λ is less. clash (sym (ap (λ (o : Ordering). is_lt (ordering_then o (ordering_then (int_cmp y x) rest))) is) ∙ e))
    (λ is same. (omega arith, λ again. not_west y x rest (sym (ap (λ (o : Ordering). is_lt (ordering_then o (ordering_then (int_cmp y x) rest))) is) ∙ e)))
    (λ is more. (omega arith, λ again. absurd (omega arith)))

pub rising : (es : List Entry) → IsSorted entry_cmp es → AreRising es
rising es up = record {
  rise = λ i j d from within.
      let a = get_or es i d in
      let b = get_or es j d in
      let far = sorted_far (λ (x y : Entry). is_lt (entry_cmp x y)) (ranks_by entries_total (λ (e : Entry). e)) es up i j d from within in
      let both = not_behind a.level.0 b.level.0 a.x b.x (ordering_then (int_cmp b.y a.y) (nat_cmp b.place a.place)) far in
      record { level = both.0; x = both.1 };
}

-- ---- one entry for each opening

pub none_yet : (openings : List OpeningRow) (es : List Entry) → es ≡ [] → AreFirst openings 0 es
none_yet openings es empty = subst (λ (xs : List Entry). AreFirst openings 0 xs) (sym empty) (record { all = refl; own = λ k e there. absurd (let c : None ≡ Some e = there in cc) })

pub is_entry : (openings : List OpeningRow) (opening : OpeningRow) (k : ℕ) (first : Point) (x y : ℤ) → x ≡ first.x → y ≡ first.y → slice_get openings k ≡ Some opening → Contains opening.line.points first → IsEntry openings (record { level = opening.level; x = x; y = y; place = k })
is_entry openings opening k first x y e f there has = record {
  opening = opening;
  there = there;
  level = refl;
  start = subst (λ (n : ℤ). Contains opening.line.points (record { x = n; y = y })) (sym e) (subst (λ (m : ℤ). Contains opening.line.points (record { x = first.x; y = m })) (sym f) has);
}

pub one_entry_more : (openings : List OpeningRow) (k : ℕ) (new : Entry) (old next : List Entry) → new.place ≡ k → IsEntry openings new → next ≡ old ++ new ∷ [] → AreFirst openings k old → AreFirst openings (k + 1) next
one_entry_more openings k new old next placed is more first = subst (λ (xs : List Entry). AreFirst openings (k + 1) xs) (sym more) (record {
  all = longer old new k first.all;
  own = λ j e there. elim (at_push old new j e there) [
    | inl before ↦ first.own j e before
    | inr end ↦ subst (λ (y : Entry). (y.place ≡ j) × IsEntry openings y) end.1 (placed ∙ sym (end.0 ∙ first.all), is)
  ];
}) where
  longer : (old : List Entry) (new : Entry) (k : ℕ) → length old ≡ k → length (old ++ new ∷ []) ≡ k + 1
  longer old new k e = omega (arith, e, length-append old (new ∷ []))

pub enough : (openings : List OpeningRow) (k n : ℕ) (es : List Entry) → k ≤ n → n ≤ k → AreFirst openings k es → AreFirst openings n es
enough openings k n es under over all = let same : k ≡ n = omega arith in subst (λ (i : ℕ). AreFirst openings i es) same all

-- the places of the first entries differ
apart_first : (openings : List OpeningRow) (n : ℕ) (es : List Entry) → AreFirst openings n es → AreApart es
apart_first openings n es first i j d under within same =
    let a : (get_or es i d).place ≡ i = (first.own i (get_or es i d) (slice_get-get_or es i d (omega arith))).0 in
    let b : (get_or es j d).place ≡ j = (first.own j (get_or es j d) (slice_get-get_or es j d within)).0 in
    absurd (omega (arith, a, b, same))

-- ---- in order they are the same entries

flips : (x y : ℕ) → eqb x y ≡ eqb y x
flips x y = elim (cases_Bool (eqb x y)) [
  | inl same ↦ same ∙ sym (eq-eqb y x (sym (eqb-true x y same)))
  | inr other ↦ elim (cases_Bool (eqb y x)) [
    | inl same ↦ clash (sym (eq-eqb x y (sym (eqb-true y x same))) ∙ other)
    | inr again ↦ other ∙ sym again
  ]
]

get_or-map_at : {X : Type 0} (f : X → ℕ) (xs : List X) (i d : ℕ) (e : X) → i < length xs → get_or (map f xs) i d ≡ f (get_or xs i e)
get_or-map_at f [] i d e within = absurd (omega arith)
get_or-map_at f (x ∷ xs) zero d e within = refl
get_or-map_at f (x ∷ xs) (suc i) d e within = get_or-map_at f xs i d e (omega arith)

pub apart_sorted : (es sorted : List Entry) → IsPermutation es sorted → AreApart es → AreApart sorted
apart_sorted es sorted moved apart = pairs_from (λ (e : Entry). e.place) sorted
    (AllPairs-from_IsDistinct Decides-eqb (map (λ (e : Entry). e.place) sorted)
    (IsDistinct-IsPermutation eqb flips (map (λ (e : Entry). e.place) es) (map (λ (e : Entry). e.place) sorted) (IsPermutation-map (λ (e : Entry). e.place) es sorted moved)
    (IsDistinct-from_AllPairs Decides-eqb (map (λ (e : Entry). e.place) es) (pairs_to (λ (e : Entry). e.place) es apart)))) where
      pairs_to : (f : Entry → ℕ) (es : List Entry) → AllPairs (λ (a b : Entry). f a ≢ f b) es → AllPairs (λ (m n : ℕ). m ≢ n) (map f es)
      pairs_to f [] pairs i j d under within same = absurd (omega (arith, within))
      pairs_to f (e ∷ es) pairs i j d under within same =
          let far : j < length (e ∷ es) = omega (arith, within, length-map (e ∷ es) f) in
          pairs i j e under far (sym (get_or-map_at f (e ∷ es) i d e (omega arith)) ∙ same ∙ get_or-map_at f (e ∷ es) j d e far)

      pairs_from : (f : Entry → ℕ) (es : List Entry) → AllPairs (λ (m n : ℕ). m ≢ n) (map f es) → AllPairs (λ (a b : Entry). f a ≢ f b) es
      pairs_from f es pairs i j d under within same =
          let far : j < length (map f es) = omega (arith, within, length-map es f) in
          pairs i j (f d) under far (get_or-map_at f es i (f d) d (omega arith) ∙ same ∙ sym (get_or-map_at f es j (f d) d within))

pub entries_sorted : (openings : List OpeningRow) (es sorted : List Entry) → AreFirst openings (length openings) es → IsPermutation es sorted → AreEntries openings sorted
entries_sorted openings es sorted first moved = record {
  own = λ e h. let at = at_member es e (Contains-permutation sorted es e (IsPermutation-sym es sorted moved) h) in (first.own at.0 e at.1).1;
  whole = λ o within.
      let there = some_at es o (omega (arith, within, first.all)) in
      (there.0, Contains-permutation es sorted there.0 moved (member_at es o there.0 there.1), (first.own o there.0 there.1).0);
  apart = apart_sorted es sorted moved (apart_first openings (length openings) es first);
}
