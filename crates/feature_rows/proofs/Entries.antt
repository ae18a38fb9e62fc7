-- Entries in their order: the first of an identifier has the least of its places.
use Rattle.std.proofs.Common.{◌≡◌, ◌≢◌, ℕ, ◌+◌, ◌<◌, ◌≤◌, zero, suc, List, [], ◌∷◌, ◌++◌, Some, None, Bool, true, false, cond, eqb, eq-eqb, length, get_or, refl, sym, ap, subst, ◌∙◌, arith, inl, inr}
use Rattle.std.specs.Prelude.{Contains, slice_get, IsSome}
use Rattle.std.specs.declared.cmp.Ordering.{Ordering}
use Rattle.std.specs.Ordering.{nat_cmp, ordering_then, is_lt}
use Rattle.std.specs.Cmp.{IsTotalOrder}
use Rattle.std.specs.List.Sorted.{IsSorted}
use Rattle.std.proofs.lemmas.Bool.{cases_Bool, cases_lt, eqb-true}
use Rattle.std.proofs.lemmas.Bool.Decides.{nat_tests}
use Rattle.std.proofs.lemmas.Cmp.{then_total, on_total, nat_cmp_total}
use Rattle.std.proofs.lemmas.List.Elements.{Contains-append_left, Contains-push, Contains-push_cases}
use Rattle.std.proofs.lemmas.List.Sorted.{sorted_far, ranks_by}
use Rattle.std.proofs.lemmas.Option.{get_or_from_slice_get, same_Some}
use Rattle.venue_types.specs.declared.feature_id.FeatureId.{FeatureId}
use Rattle.feature_rows.specs.declared.index.Entry.{Entry}
use Rattle.feature_rows.specs.Entries.{AreRising, AreEntries, IsFront, place_in}

abbrev pub entry : FeatureId → ℕ → Entry
entry id place = record { id = id; place = place }

-- ---- their order

-- by identifier, then by place
abbrev pub entry_cmp : Entry → Entry → Ordering
entry_cmp a b = ordering_then (nat_cmp a.id.0 b.id.0) (nat_cmp a.place b.place)

entries_total : IsTotalOrder entry_cmp
entries_total = then_total (on_total (λ (e : Entry). e.id.0) nat_cmp_total) (on_total (λ (e : Entry). e.place) nat_cmp_total)

-- the second isn't before the first
pub record IsNotBefore (a b : Entry) : Type 0 where
  pub id : a.id.0 ≤ b.id.0
  pub place : a.id.0 ≡ b.id.0 → a.place ≤ b.place

not_less : (m n k j : ℕ) → is_lt (ordering_then (nat_cmp m n) (nat_cmp k j)) ≡ false → n ≤ m
not_less m n k j e = grind (arith, nat_tests)

not_less_then : (m n k j : ℕ) → is_lt (ordering_then (nat_cmp m n) (nat_cmp k j)) ≡ false → n ≡ m → j ≤ k
not_less_then m n k j e same = grind (arith, nat_tests)

pub in_order : (es : List Entry) → IsSorted entry_cmp es → (i j : ℕ) (d : Entry) → i ≤ j → j < length es → IsNotBefore (get_or es i d) (get_or es j d)
in_order es up i j d from within =
    let far = sorted_far (λ (x y : Entry). is_lt (entry_cmp x y)) (ranks_by entries_total (λ (e : Entry). e)) es up i j d from within in
    let a = get_or es i d in
    let b = get_or es j d in
    record { id = not_less b.id.0 a.id.0 b.place a.place far; place = λ same. not_less_then b.id.0 a.id.0 b.place a.place far same }

pub rising : (es : List Entry) → IsSorted entry_cmp es → AreRising es
rising es up = λ i j d from within. (in_order es up i j d from within).id

-- ---- the first entry of an identifier

skipped : {X : Type 0} (m n : ℕ) (a b : X) → m ≢ n → cond (eqb m n) a b ≡ b
skipped {X} m n a b other = elim (cases_Bool (eqb m n)) [
  | inl same ↦ absurd (other (eqb-true m n same))
  | inr e ↦ ap (λ (t : Bool). cond t a b) e
]

taken : {X : Type 0} (m n : ℕ) (a b : X) → m ≡ n → cond (eqb m n) a b ≡ a
taken {X} m n a b same = ap (λ (t : Bool). cond t a b) (eq-eqb m n same)

pub place_here : (es : List Entry) (at : ℕ) (e : Entry) (id : FeatureId) → slice_get es at ≡ Some e → e.id.0 ≡ id.0
    → ((k : ℕ) (d : Entry) → k < at → (get_or es k d).id.0 ≢ id.0) → place_in es id ≡ Some e.place
place_here [] at e id there same before = cc
place_here (x ∷ es) zero e id there same before =
    let is : x ≡ e = same_Some x e there in
    taken x.id.0 id.0 (Some x.place) (place_in es id) (ap (λ (y : Entry). y.id.0) is ∙ same) ∙ ap (λ (y : Entry). Some y.place) is
place_here (x ∷ es) (suc at) e id there same before =
    skipped x.id.0 id.0 (Some x.place) (place_in es id) (before 0 x (omega arith))
    ∙ place_here es at e id there same (λ k d under. before (suc k) d (omega arith))

pub place_none : (es : List Entry) (id : FeatureId) → ((k : ℕ) (d : Entry) → k < length es → (get_or es k d).id.0 ≢ id.0) → place_in es id ≡ None
place_none [] id none = refl
place_none (x ∷ es) id none =
    skipped x.id.0 id.0 (Some x.place) (place_in es id) (none 0 x (omega arith)) ∙ place_none es id (λ k d under. none (suc k) d (omega arith))

-- the first entry of the identifier, and where it stands
pub record IsFirstEntry (es : List Entry) (id : FeatureId) (place : ℕ) : Type 0 where
  pub at : ℕ
  pub own : Entry
  pub there : slice_get es at ≡ Some own
  pub same : own.id.0 ≡ id.0
  pub placed : own.place ≡ place
  pub first : (k : ℕ) (e : Entry) → slice_get es k ≡ Some e → e.id.0 ≡ id.0 → at ≤ k

first_later : (x : Entry) (es : List Entry) (id : FeatureId) (place : ℕ) → x.id.0 ≢ id.0 → IsFirstEntry es id place → IsFirstEntry (x ∷ es) id place
first_later x es id place other f = record {
  at = suc f.at;
  own = f.own;
  there = f.there;
  same = f.same;
  placed = f.placed;
  first = elim [
    | zero ↦ λ e there same. absurd (other (ap (λ (y : Entry). y.id.0) (same_Some x e there) ∙ same))
    | suc k ↦ λ e there same. let under : f.at ≤ k = f.first k e there same in omega arith
  ];
}

pub place_found : (es : List Entry) (id : FeatureId) (place : ℕ) → place_in es id ≡ Some place → IsFirstEntry es id place
place_found [] id place e = absurd (let no : None ≡ Some place = e in cc)
place_found (x ∷ es) id place e = elim (cases_Bool (eqb x.id.0 id.0)) [
  | inl met ↦
      let same : x.id.0 ≡ id.0 = eqb-true x.id.0 id.0 met in
      let is : Some x.place ≡ Some place = sym (taken x.id.0 id.0 (Some x.place) (place_in es id) same) ∙ e in
      record { at = 0; own = x; there = refl; same = same; placed = same_Some x.place place is; first = λ k y there same. omega arith }
  | inr missed ↦
      let other : x.id.0 ≢ id.0 = λ same. let c : true ≡ false = sym (eq-eqb x.id.0 id.0 same) ∙ missed in cc in
      first_later x es id place other (place_found es id place (sym (skipped x.id.0 id.0 (Some x.place) (place_in es id) other) ∙ e))
]

pub place_some : (es : List Entry) (k : ℕ) (e : Entry) (id : FeatureId) → slice_get es k ≡ Some e → e.id.0 ≡ id.0 → IsSome (place_in es id)
place_some [] k e id there same = absurd (let c : None ≡ Some e = there in cc)
place_some (x ∷ es) zero e id there same =
    let is : x ≡ e = same_Some x e there in
    subst IsSome (sym (taken x.id.0 id.0 (Some x.place) (place_in es id) (ap (λ (y : Entry). y.id.0) is ∙ same))) refl
place_some (x ∷ es) (suc k) e id there same = elim (cases_Bool (eqb x.id.0 id.0)) [
  | inl met ↦ subst IsSome (sym (taken x.id.0 id.0 (Some x.place) (place_in es id) (eqb-true x.id.0 id.0 met))) refl
  | inr missed ↦ subst IsSome (sym (ap (λ (t : Bool). cond t (Some x.place) (place_in es id)) missed)) (place_some es k e id there same)
]

-- ---- one entry more

pub none_yet : (ids : List FeatureId) (es : List Entry) → es ≡ [] → AreEntries ids 0 es
none_yet ids es empty = subst (λ (xs : List Entry). AreEntries ids 0 xs) (sym empty) (record {
  only = λ e h. absurd (omega (arith, h.1));
  whole = λ id k under there. absurd (omega arith);
})

pub one_more : (ids : List FeatureId) (k : ℕ) (new : FeatureId) (old next : List Entry) → slice_get ids k ≡ Some new → next ≡ old ++ entry new k ∷ [] → AreEntries ids k old → AreEntries ids (k + 1) next
one_more ids k new old next at is before = subst (λ (xs : List Entry). AreEntries ids (k + 1) xs) (sym is) (record {
  only = λ e h. elim (Contains-push_cases old (entry new k) e h) [
    | inl was ↦ let b = before.only e was in (omega (arith, b.0), b.1)
    | inr here ↦ subst (λ (y : Entry). (y.place < k + 1) × (slice_get ids y.place ≡ Some y.id)) here (omega arith, at)
  ];
  whole = λ id j under there. elim (cases_Bool (eqb j k)) [
    | inl met ↦
        let jk : j ≡ k = eqb-true j k met in
        let same : new ≡ id = same_Some new id (sym at ∙ subst (λ (i : ℕ). slice_get ids i ≡ Some id) jk there) in
        subst (λ (y : Entry). Contains (old ++ entry new k ∷ []) y) (ap (λ (x : FeatureId). entry x k) same ∙ ap (entry id) (sym jk)) (Contains-push old (entry new k))
    | inr missed ↦
        let other : j ≢ k = λ same. let c : true ≡ false = sym (eq-eqb j k same) ∙ missed in cc in
        Contains-append_left old (entry new k ∷ []) (entry id j) (before.whole id j (omega arith) there)
  ];
})

pub enough : (ids : List FeatureId) (k n : ℕ) (es : List Entry) → k ≤ n → n ≤ k → AreEntries ids k es → AreEntries ids n es
enough ids k n es under over all = let same : k ≡ n = omega arith in subst (λ (i : ℕ). AreEntries ids i es) same all

-- ---- behind the entries in front

differs : (m n : ℕ) → m < n → m ≢ n
differs m n under same = omega arith

pub met : (es : List Entry) (at : ℕ) (e : Entry) (id : FeatureId) → IsFront es id at → slice_get es at ≡ Some e → e.id.0 ≡ id.0 → Some e.place ≡ place_in es id
met es at e id front there same = sym (place_here es at e id there same (λ k d under. differs (get_or es k d).id.0 id.0 (front.less k d under)))

pub missed : (es : List Entry) (at : ℕ) (e : Entry) (id : FeatureId) → AreRising es → IsFront es id at → slice_get es at ≡ Some e → e.id.0 ≢ id.0 → None ≡ place_in es id
missed es at e id up front there other = sym (place_none es id (λ k d within. elim (cases_lt k at) [
  | inl before ↦ differs (get_or es k d).id.0 id.0 (front.less k d before)
  | inr behind ↦
      let is : get_or es at d ≡ e = get_or_from_slice_get es at e d there in
      let first : id.0 ≤ (get_or es at d).id.0 = front.rest at d (omega arith) (omega arith) in
      let rises : (get_or es at d).id.0 ≤ (get_or es k d).id.0 = up at k d (omega arith) within in
      let apart : (get_or es at d).id.0 ≢ id.0 = subst (λ (y : Entry). y.id.0 ≢ id.0) (sym is) other in
      λ same. apart (omega arith)
]))

pub ran_out : (es : List Entry) (at : ℕ) (id : FeatureId) → IsFront es id at → length es ≤ at → None ≡ place_in es id
ran_out es at id front past = sym (place_none es id (λ k d within. differs (get_or es k d).id.0 id.0 (front.less k d (omega arith))))
