-- Lists that grow beside another, and tables of costs and legs as they are made.
use Rattle.std.proofs.Common.{◌≡◌, ◌∙◌, ℕ, zero, suc, ◌+◌, ◌<◌, ◌≤◌, List, [], ◌∷◌, ◌++◌, map, length, get_or, set, take, drop, replicate, refl, sym, ap, subst, Option, Some, None, arith, inl, inr}
use Rattle.std.specs.List.{AllZip}
use Rattle.std.proofs.lemmas.Bool.{cases_eq}
use Rattle.std.proofs.lemmas.List.{append_assoc, append-nil, drop_all, drop_more, map-append, take_more, length-set, get_or-set_same, get_or-set_other}
use Rattle.stop_order.proofs.LegLemmas.{cost_read}
use Rattle.stop_order.specs.declared.costs.Costs.{Costs}
use Rattle.venue_types.specs.declared.reply.Leg.{Leg}
use Rattle.venue_history.specs.Closed.{Version}
use Rattle.venue_state.specs.declared.tour_ways.Way.{Way}
use Rattle.venue_state.specs.Touring.{AreCostsOf, AreCostsTo, IsCostRowTo, legs_along, told_leg, way_at, way_cost}

-- ---- lists beside another

-- one more beside the next
pub zip_more : {A B : Type 0} (Is : A → B → Type 0) (P : List B → Type 0) (xs : List A) (i : ℕ) (x : A) (ys new : List B) (y : B) → i < length xs → x ≡ get_or xs i x
    → new ≡ ys ++ y ∷ [] → Is x y → ((rest : List B) → AllZip Is (drop i xs) rest → P (ys ++ rest)) → (rest : List B) → AllZip Is (drop (i + 1) xs) rest → P (new ++ rest)
zip_more Is P xs i x ys new y within at is so before rest all =
    let here : drop i xs ≡ x ∷ drop (i + 1) xs = drop_more xs i x within ∙ ap (λ z. z ∷ drop (i + 1) xs) (sym at) in
    let joined : (ys ++ y ∷ []) ++ rest ≡ ys ++ (y ∷ rest) = append_assoc ys (y ∷ []) rest in
    let whole : AllZip Is (drop i xs) (y ∷ rest) = subst (λ zs. AllZip Is zs (y ∷ rest)) (sym here) (so, all) in
    subst P (sym (ap (λ zs. zs ++ rest) is ∙ joined)) (before (y ∷ rest) whole)

-- and none is left
pub zip_all : {A B : Type 0} (Is : A → B → Type 0) (P : List B → Type 0) (xs : List A) (i : ℕ) (ys : List B) → length xs ≤ i
    → ((rest : List B) → AllZip Is (drop i xs) rest → P (ys ++ rest)) → P ys
zip_all Is P xs i ys past before =
    let none : AllZip Is (drop i xs) [] = subst (λ zs. AllZip Is zs []) (sym (drop_all i xs past)) tt in
    subst P (append-nil ys) (before [] none)

-- ---- costs

no_cost : (n j : ℕ) (cost : Option ℕ) → get_or (replicate n cost) j cost ≡ cost
no_cost zero j cost = refl
no_cost (suc n) zero cost = refl
no_cost (suc n) (suc j) cost = no_cost n j cost

pub no_costs : (table : List (List (Option Way))) (i : ℕ) → IsCostRowTo table i (replicate 10 None) 0
no_costs table i = record {
  long = refl;
  each = λ j low. absurd (omega arith);
  only = λ j cost at. absurd (let none = no_cost 10 j None in cc);
}

pub one_more_cost : (table : List (List (Option Way))) (i : ℕ) (row : List (Option ℕ)) (n : ℕ) (cost : Option ℕ) → n < 10 → IsCostRowTo table i row n → cost ≡ way_cost (way_at table i n)
    → IsCostRowTo table i (set row n cost) (n + 1)
one_more_cost table i row n cost low so_far is =
    let long = so_far.long in
    let here : get_or (set row n cost) n None ≡ cost = get_or-set_same row n cost None (omega arith) in
    record {
      long = length-set row n cost ∙ long;
      each = λ j before. elim (cases_eq j n) [
        | inl same ↦ ap (λ k. get_or (set row n cost) k None) same ∙ here ∙ is ∙ ap (λ k. way_cost (way_at table i k)) (sym same)
        | inr other ↦ get_or-set_other row n j cost None other ∙ so_far.each j (omega arith)
      ];
      only = λ j c at. elim (cases_eq j n) [
        | inl same ↦ ap (λ k. way_cost (way_at table i k)) same ∙ sym is ∙ sym here ∙ ap (λ k. get_or (set row n cost) k None) (sym same) ∙ at
        | inr other ↦ so_far.only j c (sym (get_or-set_other row n j cost None other) ∙ at)
      ];
    }

no_row : (n m i j : ℕ) (cost : Option ℕ) → get_or (get_or (replicate n (replicate m cost)) i []) j cost ≡ cost
no_row zero m i j cost = refl
no_row (suc n) m zero j cost = no_cost m j cost
no_row (suc n) m (suc i) j cost = no_row n m i j cost

pub no_rows : (table : List (List (Option Way))) → AreCostsTo table (replicate 10 (replicate 10 None)) 0
no_rows table = record {
  long = refl;
  each = λ i j low low_j. absurd (omega arith);
  only = λ i j cost at. absurd (let none = no_row 10 10 i j None in cc);
}

pub one_more_row : (table : List (List (Option Way))) (rows : List (List (Option ℕ))) (n : ℕ) (row : List (Option ℕ)) → n < 10 → AreCostsTo table rows n → IsCostRowTo table n row 10
    → AreCostsTo table (set rows n row) (n + 1)
one_more_row table rows n row low so_far is =
    let long = so_far.long in
    let here : get_or (set rows n row) n [] ≡ row = get_or-set_same rows n row [] (omega arith) in
    record {
      long = length-set rows n row ∙ long;
      each = λ i j before low_j. elim (cases_eq i n) [
        | inl same ↦ ap (λ k. get_or (get_or (set rows n row) k []) j None) same ∙ ap (λ r. get_or r j None) here ∙ is.each j low_j ∙ ap (λ k. way_cost (way_at table k j)) (sym same)
        | inr other ↦ ap (λ r. get_or r j None) (get_or-set_other rows n i row [] other) ∙ so_far.each i j (omega arith) low_j
      ];
      only = λ i j c at. elim (cases_eq i n) [
        | inl same ↦
            ap (λ k. way_cost (way_at table k j)) same
            ∙ is.only j c (sym (ap (λ r. get_or r j None) here) ∙ ap (λ k. get_or (get_or (set rows n row) k []) j None) (sym same) ∙ at)
        | inr other ↦ so_far.only i j c (sym (ap (λ r. get_or r j None) (get_or-set_other rows n i row [] other)) ∙ at)
      ];
    }

pub all_costs : (table : List (List (Option Way))) (costs : Costs) → AreCostsTo table costs.rows 10 → AreCostsOf table costs
all_costs table costs are = record {
  each = λ i j low low_j. sym (cost_read costs i j) ∙ are.each i j low low_j;
  only = λ i j c at. are.only i j c (cost_read costs i j ∙ at);
}

-- ---- legs

pub one_more_leg : (v : Version) (table : List (List (Option Way))) (count place i stop : ℕ) (order : List ℕ) (legs new whole : List Leg) (leg : Leg) → i < length order → stop ≡ get_or order i stop
    → new ≡ legs ++ leg ∷ [] → leg ≡ told_leg v (way_at table place (stop + 1)) → legs ++ legs_along v table count place (drop i order) ≡ whole
    → new ++ legs_along v table count (stop + 1) (drop (i + 1) order) ≡ whole
one_more_leg v table count place i stop order legs new whole leg within at is told so_far =
    let here : drop i order ≡ stop ∷ drop (i + 1) order = drop_more order i stop within ∙ ap (λ z. z ∷ drop (i + 1) order) (sym at) in
    let rest = legs_along v table count (stop + 1) (drop (i + 1) order) in
    let along : legs_along v table count place (drop i order) ≡ leg ∷ rest = ap (legs_along v table count place) here ∙ ap (λ l. l ∷ rest) (sym told) in
    ap (λ ls. ls ++ rest) is ∙ append_assoc legs (leg ∷ []) rest ∙ ap (λ ls. legs ++ ls) (sym along) ∙ so_far

pub last_leg : (v : Version) (table : List (List (Option Way))) (count place i : ℕ) (order : List ℕ) (legs new whole : List Leg) (leg : Leg) → length order ≤ i
    → new ≡ legs ++ leg ∷ [] → leg ≡ told_leg v (way_at table place (count + 1)) → legs ++ legs_along v table count place (drop i order) ≡ whole → new ≡ whole
last_leg v table count place i order legs new whole leg past is told so_far =
    is ∙ ap (λ l. legs ++ l ∷ []) told ∙ ap (λ ls. legs ++ legs_along v table count place ls) (sym (drop_all i order past)) ∙ so_far

-- ---- lists that are found item by item

pub mapped_more : {A B : Type 0} (find : A → Option B) (xs : List A) (i : ℕ) (x : A) (ys new : List B) (y : B) → i < length xs → x ≡ get_or xs i x → find x ≡ Some y → new ≡ ys ++ y ∷ []
    → map find (take i xs) ≡ map Some ys → map find (take (i + 1) xs) ≡ map Some new
mapped_more {B = B} find xs i x ys new y within at found is so_far =
    let more = ap (map find) (take_more xs i x within) ∙ map-append find (take i xs) (get_or xs i x ∷ []) in
    let here : find (get_or xs i x) ≡ Some y = ap find (sym at) ∙ found in
    let told = ap (map (λ (z : B). Some z)) is ∙ map-append (λ (z : B). Some z) ys (y ∷ []) in
    more ∙ ap (λ zs. zs ++ find (get_or xs i x) ∷ []) so_far ∙ ap (λ z. map Some ys ++ z ∷ []) here ∙ sym told
