-- The nearest of some places, looked for in order.
use Rattle.std.proofs.Common.{◌≡◌, ℕ, zero, suc, ◌+◌, ◌<◌, ◌≤◌, Bool, true, false, not, ◌&&◌, ◌||◌, ◌==◌, nat_lt, cond, List, [], ◌∷◌, ◌++◌, get_or, map, filter, Option, Some, None, IfSome, refl, sym, ap, ap₂, ◌∙◌, inl, inr, subst, add-one, arith}
use Rattle.std.proofs.lemmas.Bool.{lt-ltb, le-ltb, ltb-true, ltb-false, eqb-true, and_right, or_cases, or_parts, or_left, and_parts, cond-true, cond-false}
use Rattle.std.proofs.lemmas.List.Elements.{filter-append}
use Rattle.unit_sight.specs.declared.hosts.Distant.{Distant}
use Rattle.unit_sight.specs.Joined.{is_nearer, nearer, nearest, is_blind, seeing, host_of}
use Rattle.unit_sight.specs.Tables.{places}
use Rattle.unit_sight.specs.Nearest.{IsNearest, nearer_one, place_of}
use Rattle.unit_sight.proofs.TableLemmas.{get_or_row}
use Rattle.unit_sight.proofs.PairLemmas.{or_false}

-- ---- who is nearer

nearer_is : (far : ℕ → ℕ) (b c : ℕ) → is_nearer far b c ≡ true → far b ≤ far c
nearer_is far b c h = elim (or_cases (nat_lt (far b) (far c)) ((far b == far c) && nat_lt b c) h) [
  | inl low ↦ (let less = ltb-true (far b) (far c) low in omega arith)
  | inr tie ↦ (let both = and_parts (far b == far c) (nat_lt b c) tie in let same = eqb-true (far b) (far c) both.0 in omega arith)
]

nearer_not : (far : ℕ → ℕ) (b c : ℕ) → is_nearer far b c ≡ false → far c ≤ far b
nearer_not far b c h = ltb-false (far b) (far c) (or_parts (nat_lt (far b) (far c)) ((far b == far c) && nat_lt b c) h).0

-- behind y a place is nearer only where it is less far
nearer_behind : (far : ℕ → ℕ) (x y : ℕ) → y < x → is_nearer far x y ≡ nat_lt (far x) (far y)
nearer_behind far x y low =
    ap (λ (t : Bool). nat_lt (far x) (far y) || t) (and_right (far x == far y) (nat_lt x y) (le-ltb x y (omega arith)))
    ∙ or_false (nat_lt (far x) (far y))

-- ---- one place more

-- the nearest of some places and one behind them
abbrev closer : (ℕ → ℕ) → ℕ → Option ℕ → ℕ
closer far x None = x
closer far x (Some c) = cond (nat_lt (far x) (far c)) x c

last_of : (far : ℕ → ℕ) (x y c : ℕ) (e f : Bool) → y < x → nat_lt (far x) (far c) ≡ e → is_nearer far c y ≡ f → cond (is_nearer far (cond e x c) y) (cond e x c) y ≡ cond (nat_lt (far x) (far (cond f c y))) x (cond f c y)
last_of far x y c true true low h k =
    let less = ltb-true (far x) (far c) h in
    let most = nearer_is far c y k in
    cond-true (is_nearer far x y) x y (or_left (nat_lt (far x) (far y)) ((far x == far y) && nat_lt x y) (lt-ltb (far x) (far y) (omega arith)))
    ∙ sym (cond-true (nat_lt (far x) (far c)) x c h)
last_of far x y c true false low h k = ap (λ (t : Bool). cond t x y) (nearer_behind far x y low)
last_of far x y c false true low h k = cond-true (is_nearer far c y) c y k ∙ sym (cond-false (nat_lt (far x) (far c)) x c h)
last_of far x y c false false low h k =
    let least = ltb-false (far x) (far c) h in
    let most = nearer_not far c y k in
    cond-false (is_nearer far c y) c y k ∙ sym (cond-false (nat_lt (far x) (far y)) x y (le-ltb (far x) (far y) (omega arith)))

last_step : (far : ℕ → ℕ) (x y : ℕ) (o : Option ℕ) → y < x → nearer far y (Some (closer far x o)) ≡ closer far x (Some (nearer far y o))
last_step far x y None low = ap (λ (t : Bool). cond t x y) (nearer_behind far x y low)
last_step far x y (Some c) low = last_of far x y c (nat_lt (far x) (far c)) (is_nearer far c y) low refl refl

-- all of these are below x
abbrev below : ℕ → List ℕ → Type 0
below x [] = Unit {0}
below x (y ∷ rest) = (y < x) × below x rest

below_next : (x : ℕ) (xs : List ℕ) → below x xs → below (suc x) xs
below_next x [] h = tt
below_next x (y ∷ rest) (low, h) = (omega arith, below_next x rest h)

below_both : (x : ℕ) (xs ys : List ℕ) → below x xs → below x ys → below x (xs ++ ys)
below_both x [] ys h k = k
below_both x (y ∷ rest) ys (low, h) k = (low, below_both x rest ys h k)

kept : (p : ℕ → Bool) (x y : ℕ) (rest : List ℕ) (t : Bool) → y < x → below x (filter p rest) → below x (cond t (y ∷ filter p rest) (filter p rest))
kept p x y rest true low h = (low, h)
kept p x y rest false low h = h

below_filter : (p : ℕ → Bool) (x : ℕ) (xs : List ℕ) → below x xs → below x (filter p xs)
below_filter p x [] h = tt
below_filter p x (y ∷ rest) (low, h) = kept p x y rest (p y) low (below_filter p x rest h)

below_places : (n : ℕ) → below n (places n)
below_places zero = tt
below_places (suc n) = below_both (suc n) (places n) (n ∷ []) (below_next n (places n) (below_places n)) (omega arith, tt)

nearest_end : (far : ℕ → ℕ) (x : ℕ) (xs : List ℕ) → below x xs → nearest far (xs ++ x ∷ []) ≡ Some (closer far x (nearest far xs))
nearest_end far x [] h = refl
nearest_end far x (y ∷ rest) (low, h) = ap (λ (o : Option ℕ). Some (nearer far y o)) (nearest_end far x rest h) ∙ ap (λ (z : ℕ). Some z) (last_step far x y (nearest far rest) low)

-- ---- what the code keeps

place_in : (t : Bool) (a b : Distant) → cond t a.place b.place ≡ (cond t a b).place
place_in true a b = refl
place_in false a b = refl

same_closer : (far : ℕ → ℕ) (best : Option Distant) (next : Distant) → IfSome best (λ one. one.length ≡ far one.place) → next.length ≡ far next.place → closer far next.place (place_of best) ≡ (nearer_one best next).place
same_closer far None next h k = refl
same_closer far (Some one) next h k = ap₂ (λ m n. cond (nat_lt m n) next.place one.place) (sym k) (sym h) ∙ place_in (nat_lt next.length one.length) next one

length_in : (far : ℕ → ℕ) (t : Bool) (a b : Distant) → a.length ≡ far a.place → b.length ≡ far b.place → (cond t a b).length ≡ far (cond t a b).place
length_in far true a b h k = h
length_in far false a b h k = k

length_kept : (far : ℕ → ℕ) (best : Option Distant) (next : Distant) → IfSome best (λ one. one.length ≡ far one.place) → next.length ≡ far next.place → (nearer_one best next).length ≡ far (nearer_one best next).place
length_kept far None next h k = k
length_kept far (Some one) next h k = length_in far (nat_lt next.length one.length) next one k h

pub nearest_none : (far : ℕ → ℕ) (p : ℕ → Bool) → IsNearest far (filter p (places 0)) None
nearest_none far p = record { place = refl; length = tt }

filter_end : (p : ℕ → Bool) (n : ℕ) (t : Bool) → p n ≡ t → filter p (places (suc n)) ≡ filter p (places n) ++ cond t (n ∷ []) []
filter_end p n t e = filter-append p (places n) (n ∷ []) ∙ ap (λ (s : Bool). filter p (places n) ++ cond s (n ∷ []) []) e

pub nearest_more : (far : ℕ → ℕ) (p : ℕ → Bool) (n : ℕ) (best : Option Distant) (next : Distant) → p n ≡ true → next.place ≡ n → next.length ≡ far n → IsNearest far (filter p (places n)) best → IsNearest far (filter p (places (n + 1))) (Some (nearer_one best next))
nearest_more far p n best next e at long h =
    let far_is : next.length ≡ far next.place = long ∙ ap far (sym at) in
    record {
      place =
          ap (λ (k : ℕ). nearest far (filter p (places k))) (add-one n)
          ∙ ap (λ (xs : List ℕ). nearest far xs) (filter_end p n true e)
          ∙ nearest_end far n (filter p (places n)) (below_filter p n (places n) (below_places n))
          ∙ ap (λ (o : Option ℕ). Some (closer far n o)) h.place
          ∙ ap (λ (k : ℕ). Some (closer far k (place_of best))) (sym at)
          ∙ ap (λ (z : ℕ). Some z) (same_closer far best next h.length far_is);
      length = length_kept far best next h.length far_is;
    }

append_none : (xs : List ℕ) → xs ++ [] ≡ xs
append_none [] = refl
append_none (x ∷ xs) = ap (λ (ys : List ℕ). x ∷ ys) (append_none xs)

pub nearest_same : (far : ℕ → ℕ) (p : ℕ → Bool) (n : ℕ) (best : Option Distant) → p n ≡ false → IsNearest far (filter p (places n)) best → IsNearest far (filter p (places (n + 1))) best
nearest_same far p n best e h = record {
  place =
      ap (λ (k : ℕ). nearest far (filter p (places k))) (add-one n)
      ∙ ap (λ (xs : List ℕ). nearest far xs) (filter_end p n false e ∙ append_none (filter p (places n)))
      ∙ h.place;
  length = h.length;
}

-- ---- who is no host

pub same_filter : (p q : ℕ → Bool) (n : ℕ) → ((i : ℕ) → i < n → p i ≡ q i) → filter p (places n) ≡ filter q (places n)
same_filter p q zero same = refl
same_filter p q (suc n) same =
    filter-append p (places n) (n ∷ [])
    ∙ ap₂ (λ (xs : List ℕ) (t : Bool). xs ++ cond t (n ∷ []) []) (same_filter p q n (λ i low. same i (omega arith))) (same n (omega arith))
    ∙ sym (filter-append q (places n) (n ∷ []))

pub those_seeing : (sees : ℕ → ℕ → Bool) (n : ℕ) (blind : List Bool) → blind ≡ map (is_blind sees (places n)) (places n) → filter (λ b. not (get_or blind b true)) (places n) ≡ seeing sees (places n)
those_seeing sees n blind is =
    same_filter (λ b. not (get_or blind b true)) (λ b. not (is_blind sees (places n) b)) n
    (λ i low. ap not (ap (λ (list : List Bool). get_or list i true) is ∙ get_or_row (is_blind sees (places n)) n i true low))

-- ---- the loop

place_below : (n : ℕ) (t : Bool) (a b : Distant) → a.place < n → b.place < n → (cond t a b).place < n
place_below n true a b h k = h
place_below n false a b h k = k

one_below : (n : ℕ) (best : Option Distant) (next : Distant) → IfSome best (λ one. one.place < n) → next.place < n → (nearer_one best next).place < n
one_below n None next h k = k
one_below n (Some one) next h k = place_below n (nat_lt next.length one.length) next one k h

pub some_below : (n : ℕ) (best after : Option Distant) (next : Distant) → after ≡ Some (nearer_one best next) → IfSome best (λ one. one.place < n) → next.place < n → IfSome after (λ one. one.place < n)
some_below n best after next is h k = subst (λ (o : Option Distant). IfSome o (λ one. one.place < n)) (sym is) (one_below n best next h k)

pub same_below : (n : ℕ) (best after : Option Distant) → after ≡ best → IfSome best (λ one. one.place < n) → IfSome after (λ one. one.place < n)
same_below n best after is h = subst (λ (o : Option Distant). IfSome o (λ one. one.place < n)) (sym is) h

pub nearest_at : (far : ℕ → ℕ) (xs : List ℕ) (best after : Option Distant) → after ≡ best → IsNearest far xs best → IsNearest far xs after
nearest_at far xs best after is h = subst (λ (o : Option Distant). IsNearest far xs o) (sym is) h

pub host_told : (sees : ℕ → ℕ → Bool) (far : ℕ → ℕ → ℕ) (n a : ℕ) (blind : List Bool) (best : Option Distant) (result : Option ℕ) → result ≡ place_of best → IsNearest (far a) (filter (λ b. not (get_or blind b true)) (places n)) best → blind ≡ map (is_blind sees (places n)) (places n) → result ≡ host_of sees far (places n) a
host_told sees far n a blind best result is h same = is ∙ sym h.place ∙ ap (λ (xs : List ℕ). nearest (far a) xs) (those_seeing sees n blind same)
