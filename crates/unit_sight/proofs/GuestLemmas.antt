-- Who sees nobody, and whom it is joined to.
use Rattle.std.proofs.Common.{◌≡◌, ℕ, zero, suc, ◌+◌, ◌<◌, Bool, true, false, not, ◌&&◌, ◌||◌, ◌==◌, nat_lt, cond, List, [], ◌∷◌, length, get_or, map, filter, Option, Some, None, IfSome, refl, sym, ap, ap₂, ◌∙◌, inl, inr, subst, arith}
use Rattle.std.specs.List.{list_all}
use Rattle.std.specs.Option.{option_map_or}
use Rattle.std.proofs.lemmas.Bool.{cases_lt, cases_eq, lt-ltb, le-ltb, eqb-true, eq-eqb, ne_eqb, and_left, and_right, and_parts, and_from, both_ways}
use Rattle.std.proofs.lemmas.List.{length-map}
use Rattle.std.proofs.lemmas.List.Folds.{list_all-append, list_all-map}
use Rattle.unit_sight.specs.Joined.{is_blind, are_blind, seeing, is_nearer, nearer, nearest, host_of, is_guest_of, is_joined}
use Rattle.unit_sight.specs.Tables.{joins, places, table_of}
use Rattle.unit_sight.specs.Finding.{all_asked, is_empty_row, are_tied, are_tied_at}
use Rattle.unit_sight.proofs.TableLemmas.{length_places, length_table, joins_table, table_same, row_same, get_or_row}
use Rattle.unit_sight.proofs.PairLemmas.{is_pair, regroup, lt_next, or_true, or_false, and_true, turned}

-- ---- who sees nobody

pub some_false : (p : ℕ → Bool) (n j : ℕ) → j < n → p j ≡ false → list_all p (places n) ≡ false
some_false p zero j low h = absurd (omega arith)
some_false p (suc n) j low h = list_all-append p (places n) (n ∷ []) ∙ elim (cases_lt j n) [
  | inl below ↦ and_left (list_all p (places n)) (p n && true) (some_false p n j below h)
  | inr above ↦ (let last : j ≡ n = omega arith in and_right (list_all p (places n)) (p n && true) (and_left (p n) true (subst (λ (k : ℕ). p k ≡ false) last h)))
]

same_all : (p q : ℕ → Bool) (n : ℕ) → ((i : ℕ) → i < n → p i ≡ q i) → list_all p (places n) ≡ list_all q (places n)
same_all p q zero same = refl
same_all p q (suc n) same =
    list_all-append p (places n) (n ∷ [])
    ∙ ap₂ (λ (x y : Bool). x && (y && true)) (same_all p q n (λ i low. same i (omega arith))) (same n (omega arith))
    ∙ sym (list_all-append q (places n) (n ∷ []))

not_both : (e s : Bool) → not (not e && s) ≡ (e || not s)
not_both true s = refl
not_both false s = refl

row_blind : (sees : ℕ → ℕ → Bool) (n i : ℕ) (bits : List (List Bool)) → bits ≡ table_of n (all_asked sees) → i < n → is_empty_row bits i ≡ is_blind sees (places n) i
row_blind sees n i bits is low =
    ap (λ (t : List (List Bool)). is_empty_row t i) is
    ∙ ap (λ (k : ℕ). list_all (λ j. not (joins (table_of n (all_asked sees)) i j)) (places k)) (length_table n (all_asked sees))
    ∙ same_all (λ j. not (joins (table_of n (all_asked sees)) i j)) (λ b. (i == b) || not (sees i b)) n
    (λ j high. ap not (joins_table n (all_asked sees) i j low high) ∙ not_both (i == j) (sees i j))

pub blind_list : (sees : ℕ → ℕ → Bool) (n : ℕ) (bits : List (List Bool)) (list : List Bool) → bits ≡ table_of n (all_asked sees) → list ≡ map (is_empty_row bits) (places (length bits)) → list ≡ map (is_blind sees (places n)) (places n)
blind_list sees n bits list is rows =
    let size : length bits ≡ n = ap (λ (t : List (List Bool)). length t) is ∙ length_table n (all_asked sees) in
    rows
    ∙ ap (λ (k : ℕ). map (is_empty_row bits) (places k)) size
    ∙ row_same (is_empty_row bits) (is_blind sees (places n)) n (λ i low. row_blind sees n i bits is low)

pub all_blind : (sees : ℕ → ℕ → Bool) (n : ℕ) (list : List Bool) (result : Bool) → result ≡ list_all (λ each. each) list → list ≡ map (is_blind sees (places n)) (places n) → result ≡ are_blind sees (places n)
all_blind sees n list result told is = told ∙ ap (λ (xs : List Bool). list_all (λ each. each) xs) is ∙ list_all-map (λ (each : Bool). each) (is_blind sees (places n)) (places n)

pub blind_is : (sees : ℕ → ℕ → Bool) (n a : ℕ) (list : List Bool) (d s : Bool) → list ≡ map (is_blind sees (places n)) (places n) → a < n → get_or list a d ≡ s → is_blind sees (places n) a ≡ s
blind_is sees n a list d s is low at = sym (ap (λ (xs : List Bool). get_or xs a d) is ∙ get_or_row (is_blind sees (places n)) n a d low) ∙ at

-- ---- one place and its host

no_guest : (sees : ℕ → ℕ → Bool) (far : ℕ → ℕ → ℕ) (n a j : ℕ) → is_blind sees (places n) a ≡ false → is_guest_of sees far (places n) a j ≡ false
no_guest sees far n a j e = and_left (is_blind sees (places n) a) (option_map_or (λ host. host == j) (host_of sees far (places n) a) false) e

no_host : (sees : ℕ → ℕ → Bool) (far : ℕ → ℕ → ℕ) (n a j : ℕ) → host_of sees far (places n) a ≡ None → is_guest_of sees far (places n) a j ≡ false
no_host sees far n a j e = and_right (is_blind sees (places n) a) (option_map_or (λ host. host == j) (host_of sees far (places n) a) false) (ap (λ (o : Option ℕ). option_map_or (λ host. host == j) o false) e)

guest_is : (sees : ℕ → ℕ → Bool) (far : ℕ → ℕ → ℕ) (n a j h : ℕ) → is_blind sees (places n) a ≡ true → host_of sees far (places n) a ≡ Some h → is_guest_of sees far (places n) a j ≡ (h == j)
guest_is sees far n a j h e f = ap₂ (λ (x : Bool) (o : Option ℕ). x && option_map_or (λ host. host == j) o false) e f

none_tied : (sees : ℕ → ℕ → Bool) (far : ℕ → ℕ → ℕ) (n a : ℕ) (test : ℕ → ℕ → Bool) (bits : List (List Bool)) → ((j : ℕ) → is_guest_of sees far (places n) a j ≡ false) → bits ≡ table_of n test → bits ≡ table_of n (λ i j. test i j || are_tied_at sees far n a i j)
none_tied sees far n a test bits none start =
    start
    ∙ table_same n test (λ i j. test i j || are_tied_at sees far n a i j)
    (λ i j row column. sym (ap₂ (λ (x y : Bool). test i j || (x || y)) (and_right (i == a) (is_guest_of sees far (places n) a j) (none j)) (and_right (j == a) (is_guest_of sees far (places n) a i) (none i)) ∙ or_false (test i j)))

pub seeing_left : (sees : ℕ → ℕ → Bool) (far : ℕ → ℕ → ℕ) (n a : ℕ) (test : ℕ → ℕ → Bool) (bits : List (List Bool)) → is_blind sees (places n) a ≡ false → bits ≡ table_of n test → bits ≡ table_of n (λ i j. test i j || are_tied_at sees far n a i j)
seeing_left sees far n a test bits e start = none_tied sees far n a test bits (λ j. no_guest sees far n a j e) start

pub hostless_left : (sees : ℕ → ℕ → Bool) (far : ℕ → ℕ → ℕ) (n a : ℕ) (test : ℕ → ℕ → Bool) (bits : List (List Bool)) → host_of sees far (places n) a ≡ None → bits ≡ table_of n test → bits ≡ table_of n (λ i j. test i j || are_tied_at sees far n a i j)
hostless_left sees far n a test bits e start = none_tied sees far n a test bits (λ j. no_host sees far n a j e) start

eq_turns : (a b : ℕ) → (a == b) ≡ (b == a)
eq_turns a b = elim (cases_eq a b) [
  | inl e ↦ eq-eqb a b e ∙ sym (eq-eqb b a (sym e))
  | inr apart ↦ ne_eqb a b apart ∙ sym (ne_eqb b a (λ e. apart (sym e)))
]

tied_pair : (sees : ℕ → ℕ → Bool) (far : ℕ → ℕ → ℕ) (n a h i j : ℕ) → is_blind sees (places n) a ≡ true → host_of sees far (places n) a ≡ Some h → is_pair a h i j ≡ are_tied_at sees far n a i j
tied_pair sees far n a h i j e f =
    ap₂ (λ (x y : Bool). ((i == a) && x) || y)
    (eq_turns j h ∙ sym (guest_is sees far n a j h e f))
    (turned (i == h) (j == a) ∙ ap (λ (x : Bool). (j == a) && x) (eq_turns i h ∙ sym (guest_is sees far n a i h e f)))

pub guest_joined : (sees : ℕ → ℕ → Bool) (far : ℕ → ℕ → ℕ) (n a h : ℕ) (test : ℕ → ℕ → Bool) (old new : List (List Bool)) → is_blind sees (places n) a ≡ true → host_of sees far (places n) a ≡ Some h → old ≡ table_of n test → new ≡ table_of (length old) (λ i j. joins old i j || is_pair a h i j) → new ≡ table_of n (λ i j. test i j || are_tied_at sees far n a i j)
guest_joined sees far n a h test old new e f start after =
    let size : length old ≡ n = ap (λ (t : List (List Bool)). length t) start ∙ length_table n test in
    after
    ∙ ap (λ (k : ℕ). table_of k (λ i j. joins old i j || is_pair a h i j)) size
    ∙ table_same n (λ i j. joins old i j || is_pair a h i j) (λ i j. test i j || are_tied_at sees far n a i j)
    (λ i j row column. ap₂ (λ (x y : Bool). x || y) (ap (λ (t : List (List Bool)). joins t i j) start ∙ joins_table n test i j row column) (tied_pair sees far n a h i j e f))

-- ---- all places, one after the other

split : (p x g : Bool) → ((p || x) && g) ≡ ((p && g) || (x && g))
split true true true = refl
split true true false = refl
split true false true = refl
split true false false = refl
split false x g = refl

guarded : (x f g : Bool) → (x ≡ true → f ≡ g) → (x && f) ≡ (x && g)
guarded true f g h = h refl
guarded false f g h = refl

or_moved : (x y z : Bool) → ((x || y) || z) ≡ (x || (y || z))
or_moved true y z = refl
or_moved false y z = refl

half_next : (sees : ℕ → ℕ → Bool) (far : ℕ → ℕ → ℕ) (n a i j : ℕ) → (nat_lt i (a + 1) && is_guest_of sees far (places n) i j) ≡ ((nat_lt i a && is_guest_of sees far (places n) i j) || ((i == a) && is_guest_of sees far (places n) a j))
half_next sees far n a i j =
    let guest = λ (k : ℕ). is_guest_of sees far (places n) k j in
    ap (λ (x : Bool). x && guest i) (lt_next i a)
    ∙ split (nat_lt i a) (i == a) (guest i)
    ∙ ap (λ (x : Bool). (nat_lt i a && guest i) || x) (guarded (i == a) (guest i) (guest a) (λ e. ap guest (eqb-true i a e)))

tied_next : (sees : ℕ → ℕ → Bool) (far : ℕ → ℕ → ℕ) (n a i j : ℕ) → are_tied sees far n (a + 1) i j ≡ (are_tied sees far n a i j || are_tied_at sees far n a i j)
tied_next sees far n a i j =
    let guest = λ (k m : ℕ). is_guest_of sees far (places n) k m in
    ap₂ (λ (x y : Bool). x || y) (half_next sees far n a i j) (half_next sees far n a j i)
    ∙ regroup (nat_lt i a && guest i j) ((i == a) && guest a j) (nat_lt j a && guest j i) ((j == a) && guest a i)

pub guests_next : (sees : ℕ → ℕ → Bool) (far : ℕ → ℕ → ℕ) (n a : ℕ) (test : ℕ → ℕ → Bool) (new : List (List Bool)) → new ≡ table_of n (λ i j. (test i j || are_tied sees far n a i j) || are_tied_at sees far n a i j) → new ≡ table_of n (λ i j. test i j || are_tied sees far n (a + 1) i j)
guests_next sees far n a test new after =
    after
    ∙ table_same n (λ i j. (test i j || are_tied sees far n a i j) || are_tied_at sees far n a i j) (λ i j. test i j || are_tied sees far n (a + 1) i j)
    (λ i j row column. or_moved (test i j) (are_tied sees far n a i j) (are_tied_at sees far n a i j) ∙ sym (ap (λ (x : Bool). test i j || x) (tied_next sees far n a i j)))

pub guests_none : (sees : ℕ → ℕ → Bool) (far : ℕ → ℕ → ℕ) (n : ℕ) (test : ℕ → ℕ → Bool) (bits : List (List Bool)) → bits ≡ table_of n test → bits ≡ table_of n (λ i j. test i j || are_tied sees far n 0 i j)
guests_none sees far n test bits start =
    start
    ∙ table_same n test (λ i j. test i j || are_tied sees far n 0 i j)
    (λ i j row column. sym (ap₂ (λ (x y : Bool). test i j || ((x && is_guest_of sees far (places n) i j) || (y && is_guest_of sees far (places n) j i))) (le-ltb i 0 (omega arith)) (le-ltb j 0 (omega arith)) ∙ or_false (test i j)))

-- ---- no place is its own host

cond_passes : (p : ℕ → Bool) (t : Bool) (c y : ℕ) → p c ≡ true → p y ≡ true → p (cond t c y) ≡ true
cond_passes p true c y h k = h
cond_passes p false c y h k = k

nearer_passes : (p : ℕ → Bool) (far : ℕ → ℕ) (y : ℕ) (o : Option ℕ) → p y ≡ true → IfSome o (λ c. p c ≡ true) → p (nearer far y o) ≡ true
nearer_passes p far y None h k = h
nearer_passes p far y (Some c) h k = cond_passes p (is_nearer far c y) c y k h

nearest_passes : (p : ℕ → Bool) (far : ℕ → ℕ) (xs : List ℕ) → list_all p xs ≡ true → IfSome (nearest far xs) (λ c. p c ≡ true)
nearest_passes p far [] h = tt
nearest_passes p far (y ∷ rest) h =
    let both = and_parts (p y) (list_all p rest) h in
    nearer_passes p far y (nearest far rest) both.0 (nearest_passes p far rest both.1)

kept_passes : (p : ℕ → Bool) (y : ℕ) (rest : List ℕ) (t : Bool) → p y ≡ t → list_all p rest ≡ true → list_all p (cond t (y ∷ rest) rest) ≡ true
kept_passes p y rest true e h = and_from (p y) (list_all p rest) e h
kept_passes p y rest false e h = h

filter_passes : (p : ℕ → Bool) (xs : List ℕ) → list_all p (filter p xs) ≡ true
filter_passes p [] = refl
filter_passes p (y ∷ rest) = kept_passes p y (filter p rest) (p y) refl (filter_passes p rest)

other_host : (sees : ℕ → ℕ → Bool) (ms : List ℕ) (a : ℕ) (o : Option ℕ) → is_blind sees ms a ≡ true → IfSome o (λ c. not (is_blind sees ms c) ≡ true) → option_map_or (λ host. host == a) o false ≡ false
other_host sees ms a None e h = refl
other_host sees ms a (Some c) e h = ne_eqb c a (λ same. both_ways (not (is_blind sees ms c)) (ap not (ap (λ (k : ℕ). is_blind sees ms k) same ∙ e)) h)

blind_case : (sees : ℕ → ℕ → Bool) (ms : List ℕ) (a : ℕ) (o : Option ℕ) (t : Bool) → is_blind sees ms a ≡ t → IfSome o (λ c. not (is_blind sees ms c) ≡ true) → (t && option_map_or (λ host. host == a) o false) ≡ false
blind_case sees ms a o true e h = other_host sees ms a o e h
blind_case sees ms a o false e h = refl

no_own_host : (sees : ℕ → ℕ → Bool) (far : ℕ → ℕ → ℕ) (ms : List ℕ) (a : ℕ) → is_guest_of sees far ms a a ≡ false
no_own_host sees far ms a =
    let sighted = λ (b : ℕ). not (is_blind sees ms b) in
    blind_case sees ms a (host_of sees far ms a) (is_blind sees ms a) refl (nearest_passes sighted (far a) (seeing sees ms) (filter_passes sighted ms))

-- ---- the whole table

merge : (e s u : Bool) → (e ≡ true → u ≡ false) → ((not e && s) || u) ≡ (not e && (s || (u || false)))
merge true s u h = h refl
merge false s u h = ap (λ (x : Bool). s || x) (sym (or_false u))

neither : (sees : ℕ → ℕ → Bool) (far : ℕ → ℕ → ℕ) (ms : List ℕ) (i j : ℕ) → (i == j) ≡ true → (is_guest_of sees far ms i j || is_guest_of sees far ms j i) ≡ false
neither sees far ms i j e =
    let same = eqb-true i j e in
    ap₂ (λ (x y : Bool). x || y)
    (ap (λ (k : ℕ). is_guest_of sees far ms i k) (sym same) ∙ no_own_host sees far ms i)
    (ap (λ (k : ℕ). is_guest_of sees far ms j k) same ∙ no_own_host sees far ms j)

pub some_see : (sees : ℕ → ℕ → Bool) (far : ℕ → ℕ → ℕ) (n : ℕ) → are_blind sees (places n) ≡ false → table_of n (λ i j. all_asked sees i j || are_tied sees far n n i j) ≡ table_of n (is_joined sees far (places n))
unfolding is_joined
some_see sees far n e =
    table_same n (λ i j. all_asked sees i j || are_tied sees far n n i j) (is_joined sees far (places n))
    (λ i j row column.
    let guest = λ (a b : ℕ). is_guest_of sees far (places n) a b in
    ap₂ (λ (x y : Bool). all_asked sees i j || ((x && guest i j) || (y && guest j i))) (lt-ltb i n row) (lt-ltb j n column)
    ∙ merge (i == j) (sees i j) (guest i j || guest j i) (neither sees far (places n) i j)
    ∙ sym (ap (λ (x : Bool). not (i == j) && (sees i j || ((guest i j || guest j i) || x))) e))

pub none_sees : (sees : ℕ → ℕ → Bool) (far : ℕ → ℕ → ℕ) (n : ℕ) → are_blind sees (places n) ≡ true → table_of n (λ i j. not (i == j)) ≡ table_of n (is_joined sees far (places n))
unfolding is_joined
none_sees sees far n e =
    table_same n (λ i j. not (i == j)) (is_joined sees far (places n))
    (λ i j row column.
    let tied = is_guest_of sees far (places n) i j || is_guest_of sees far (places n) j i in
    sym (ap (λ (x : Bool). not (i == j) && (sees i j || (tied || x))) e
    ∙ ap (λ (x : Bool). not (i == j) && (sees i j || x)) (or_true tied)
    ∙ ap (λ (x : Bool). not (i == j) && x) (or_true (sees i j))
    ∙ and_true (not (i == j))))

-- all pairs, where each two see each other
pub whole_done : (n : ℕ) (bits : List (List Bool)) → bits ≡ table_of n (all_asked (λ a b. true)) → bits ≡ table_of n (λ i j. not (i == j))
whole_done n bits is = is ∙ table_same n (all_asked (λ a b. true)) (λ i j. not (i == j)) (λ i j row column. and_true (not (i == j)))

pub size_is : (n : ℕ) (test : ℕ → ℕ → Bool) (bits : List (List Bool)) → bits ≡ table_of n test → length bits ≡ n
size_is n test bits is = ap (λ (t : List (List Bool)). length t) is ∙ length_table n test

pub rows_of : (f : ℕ → Bool) (n m : ℕ) (list : List Bool) → list ≡ map f (places n) → n ≡ m → length list ≡ m
rows_of f n m list is size = ap (λ (xs : List Bool). length xs) is ∙ length-map (places n) f ∙ length_places n ∙ size
