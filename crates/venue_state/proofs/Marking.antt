-- Marks, and what is closed by them.
use Rattle.std.proofs.Common.{◌≡◌, ◌≢◌, ◌∙◌, ℕ, zero, suc, ◌+◌, ◌<◌, ◌≤◌, List, [], ◌∷◌, map, length, refl, sym, ap, subst, Bool, true, false, not, ◌⊎◌, inl, inr, Some, None, arith}
use Rattle.std.specs.Prelude.{if◌then◌else◌, slice_index_or, slice_set, slice_get, All}
use Rattle.std.specs.Int.{from_bool}
use Rattle.std.specs.List.{filter, Contains, AllPairs, position_from}
use Rattle.std.specs.Option.{option_map}
use Rattle.std.proofs.lemmas.List.Elements.{All-cons, All-contains}
use Rattle.std.proofs.lemmas.Option.{slice_get_within, get_or_from_slice_get, slice_get-map}
use Rattle.venue_types.specs.declared.feature_id.FeatureId.{FeatureId}
use Rattle.venue_types.specs.declared.profile_set.ProfileSet.{ProfileSet}
use Rattle.venue_types.specs.ProfileSets.{has, nobody, is_empty}
use Rattle.route_search.specs.Identity.{is_same}
use Rattle.route_search.specs.Marking.{chosen}
use Rattle.route_search.specs.Numbering.{number_among}
use Rattle.route_search.proofs.Finding.{stands_there}
use Rattle.route_search.proofs.Identifiers.{same_id, id_same}
use Rattle.venue_history.specs.declared.entry.Closing.{Closing}
use Rattle.venue_history.specs.Closed.{is_one_of, feature_of, set_in}
use Rattle.venue_history.specs.Versions.{closings}
use Rattle.venue_history.proofs.Closings.{closings_agree, empty_nobody, nobody_empty, empty_lacks}
use Rattle.venue_history.proofs.Identities.{there_one_of}
use Rattle.venue_state.specs.Boards.{closed_by}
use Rattle.venue_state.specs.Tallies.{remarked}

abbrev pub AreApart : List FeatureId → Type 0
AreApart ids = AllPairs (λ a b. a ≢ b) ids

-- ---- tests

pub tested : (b : Bool) → (b ≡ true) ⊎ (b ≡ false)
tested true = inl refl
tested false = inr refl

pub differs : (a b : FeatureId) → (a ≡ b → ⊥) → is_same a b ≡ false
differs a b apart = elim (tested (is_same a b)) [ inl same ↦ absurd (apart (same_id a b same)) | inr other ↦ other ]

pub if_not : {X : Type 0} (s : Bool) (a b : X) → s ≡ false → (if s then a else b) ≡ b
if_not s a b e = rw e refl

pub if_so : {X : Type 0} (s : Bool) (a b : X) → s ≡ true → (if s then a else b) ≡ a
if_so s a b e = rw e refl

-- ---- lists of identifiers

there_first : (x : FeatureId) (xs : List FeatureId) → Contains (x ∷ xs) x
there_first x xs = (0, omega arith, refl)

there_later : (x : FeatureId) (xs : List FeatureId) (y : FeatureId) → Contains xs y → Contains (x ∷ xs) y
there_later x xs y c = (suc c.0, (let within : c.0 < length xs = c.1 in omega arith), c.2)

pub apart_first : (x : FeatureId) (xs : List FeatureId) (y : FeatureId) → AreApart (x ∷ xs) → Contains xs y → x ≡ y → ⊥
apart_first x xs y apart c e = apart 0 (suc c.0) y (omega arith) (let within : c.0 < length xs = c.1 in omega arith) (e ∙ sym c.2)

pub apart_rest : (x : FeatureId) (xs : List FeatureId) → AreApart (x ∷ xs) → AreApart xs
apart_rest x xs apart = λ i j d below within. apart (suc i) (suc j) d (omega arith) (omega arith)

agree_map : {X : Type 0} (p q : FeatureId → X) (xs : List FeatureId) → ((x : FeatureId) → Contains xs x → p x ≡ q x) → map p xs ≡ map q xs
agree_map p q [] same = refl
agree_map p q (x ∷ xs) same =
    let here : p x ≡ q x = same x (there_first x xs) in
    let later : map p xs ≡ map q xs = agree_map p q xs (λ y c. same y (there_later x xs y c)) in
    cc

-- ---- one that is closed in front

pub set_first : (it : Closing) (others : List Closing) (id : FeatureId) → is_same it.feature id ≡ true → set_in (it ∷ others) id ≡ it.profiles
set_first it others id e = if_so (is_same it.feature id) it.profiles (set_in others id) e

pub set_later : (it : Closing) (others : List Closing) (id : FeatureId) → is_same it.feature id ≡ false → set_in (it ∷ others) id ≡ set_in others id
set_later it others id e = if_not (is_same it.feature id) it.profiles (set_in others id) e

-- ---- what marks close

pub by_none : (m : ProfileSet) (ms : List ProfileSet) (x : FeatureId) (xs : List FeatureId) → is_empty m ≡ true → closed_by (m ∷ ms) (x ∷ xs) ≡ closed_by ms xs
by_none m ms x xs e = if_so (is_empty m) (closed_by ms xs) (record { feature = x; profiles = m } ∷ closed_by ms xs) e

pub by_some : (m : ProfileSet) (ms : List ProfileSet) (x : FeatureId) (xs : List FeatureId) → is_empty m ≡ false
    → closed_by (m ∷ ms) (x ∷ xs) ≡ record { feature = x; profiles = m } ∷ closed_by ms xs
by_some m ms x xs e = if_not (is_empty m) (closed_by ms xs) (record { feature = x; profiles = m } ∷ closed_by ms xs) e

by_map : (f : FeatureId → ProfileSet) (ids : List FeatureId) → closed_by (map f ids) ids ≡ closings f ids
by_map f [] = refl
by_map f (x ∷ xs) = ap (λ (ys : List Closing). if is_empty (f x) then ys else record { feature = x; profiles = f x } ∷ ys) (by_map f xs)

-- what isn't among the identifiers is closed for nobody
by_absent : (ms : List ProfileSet) (xs : List FeatureId) (y : FeatureId) → (Contains xs y → ⊥) → set_in (closed_by ms xs) y ≡ nobody
by_absent ms [] y none = refl
by_absent [] (x ∷ xs) y none = refl
by_absent (m ∷ ms) (x ∷ xs) y none =
    let rest : set_in (closed_by ms xs) y ≡ nobody = by_absent ms xs y (λ c. none (there_later x xs y c)) in
    elim (tested (is_empty m)) [
      | inl empty ↦ ap (λ (cs : List Closing). set_in cs y) (by_none m ms x xs empty) ∙ rest
      | inr some ↦
          ap (λ (cs : List Closing). set_in cs y) (by_some m ms x xs some)
          ∙ set_later (record { feature = x; profiles = m }) (closed_by ms xs) y (differs x y (λ e. none (subst (Contains (x ∷ xs)) e (there_first x xs)))) ∙ rest
    ]

-- of identifiers that are apart each has the mark by which it is closed
marks_are : (marks : List ProfileSet) (ids : List FeatureId) → length marks ≡ length ids → AreApart ids → marks ≡ map (set_in (closed_by marks ids)) ids
marks_are [] [] whole apart = refl
marks_are [] (x ∷ xs) whole apart = absurd (omega arith)
marks_are (m ∷ ms) [] whole apart = absurd (omega arith)
marks_are (m ∷ ms) (x ∷ xs) whole apart =
    let rest : ms ≡ map (set_in (closed_by ms xs)) xs = marks_are ms xs (omega arith) (apart_rest x xs apart) in
    elim (tested (is_empty m)) [
      | inl empty ↦
          let here : m ≡ set_in (closed_by ms xs) x = empty_nobody m empty ∙ sym (by_absent ms xs x (λ c. apart_first x xs x apart c refl)) in
          let both : m ∷ ms ≡ map (set_in (closed_by ms xs)) (x ∷ xs) = cc in
          subst (λ (cs : List Closing). m ∷ ms ≡ map (set_in cs) (x ∷ xs)) (sym (by_none m ms x xs empty)) both
      | inr some ↦ subst (λ (cs : List Closing). m ∷ ms ≡ map (set_in cs) (x ∷ xs)) (sym (by_some m ms x xs some)) (marked_more rest)
    ] where
      marked_more : ms ≡ map (set_in (closed_by ms xs)) xs → m ∷ ms ≡ map (set_in (record { feature = x; profiles = m } ∷ closed_by ms xs)) (x ∷ xs)
      marked_more rest =
          let it : Closing = record { feature = x; profiles = m } in
          let here : set_in (it ∷ closed_by ms xs) x ≡ m = set_first it (closed_by ms xs) x (id_same x x refl) in
          let later : map (set_in (closed_by ms xs)) xs ≡ map (set_in (it ∷ closed_by ms xs)) xs =
          agree_map (set_in (closed_by ms xs)) (set_in (it ∷ closed_by ms xs)) xs
          (λ y c. sym (set_later it (closed_by ms xs) y (differs x y (apart_first x xs y apart c)))) in
          let tail : ms ≡ map (set_in (it ∷ closed_by ms xs)) xs = rest ∙ later in
          ap (λ (n : ProfileSet). n ∷ ms) (sym here) ∙ ap (λ (ns : List ProfileSet). set_in (it ∷ closed_by ms xs) x ∷ ns) tail

-- what is closed stands in the order of the identifiers, each with its set
pub closed_again : (marks : List ProfileSet) (ids : List FeatureId) → length marks ≡ length ids → AreApart ids
    → closed_by marks ids ≡ closings (set_in (closed_by marks ids)) ids
closed_again marks ids whole apart =
    ap (λ (ms : List ProfileSet). closed_by ms ids) (marks_are marks ids whole apart) ∙ by_map (set_in (closed_by marks ids)) ids

-- without a mark nothing is closed
pub none_closed : (marks : List ProfileSet) (ids : List FeatureId) → ((k : ℕ) → slice_index_or marks k nobody ≡ nobody) → closed_by marks ids ≡ []
none_closed marks [] none = refl
none_closed [] (x ∷ xs) none = refl
none_closed (m ∷ ms) (x ∷ xs) none =
    by_none m ms x xs (ap is_empty (none 0) ∙ nobody_empty) ∙ none_closed ms xs (λ k. none (suc k))

-- ---- one mark set

-- the same values but for one
set_map : {X : Type 0} (p : FeatureId → X) (ids : List FeatureId) (k : ℕ) (id : FeatureId) (told : X) → AreApart ids → slice_get ids k ≡ Some id
    → slice_set (map p ids) k told ≡ map (λ other. if is_same other id then told else p other) ids
set_map p [] k id told apart at = absurd (cc at)
set_map p (x ∷ xs) zero id told apart at =
    let same : x ≡ id = cc at in
    let first : (if is_same x id then told else p x) ≡ told = if_so (is_same x id) told (p x) (id_same x id same) in
    let later : map p xs ≡ map (λ other. if is_same other id then told else p other) xs =
    agree_map p (λ other. if is_same other id then told else p other) xs
    (λ y c. sym (if_not (is_same y id) told (p y) (differs y id (λ e. apart_first x xs y apart c (same ∙ sym e))))) in
    cc
set_map p (x ∷ xs) (suc k) id told apart at =
    let there : Contains xs id = (k, slice_get_within xs k id at, get_or_from_slice_get xs k id id at) in
    let first : (if is_same x id then told else p x) ≡ p x = if_not (is_same x id) told (p x) (differs x id (apart_first x xs id apart there)) in
    let later : slice_set (map p xs) k told ≡ map (λ other. if is_same other id then told else p other) xs = set_map p xs k id told (apart_rest x xs apart) at in
    cc

-- one mark set, by the number of its identifier
pub remark : (marks : List ProfileSet) (ids : List FeatureId) (k : ℕ) (id : FeatureId) (told : ProfileSet) → length marks ≡ length ids → AreApart ids
    → number_among ids id ≡ Some k → closed_by (slice_set marks k told) ids ≡ remarked ids (closed_by marks ids) id told
remark marks ids k id told whole apart at =
    ap (λ (ms : List ProfileSet). closed_by (slice_set ms k told) ids) (marks_are marks ids whole apart)
    ∙ ap (λ (ms : List ProfileSet). closed_by ms ids) (set_map (set_in (closed_by marks ids)) ids k id told apart (stands_there ids id k at))
    ∙ by_map (λ other. if is_same other id then told else set_in (closed_by marks ids) other) ids

-- for whom it is marked there
pub marked_here : (marks : List ProfileSet) (ids : List FeatureId) (k : ℕ) (id : FeatureId) → length marks ≡ length ids → AreApart ids
    → number_among ids id ≡ Some k → slice_index_or marks k nobody ≡ set_in (closed_by marks ids) id
marked_here marks ids k id whole apart at =
    let p : FeatureId → ProfileSet = set_in (closed_by marks ids) in
    ap (λ (ms : List ProfileSet). slice_index_or ms k nobody) (marks_are marks ids whole apart)
    ∙ get_or_from_slice_get (map p ids) k (p id) nobody (slice_get-map p ids k ∙ ap (option_map p) (stands_there ids id k at))

-- ---- identifiers without a number

none_pass : (test : FeatureId → Bool) (n : ℕ) (xs : List FeatureId) → position_from test n xs ≡ None → All (λ x. test x ≡ false) xs
none_pass test n [] e = λ k d below. absurd (omega arith)
none_pass test n (x ∷ xs) e = elim (tested (test x)) [
  | inl passes ↦ absurd (some_none (sym (found passes) ∙ e))
  | inr fails ↦ All-cons (λ (y : FeatureId). test y ≡ false) x xs fails (none_pass test (n + 1) xs (sym (later fails) ∙ e))
] where
  some_none : Some n ≡ None → ⊥
  some_none h = cc

  found : test x ≡ true → position_from test n (x ∷ xs) ≡ Some n
  found h = rw h refl

  later : test x ≡ false → position_from test n (x ∷ xs) ≡ position_from test (n + 1) xs
  later h = rw h refl

unnumbered : (ids : List FeatureId) (id : FeatureId) → number_among ids id ≡ None → All (λ x. is_same x id ≡ false) ids
unfolding number_among
unnumbered ids id e = none_pass (λ other. is_same other id) 0 ids e

pub no_number : (ids : List FeatureId) (id : FeatureId) → number_among ids id ≡ None → Contains ids id → ⊥
no_number ids id e c =
    let other : is_same id id ≡ false = All-contains (λ (x : FeatureId). is_same x id ≡ false) ids id (unnumbered ids id e) c in
    let same : is_same id id ≡ true = id_same id id refl in
    absurd (cc (other, same))

pub not_there : (ids : List FeatureId) (id : FeatureId) → number_among ids id ≡ None → is_one_of ids id ≡ false
not_there ids id e = elim (tested (is_one_of ids id)) [ inl there ↦ absurd (no_number ids id e (there_one_of ids id there)) | inr none ↦ none ]

pub numbered : (ids : List FeatureId) (id : FeatureId) (k : ℕ) → number_among ids id ≡ Some k → Contains ids id
numbered ids id k e =
    let at = stands_there ids id k e in
    (k, slice_get_within ids k id at, get_or_from_slice_get ids k id id at)

-- what has no number can't be marked
pub unmarked : (marks : List ProfileSet) (ids : List FeatureId) (id : FeatureId) (told : ProfileSet) → length marks ≡ length ids → AreApart ids
    → number_among ids id ≡ None → closed_by marks ids ≡ remarked ids (closed_by marks ids) id told
unmarked marks ids id told whole apart e =
    let p : FeatureId → ProfileSet = set_in (closed_by marks ids) in
    closed_again marks ids whole apart
    ∙ closings_agree p (λ other. if is_same other id then told else p other) ids
    (λ y c. sym (if_not (is_same y id) told (p y) (All-contains (λ (x : FeatureId). is_same x id ≡ false) ids y (unnumbered ids id e) c)))

-- ---- how many are closed

-- a mark counts where it is for anybody
abbrev pub counted : ProfileSet → ℕ
counted set = from_bool (not (is_empty set))

by_count : (m : ProfileSet) (ms : List ProfileSet) (x : FeatureId) (xs : List FeatureId) → length (closed_by (m ∷ ms) (x ∷ xs)) ≡ length (closed_by ms xs) + counted m
by_count m ms x xs = elim (tested (is_empty m)) [
  | inl empty ↦ let e : counted m ≡ 0 = ap (λ (b : Bool). from_bool (not b)) empty in let l = ap length (by_none m ms x xs empty) in omega arith
  | inr some ↦ let e : counted m ≡ 1 = ap (λ (b : Bool). from_bool (not b)) some in let l = ap length (by_some m ms x xs some) in omega arith
]

pub one_at_most : (set : ProfileSet) → counted set ≤ 1
one_at_most set = elim (tested (is_empty set)) [
  | inl empty ↦ let e : counted set ≡ 0 = ap (λ (b : Bool). from_bool (not b)) empty in omega arith
  | inr some ↦ let e : counted set ≡ 1 = ap (λ (b : Bool). from_bool (not b)) some in omega arith
]

pub closed_short : (marks : List ProfileSet) (ids : List FeatureId) → length (closed_by marks ids) ≤ length ids
closed_short marks [] = omega arith
closed_short [] (x ∷ xs) = omega arith
closed_short (m ∷ ms) (x ∷ xs) = omega (arith, closed_short ms xs, by_count m ms x xs, one_at_most m)

-- one mark that is set changes how many are closed by what it was and what it is
pub count_set : (marks : List ProfileSet) (ids : List FeatureId) (k : ℕ) (told : ProfileSet) → length marks ≡ length ids → k < length marks
    → length (closed_by (slice_set marks k told) ids) + counted (slice_index_or marks k nobody) ≡ length (closed_by marks ids) + counted told
count_set [] ids k told whole within = absurd (omega arith)
count_set (m ∷ ms) [] k told whole within = absurd (omega arith)
count_set (m ∷ ms) (x ∷ xs) zero told whole within =
    let before = by_count m ms x xs in
    let after = by_count told ms x xs in
    omega arith
count_set (m ∷ ms) (x ∷ xs) (suc k) told whole within =
    let before = by_count m ms x xs in
    let after = by_count m (slice_set ms k told) x xs in
    omega (arith, count_set ms xs k told (omega arith) (omega arith))

-- ---- what is marked for one profile

picked : (b : Bool) (it : Closing) (xs : List FeatureId) (its : List Closing) → xs ≡ map feature_of its
    → (if b then it.feature ∷ xs else xs) ≡ map feature_of (if b then it ∷ its else its)
picked true it xs its e = ap (λ (ys : List FeatureId). it.feature ∷ ys) e
picked false it xs its e = e

-- what marks choose for a profile are those that they close for it
pub chosen_for : (k : ℕ) (marks : List ProfileSet) (ids : List FeatureId)
    → chosen (has k) marks ids ≡ map feature_of (filter (λ (it : Closing). has k it.profiles) (closed_by marks ids))
chosen_for k marks [] = refl
chosen_for k [] (x ∷ xs) = refl
chosen_for k (m ∷ ms) (x ∷ xs) = elim (tested (is_empty m)) [
  | inl empty ↦
      if_not (has k m) (x ∷ chosen (has k) ms xs) (chosen (has k) ms xs) (empty_lacks k m empty)
      ∙ chosen_for k ms xs
      ∙ ap (λ (cs : List Closing). map feature_of (filter (λ (it : Closing). has k it.profiles) cs)) (sym (by_none m ms x xs empty))
  | inr some ↦
      picked (has k m) (record { feature = x; profiles = m }) (chosen (has k) ms xs) (filter (λ (it : Closing). has k it.profiles) (closed_by ms xs)) (chosen_for k ms xs)
      ∙ ap (λ (cs : List Closing). map feature_of (filter (λ (it : Closing). has k it.profiles) cs)) (sym (by_some m ms x xs some))
]
