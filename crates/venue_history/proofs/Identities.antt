-- Identifiers compared, and lists of them that are filtered.
use Rattle.std.proofs.Common.{◌≡◌, ◌∙◌, List, [], ◌∷◌, refl, sym, ap, subst, Bool, true, false, arith}
use Rattle.std.specs.Prelude.{◌&&◌, if◌then◌else◌, slice_index_or, All}
use Rattle.std.specs.List.{filter, Contains}
use Rattle.std.proofs.lemmas.List.Elements.{filter_passes, All-cons, All-weaker, All-contains, Contains-append_left, Contains-append_right}
use Rattle.std.proofs.lemmas.List.Folds.{Any-from_list_any, list_any-from_Any}
use Rattle.venue_types.specs.declared.feature_id.FeatureId.{FeatureId}
use Rattle.venue_build.specs.Identity.{is_same}
use Rattle.venue_history.specs.Closed.{is_one_of}

-- equal by the test is equal
pub same_eq : (a b : FeatureId) → is_same a b ≡ true → a ≡ b
unfolding is_same
same_eq a b e = grind arith

pub same_self : (a : FeatureId) → is_same a a ≡ true
unfolding is_same
same_self a = grind arith

-- the test tells who is in a list
pub one_of_there : (ids : List FeatureId) (id : FeatureId) → Contains ids id → is_one_of ids id ≡ true
unfolding is_one_of
one_of_there ids id c = list_any-from_Any (λ other. is_same other id) ids (c.0, id, c.1, c.2, same_self id)

pub there_one_of : (ids : List FeatureId) (id : FeatureId) → is_one_of ids id ≡ true → Contains ids id
unfolding is_one_of
there_one_of ids id e =
    let found = Any-from_list_any (λ other. is_same other id) ids e in
    let same : found.1 ≡ id = same_eq found.1 id found.4 in
    (found.0, found.2, subst (λ (x : FeatureId). slice_index_or ids found.0 x ≡ x) same found.3)

kept_here : {X : Type 0} (b : Bool) (y : X) (rest : List X) → b ≡ true → Contains (if b then y ∷ rest else rest) y
kept_here true y rest e = Contains-append_left (y ∷ []) rest y (0, omega arith, refl)
kept_here false y rest e = absurd (cc e)

kept_later : {X : Type 0} (b : Bool) (y x : X) (rest : List X) → Contains rest x → Contains (if b then y ∷ rest else rest) x
kept_later true y x rest c = Contains-append_right (y ∷ []) rest x c
kept_later false y x rest c = c

all_kept : {X : Type 0} (p : X → Bool) (xs : List X) → All (λ x. p x ≡ true → Contains (filter p xs) x) xs
all_kept p [] = λ k d below. absurd (omega arith)
all_kept {X} p (y ∷ ys) =
    All-cons (λ (x : X). p x ≡ true → Contains (filter p (y ∷ ys)) x) y ys (kept_here (p y) y (filter p ys))
    (All-weaker (λ (x : X). p x ≡ true → Contains (filter p ys) x) (λ (x : X). p x ≡ true → Contains (filter p (y ∷ ys)) x)
    (λ (x : X) (has : p x ≡ true → Contains (filter p ys) x) (e : p x ≡ true). kept_later (p y) y x (filter p ys) (has e)) ys (all_kept p ys))

-- a filter keeps what passes
pub filter_has : {X : Type 0} (p : X → Bool) (xs : List X) (x : X) → Contains xs x → p x ≡ true → Contains (filter p xs) x
filter_has {X} p xs x c = All-contains (λ (x : X). p x ≡ true → Contains (filter p xs) x) xs x (all_kept p xs) c

-- two tests that agree at the elements of a list keep the same of them
agree_within : {X : Type 0} (p q : X → Bool) (xs : List X) → ((x : X) → Contains xs x → p x ≡ q x) → filter p xs ≡ filter q xs
agree_within p q [] same = refl
agree_within {X} p q (y ∷ ys) same =
    let here = same y (Contains-append_left (y ∷ []) ys y (0, omega arith, refl)) in
    let later = agree_within p q ys (λ (x : X) (c : Contains ys x). same x (Contains-append_right (y ∷ []) ys x c)) in
    cc

not_kept : (p : FeatureId → Bool) (xs : List FeatureId) (x : FeatureId) (b : Bool) → is_one_of (filter p xs) x ≡ b → p x ≡ false → b ≡ false
not_kept p xs x false e fails = refl
not_kept p xs x true e fails =
    let passed : p x ≡ true = All-contains (λ (y : FeatureId). p y ≡ true) (filter p xs) x (filter_passes p xs) (there_one_of (filter p xs) x e) in
    absurd (cc (passed, fails))

told_kept : (p : FeatureId → Bool) (xs : List FeatureId) (x : FeatureId) (b : Bool) → Contains xs x → p x ≡ b → is_one_of (filter p xs) x ≡ p x
told_kept p xs x true c e = one_of_there (filter p xs) x (filter_has p xs x c e) ∙ sym e
told_kept p xs x false c e = not_kept p xs x (is_one_of (filter p xs) x) refl e ∙ sym e

-- what is kept of a list in its order is kept again
pub filter_again : (p : FeatureId → Bool) (xs : List FeatureId) → filter (is_one_of (filter p xs)) xs ≡ filter p xs
filter_again p xs = agree_within (is_one_of (filter p xs)) p xs (λ x c. told_kept p xs x (p x) c refl)

both_kept : {X : Type 0} (q : X → Bool) (b : Bool) (x : X) (rest kept : List X) → filter q rest ≡ kept
    → filter q (if b then x ∷ rest else rest) ≡ (if b && q x then x ∷ kept else kept)
both_kept {X} q true x rest kept e = ap (λ (xs : List X). if q x then x ∷ xs else xs) e
both_kept q false x rest kept e = e

pub filter_filter : {X : Type 0} (p q : X → Bool) (xs : List X) → filter q (filter p xs) ≡ filter (λ x. p x && q x) xs
filter_filter p q [] = refl
filter_filter {X} p q (x ∷ xs) = both_kept q (p x) x (filter p xs) (filter (λ (x : X). p x && q x) xs) (filter_filter p q xs)

pub filter_none : {X : Type 0} (xs : List X) → filter (λ x. false) xs ≡ []
filter_none [] = refl
filter_none (x ∷ xs) = filter_none xs
