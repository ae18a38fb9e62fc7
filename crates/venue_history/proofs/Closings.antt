-- What is made of identifiers and of the set of profiles for which each is closed.
use Rattle.std.proofs.Common.{◌≡◌, ◌∙◌, ℕ, List, [], ◌∷◌, refl, sym, ap, arith, Bool, true, false}
use Rattle.std.specs.Prelude.{◌||◌, not, map, if◌then◌else◌, All}
use Rattle.std.specs.List.{filter, Contains}
use Rattle.std.proofs.lemmas.Bool.{both_ways}
use Rattle.std.proofs.lemmas.Bool.Decides.{nat_tests}
use Rattle.std.proofs.lemmas.List.Elements.{All-nil, All-cons, Contains-append_left, Contains-append_right}
use Rattle.venue_types.specs.declared.feature_id.FeatureId.{FeatureId}
use Rattle.venue_types.specs.declared.profile_set.ProfileSet.{ProfileSet}
use Rattle.venue_types.specs.ProfileSets.{has, nobody, is_empty}
use Rattle.venue_types.proofs.ProfileSetLemmas.{has_nobody}
use Rattle.venue_build.specs.Identity.{is_same}
use Rattle.venue_history.specs.declared.entry.Closing.{Closing}
use Rattle.venue_history.specs.Closed.{is_one_of, feature_of, set_in}
use Rattle.venue_history.specs.Versions.{closings}
use Rattle.venue_history.proofs.Identities.{same_eq, one_of_there}

-- ---- the set of nobody

-- a set that is empty is nobody
pub empty_nobody : (set : ProfileSet) → is_empty set ≡ true → set ≡ nobody
unfolding is_empty
empty_nobody set e =
    let none : set.0 ≡ 0 = grind (arith, nat_tests) in
    ap (λ (n : ℕ). let x : ProfileSet = record { 0 = n } in x) none

pub nobody_empty : is_empty nobody ≡ true
unfolding is_empty
nobody_empty = refl

-- a set that is empty has no profile
pub empty_lacks : (k : ℕ) (set : ProfileSet) → is_empty set ≡ true → has k set ≡ false
empty_lacks k set e = ap (has k) (empty_nobody set e) ∙ has_nobody k

-- a set with a profile isn't empty
pub has_some : (k : ℕ) (set : ProfileSet) → has k set ≡ true → is_empty set ≡ true → ⊥
has_some k set there e = both_ways (has k set) (empty_lacks k set e) there

-- ---- an identifier and its set in front

-- what is listed of an identifier
abbrev pub closing_of : (FeatureId → ProfileSet) → FeatureId → Closing
closing_of set_of id = record { feature = id; profiles = set_of id }

-- where a set is nobody, it doesn't matter whether it is taken
nobody_either : (there : Bool) (set : ProfileSet) → set ≡ nobody → (if there then set else nobody) ≡ set
nobody_either true set e = refl
nobody_either false set e = sym e

set_more : (set_of : FeatureId → ProfileSet) (x id : FeatureId) (rest : List Closing) (empty same there : Bool)
    → is_empty (set_of x) ≡ empty → is_same x id ≡ same → set_in rest id ≡ (if there then set_of id else nobody)
    → set_in (if empty then rest else closing_of set_of x ∷ rest) id ≡ (if same || there then set_of id else nobody)
set_more set_of x id rest true true there e s others =
    others ∙ nobody_either there (set_of id) (sym (ap set_of (same_eq x id s)) ∙ empty_nobody (set_of x) e)
set_more set_of x id rest true false there e s others = others
set_more set_of x id rest false true there e s others =
    ap (λ (b : Bool). if b then set_of x else set_in rest id) s ∙ ap set_of (same_eq x id s)
set_more set_of x id rest false false there e s others = ap (λ (b : Bool). if b then set_of x else set_in rest id) s ∙ others

features_more : (set_of : FeatureId → ProfileSet) (x : FeatureId) (rest : List Closing) (kept : List FeatureId) (empty : Bool)
    → map feature_of rest ≡ kept → map feature_of (if empty then rest else closing_of set_of x ∷ rest) ≡ (if not empty then x ∷ kept else kept)
features_more set_of x rest kept true e = e
features_more set_of x rest kept false e = ap (λ (ids : List FeatureId). x ∷ ids) e

-- what a list closes for the profile of this number
abbrev pub kept_for : ℕ → List Closing → List Closing
kept_for k list = filter (λ (it : Closing). has k it.profiles) list

-- the identifiers of this
abbrev pub features_for : ℕ → List Closing → List FeatureId
features_for k list = map feature_of (kept_for k list)

moved_out : (it : Closing) (rest : List Closing) (kept : List FeatureId) (there : Bool) → map feature_of rest ≡ kept
    → map feature_of (if there then it ∷ rest else rest) ≡ (if there then it.feature ∷ kept else kept)
moved_out it rest kept true e = ap (λ (ids : List FeatureId). it.feature ∷ ids) e
moved_out it rest kept false e = e

for_more : (k : ℕ) (set_of : FeatureId → ProfileSet) (x : FeatureId) (rest : List Closing) (kept : List FeatureId) (empty there : Bool)
    → is_empty (set_of x) ≡ empty → has k (set_of x) ≡ there → features_for k rest ≡ kept
    → features_for k (if empty then rest else closing_of set_of x ∷ rest) ≡ (if there then x ∷ kept else kept)
for_more k set_of x rest kept true true e h others = absurd (has_some k (set_of x) h e)
for_more k set_of x rest kept true false e h others = others
for_more k set_of x rest kept false there e h others =
    ap (λ (b : Bool). map feature_of (if b then closing_of set_of x ∷ kept_for k rest else kept_for k rest)) h
    ∙ moved_out (closing_of set_of x) (kept_for k rest) kept there others

-- ---- whole lists

-- for whom a feature is closed by what is made of identifiers and their sets: for whom its set says, if it is one of these
pub set_in_closings : (set_of : FeatureId → ProfileSet) (ids : List FeatureId) (id : FeatureId)
    → set_in (closings set_of ids) id ≡ (if is_one_of ids id then set_of id else nobody)
unfolding is_one_of
set_in_closings set_of [] id = refl
set_in_closings set_of (x ∷ ids) id =
    set_more set_of x id (closings set_of ids) (is_empty (set_of x)) (is_same x id) (is_one_of ids id) refl refl (set_in_closings set_of ids id)

-- that of one of these is what its set says
pub set_in_of : (set_of : FeatureId → ProfileSet) (ids : List FeatureId) (id : FeatureId) → Contains ids id → set_in (closings set_of ids) id ≡ set_of id
set_in_of set_of ids id c = set_in_closings set_of ids id ∙ ap (λ (b : Bool). if b then set_of id else nobody) (one_of_there ids id c)

-- that of another is nobody
pub set_in_other : (set_of : FeatureId → ProfileSet) (ids : List FeatureId) (id : FeatureId) → is_one_of ids id ≡ false → set_in (closings set_of ids) id ≡ nobody
set_in_other set_of ids id other = set_in_closings set_of ids id ∙ ap (λ (b : Bool). if b then set_of id else nobody) other

-- sets that agree at the identifiers make the same
pub closings_agree : (set_of other_of : FeatureId → ProfileSet) (ids : List FeatureId) → ((id : FeatureId) → Contains ids id → set_of id ≡ other_of id)
    → closings set_of ids ≡ closings other_of ids
closings_agree set_of other_of [] same = refl
closings_agree set_of other_of (x ∷ ids) same =
    let here = same x (Contains-append_left (x ∷ []) ids x (0, omega arith, refl)) in
    let later = closings_agree set_of other_of ids (λ id c. same id (Contains-append_right (x ∷ []) ids id c)) in
    cc

-- what is made so is made of its own sets again
pub closings_again : (set_of : FeatureId → ProfileSet) (ids : List FeatureId) → closings (set_in (closings set_of ids)) ids ≡ closings set_of ids
closings_again set_of ids = closings_agree (set_in (closings set_of ids)) set_of ids (set_in_of set_of ids)

-- the identifiers that are listed are those whose set isn't empty
pub features_of_closings : (set_of : FeatureId → ProfileSet) (ids : List FeatureId)
    → map feature_of (closings set_of ids) ≡ filter (λ id. not (is_empty (set_of id))) ids
features_of_closings set_of [] = refl
features_of_closings set_of (x ∷ ids) =
    features_more set_of x (closings set_of ids) (filter (λ (id : FeatureId). not (is_empty (set_of id))) ids) (is_empty (set_of x)) (features_of_closings set_of ids)

-- and those that are so for a profile are those whose set has it
pub closed_for_closings : (k : ℕ) (set_of : FeatureId → ProfileSet) (ids : List FeatureId) → features_for k (closings set_of ids) ≡ filter (λ id. has k (set_of id)) ids
closed_for_closings k set_of [] = refl
closed_for_closings k set_of (x ∷ ids) =
    for_more k set_of x (closings set_of ids) (filter (λ (id : FeatureId). has k (set_of id)) ids) (is_empty (set_of x)) (has k (set_of x)) refl refl (closed_for_closings k set_of ids)

all_more : (P : Closing → Type 0) (it : Closing) (rest : List Closing) (empty : Bool) → (empty ≡ false → P it) → All P rest → All P (if empty then rest else it ∷ rest)
all_more P it rest true here others = others
all_more P it rest false here others = All-cons P it rest (here refl) others

-- what holds of each identifier whose set isn't empty holds of all that is listed
pub closings_all : (P : Closing → Type 0) (set_of : FeatureId → ProfileSet) (ids : List FeatureId)
    → ((id : FeatureId) → Contains ids id → is_empty (set_of id) ≡ false → P (closing_of set_of id)) → All P (closings set_of ids)
closings_all P set_of [] each = All-nil P
closings_all P set_of (x ∷ ids) each =
    all_more P (closing_of set_of x) (closings set_of ids) (is_empty (set_of x)) (each x (Contains-append_left (x ∷ []) ids x (0, omega arith, refl)))
    (closings_all P set_of ids (λ id c. each id (Contains-append_right (x ∷ []) ids id c)))

-- where nothing is closed nothing is listed
pub closings_none : (ids : List FeatureId) → closings (λ id. nobody) ids ≡ []
unfolding is_empty
closings_none [] = refl
closings_none (x ∷ ids) = closings_none ids
