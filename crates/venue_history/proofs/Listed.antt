-- What the words on what is closed say of any list, most of them where each feature stands in it once.
use Rattle.std.proofs.Common.{◌≡◌, ◌≢◌, ℕ, suc, List, [], ◌∷◌, refl, sym, ap, arith, Bool, true, false, ◌∙◌, inl, inr}
use Rattle.std.specs.Prelude.{◌||◌, map, if◌then◌else◌, All, AllPairs, IsTrue}
use Rattle.std.proofs.lemmas.Bool.{both_ways, or_cases, or_left, or_right}
use Rattle.std.proofs.lemmas.Bool.Decides.{nat_tests}
use Rattle.std.proofs.lemmas.List.Elements.{All-head, All-tail}
use Rattle.venue_types.specs.declared.feature_id.FeatureId.{FeatureId}
use Rattle.venue_types.specs.declared.profile_set.ProfileSet.{ProfileSet}
use Rattle.venue_types.specs.declared.settings.Settings.{Settings}
use Rattle.venue_types.specs.ProfileSets.{has, nobody, is_empty}
use Rattle.venue_types.proofs.ProfileSetLemmas.{has_nobody}
use Rattle.venue_build.specs.Identity.{is_same}
use Rattle.venue_history.specs.declared.entry.Closing.{Closing}
use Rattle.venue_history.specs.Closed.{is_one_of, feature_of, set_in, everybody, is_everybody}
use Rattle.venue_history.proofs.Closings.{kept_for, features_for}
use Rattle.venue_history.proofs.Identities.{same_eq, there_one_of}

-- each feature stands once
abbrev pub AreOnce : List FeatureId → Type 0
AreOnce ids = AllPairs (λ (a b : FeatureId). a ≢ b) ids

once_tail : (x : FeatureId) (ids : List FeatureId) → AreOnce (x ∷ ids) → AreOnce ids
once_tail x ids once i j d less within = once (suc i) (suc j) d (omega arith) (omega arith)

once_head : (x id : FeatureId) (ids : List FeatureId) → AreOnce (x ∷ ids) → is_same x id ≡ true → is_one_of ids id ≡ true → ⊥
once_head x id ids once same there =
    let c = there_one_of ids id there in
    once 0 (suc c.0) id (omega arith) (omega (arith, c.1)) (same_eq x id same ∙ sym c.2)

-- ---- for one profile

listed_more : (it : Closing) (kept list : List Closing) (id : FeatureId) (there : Bool)
    → (is_one_of (map feature_of kept) id ≡ true → is_one_of (map feature_of list) id ≡ true)
    → is_one_of (map feature_of (if there then it ∷ kept else kept)) id ≡ true → is_one_of (map feature_of (it ∷ list)) id ≡ true
unfolding is_one_of
listed_more it kept list id true later e = elim (or_cases (is_same it.feature id) (is_one_of (map feature_of kept) id) e) [
  | inl here ↦ or_left (is_same it.feature id) (is_one_of (map feature_of list) id) here
  | inr there ↦ or_right (is_same it.feature id) (is_one_of (map feature_of list) id) (later there)
]
listed_more it kept list id false later e = or_right (is_same it.feature id) (is_one_of (map feature_of list) id) (later e)

-- who is listed for a profile is listed
for_listed : (k : ℕ) (list : List Closing) (id : FeatureId) → is_one_of (features_for k list) id ≡ true → is_one_of (map feature_of list) id ≡ true
for_listed k [] id e = e
for_listed k (it ∷ list) id e = listed_more it (kept_for k list) list id (has k it.profiles) (for_listed k list id) e

has_more : (k : ℕ) (it : Closing) (kept list : List Closing) (id : FeatureId) (same there : Bool) → is_same it.feature id ≡ same → has k it.profiles ≡ there
    → (same ≡ true → is_one_of (map feature_of kept) id ≡ true → ⊥)
    → (is_one_of (map feature_of kept) id ≡ true → has k (set_in list id) ≡ true)
    → is_one_of (map feature_of (if there then it ∷ kept else kept)) id ≡ true → has k (if same then it.profiles else set_in list id) ≡ true
unfolding is_one_of
has_more k it kept list id true true s h apart later e = h
has_more k it kept list id true false s h apart later e = absurd (apart refl e)
has_more k it kept list id false true s h apart later e = later (ap (λ (b : Bool). b || is_one_of (map feature_of kept) id) (sym s) ∙ e)
has_more k it kept list id false false s h apart later e = later e

-- where each stands once, the set of what is listed for a profile has it
pub for_has : (k : ℕ) (list : List Closing) (id : FeatureId) → AreOnce (map feature_of list) → is_one_of (features_for k list) id ≡ true → has k (set_in list id) ≡ true
unfolding is_one_of
for_has k [] id once e = absurd (cc e)
for_has k (it ∷ list) id once e =
    has_more k it (kept_for k list) list id (is_same it.feature id) (has k it.profiles) refl refl
    (λ same there. once_head it.feature id (map feature_of list) once same (for_listed k list id there))
    (for_has k list id (once_tail it.feature (map feature_of list) once)) e

for_more : (k : ℕ) (it : Closing) (kept list : List Closing) (id : FeatureId) (same there : Bool) → is_same it.feature id ≡ same → has k it.profiles ≡ there
    → (has k (set_in list id) ≡ true → is_one_of (map feature_of kept) id ≡ true)
    → has k (if same then it.profiles else set_in list id) ≡ true → is_one_of (map feature_of (if there then it ∷ kept else kept)) id ≡ true
unfolding is_one_of
for_more k it kept list id true true s h later e = or_left (is_same it.feature id) (is_one_of (map feature_of kept) id) s
for_more k it kept list id true false s h later e = absurd (both_ways (has k it.profiles) h e)
for_more k it kept list id false true s h later e = or_right (is_same it.feature id) (is_one_of (map feature_of kept) id) (later e)
for_more k it kept list id false false s h later e = later e

-- whose set has a profile is listed for it
pub has_for : (k : ℕ) (list : List Closing) (id : FeatureId) → has k (set_in list id) ≡ true → is_one_of (features_for k list) id ≡ true
has_for k [] id e = absurd (both_ways (has k nobody) (has_nobody k) e)
has_for k (it ∷ list) id e =
    for_more k it (kept_for k list) list id (is_same it.feature id) (has k it.profiles) refl refl (has_for k list id) e

-- ---- for anybody

some_more : (it : Closing) (list : List Closing) (id : FeatureId) (same : Bool) → (is_empty it.profiles ≡ true → ⊥)
    → (is_one_of (map feature_of list) id ≡ true → is_empty (set_in list id) ≡ true → ⊥)
    → (same || is_one_of (map feature_of list) id) ≡ true → is_empty (if same then it.profiles else set_in list id) ≡ true → ⊥
some_more it list id true some later e empty = some empty
some_more it list id false some later e empty = later e empty

-- what is listed is closed for somebody, if all is
pub listed_some : (list : List Closing) (id : FeatureId) → All (λ (it : Closing). ¬ IsTrue (is_empty it.profiles)) list
    → is_one_of (map feature_of list) id ≡ true → is_empty (set_in list id) ≡ true → ⊥
unfolding is_one_of
listed_some [] id some e empty = cc e
listed_some (it ∷ list) id some e empty =
    some_more it list id (is_same it.feature id) (All-head (λ (it : Closing). ¬ IsTrue (is_empty it.profiles)) it list some)
    (listed_some list id (All-tail (λ (it : Closing). ¬ IsTrue (is_empty it.profiles)) it list some)) e empty

other_more : (it : Closing) (list : List Closing) (id : FeatureId) (same : Bool)
    → (is_one_of (map feature_of list) id ≡ false → set_in list id ≡ nobody)
    → (same || is_one_of (map feature_of list) id) ≡ false → (if same then it.profiles else set_in list id) ≡ nobody
other_more it list id true later e = absurd (cc e)
other_more it list id false later e = later e

-- what isn't listed is closed for nobody
pub unlisted_nobody : (list : List Closing) (id : FeatureId) → is_one_of (map feature_of list) id ≡ false → set_in list id ≡ nobody
unfolding is_one_of
unlisted_nobody [] id e = refl
unlisted_nobody (it ∷ list) id e = other_more it list id (is_same it.feature id) (unlisted_nobody list id) e

-- ---- for everybody

pub is_for_everybody : (settings : Settings) (set : ProfileSet) → is_everybody settings set ≡ true → set ≡ everybody settings
is_for_everybody settings set e =
    let numbers : set.0 ≡ (everybody settings).0 = grind (arith, nat_tests) in
    ap (λ (n : ℕ). let x : ProfileSet = record { 0 = n } in x) numbers
