-- What is closed can be closed, and stands once.
use Rattle.std.proofs.Common.{◌≡◌, ◌≢◌, ◌∙◌, sym, ap, subst, false, not, inl, inr, List, map}
use Rattle.std.specs.Prelude.{IsTrue}
use Rattle.std.specs.List.{Contains}
use Rattle.std.proofs.lemmas.Bool.{both_ways}
use Rattle.std.proofs.lemmas.List.Kept.{AllPairs-filter}
use Rattle.venue_types.specs.declared.feature_id.FeatureId.{FeatureId}
use Rattle.venue_types.specs.declared.profile_set.ProfileSet.{ProfileSet}
use Rattle.venue_types.specs.ProfileSets.{has, nobody, is_empty, has_any_of}
use Rattle.venue_types.proofs.ProfileSetLemmas.{has_nobody, none_from}
use Rattle.venue_history.specs.declared.entry.Closing.{Closing}
use Rattle.venue_history.specs.Closed.{is_one_of, feature_of, set_in}
use Rattle.venue_history.specs.Versions.{closings}
use Rattle.venue_history.proofs.Closings.{features_of_closings, set_in_other}
use Rattle.venue_history.proofs.Identities.{there_one_of, one_of_there}
use Rattle.venue_history.proofs.Listed.{unlisted_nobody}
use Rattle.venue_state.proofs.Marking.{AreApart, tested}

not_one_of : (ids : List FeatureId) (id : FeatureId) → (Contains ids id → ⊥) → is_one_of ids id ≡ false
not_one_of ids id none = elim (tested (is_one_of ids id)) [ inl there ↦ absurd (none (there_one_of ids id there)) | inr other ↦ other ]

-- what doesn't lack is there
pub there : (ids : List FeatureId) (id : FeatureId) → ¬ ¬ Contains ids id → Contains ids id
there ids id some = elim (tested (is_one_of ids id)) [
  | inl is ↦ there_one_of ids id is
  | inr none ↦ absurd (some (λ (c : Contains ids id). both_ways (is_one_of ids id) none (one_of_there ids id c)))
]

-- what can't be closed isn't
pub never_closed : (ids : List FeatureId) (closed : List Closing) (id : FeatureId) → closed ≡ closings (set_in closed) ids → (Contains ids id → ⊥) → set_in closed id ≡ nobody
never_closed ids closed id order none = ap (λ (cs : List Closing). set_in cs id) order ∙ set_in_other (set_in closed) ids id (not_one_of ids id none)

-- what is closed in the order of identifiers that are apart stands once
pub closed_apart : (set_of : FeatureId → ProfileSet) (ids : List FeatureId) (closed : List Closing) → AreApart ids → closed ≡ closings set_of ids → AreApart (map feature_of closed)
closed_apart set_of ids closed apart e =
    subst AreApart (sym (ap (λ (cs : List Closing). map feature_of cs) e ∙ features_of_closings set_of ids))
    (AllPairs-filter (λ (a b : FeatureId). a ≢ b) (λ (id : FeatureId). not (is_empty (set_of id))) ids apart)

-- what is closed for one of these profiles is listed
pub listed_any : (closed : List Closing) (id : FeatureId) (set : ProfileSet) → IsTrue (has_any_of (set_in closed id) set) → Contains (map feature_of closed) id
listed_any closed id set any = elim (tested (is_one_of (map feature_of closed) id)) [
  | inl is ↦ there_one_of (map feature_of closed) id is
  | inr none ↦
      absurd (none_from nobody set (λ k in_set in_nobody. both_ways (has k nobody) (has_nobody k) in_nobody)
      (subst (λ (one : ProfileSet). IsTrue (has_any_of one set)) (unlisted_nobody closed id none) any))
]
