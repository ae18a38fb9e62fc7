-- What is marked, by its number among what can be closed.
use Rattle.std.proofs.Common.{IsTrue, ◌≡◌, ◌≢◌, ℕ, ◌↔◌, zero, suc, Bool, true, false, List, [], ◌∷◌, replicate, Some, None, refl, sym, ap, subst, ◌∙◌, ◌⊎◌, inl, inr, true≢false, if◌then◌else◌}
use Rattle.std.specs.Prelude.{AllPairs, Contains, slice_get, slice_index_or}
use Rattle.std.proofs.lemmas.Option.{same_Some}
use Rattle.venue_types.specs.declared.feature_id.FeatureId.{FeatureId}
use Rattle.venue_types.specs.declared.profile_set.ProfileSet.{ProfileSet}
use Rattle.venue_types.specs.ProfileSets.{has, nobody}
use Rattle.venue_types.proofs.ProfileSetLemmas.{has_nobody}
use Rattle.rule_reports.proofs.Members.{Contains-nil, Contains-first, Contains-later, Contains-cons_cases}
use Rattle.link_graph.specs.Marking.{chosen, marked}
use Rattle.link_graph.specs.Networks.{Network}
use Rattle.link_graph.proofs.AskingItems.{same_place}

-- ---- an item that a test puts in front

first_cases : (b : Bool) (id : FeatureId) (ids : List FeatureId) (x : FeatureId) → Contains (if b then id ∷ ids else ids) x → ((b ≡ true) × (id ≡ x)) ⊎ Contains ids x
first_cases true id ids x h = elim (Contains-cons_cases id ids x h) [ inl here ↦ inl (refl, here) | inr later ↦ inr later ]
first_cases false id ids x h = inr h

taken_first : (b : Bool) (id : FeatureId) (ids : List FeatureId) → b ≡ true → Contains (if b then id ∷ ids else ids) id
taken_first true id ids h = Contains-first id ids
taken_first false id ids h = absurd (true≢false (sym h))

taken_later : (b : Bool) (id : FeatureId) (ids : List FeatureId) (x : FeatureId) → Contains ids x → Contains (if b then id ∷ ids else ids) x
taken_later true id ids x h = Contains-later id ids x h
taken_later false id ids x h = h

-- ---- what is chosen has a mark at its number that passes the test

-- an identifier that stands at a number whose mark passes a test
pub record IsMarkedAt {X : Type 0} (test : X → Bool) (none : X) (marks : List X) (ids : List FeatureId) (x : FeatureId) : Type 0 where
  pub k : ℕ
  pub there : slice_get ids k ≡ Some x
  pub closed : test (slice_index_or marks k none) ≡ true

pub from_chosen : {X : Type 0} (test : X → Bool) (none : X) (marks : List X) (ids : List FeatureId) (x : FeatureId) → Contains (chosen test marks ids) x → IsMarkedAt test none marks ids x
from_chosen test none marks [] x h = absurd (Contains-nil x h)
from_chosen test none [] (id ∷ ids) x h = absurd (Contains-nil x h)
from_chosen test none (mark ∷ marks) (id ∷ ids) x h = elim (first_cases (test mark) id (chosen test marks ids) x h) [
  | inl here ↦ record { k = 0; there = ap (λ (y : FeatureId). Some y) here.1; closed = here.0 }
  | inr later ↦ let rest = from_chosen test none marks ids x later in record { k = suc rest.k; there = rest.there; closed = rest.closed }
]

pub to_chosen : {X : Type 0} (test : X → Bool) (none : X) → test none ≡ false → (marks : List X) (ids : List FeatureId) (k : ℕ) (x : FeatureId) → slice_get ids k ≡ Some x → test (slice_index_or marks k none) ≡ true
    → Contains (chosen test marks ids) x
to_chosen test none fails marks [] k x there closed = absurd (let no : None ≡ Some x = there in cc)
to_chosen test none fails [] (id ∷ ids) k x there closed = absurd (let no : false ≡ true = sym fails ∙ closed in true≢false (sym no))
to_chosen test none fails (mark ∷ marks) (id ∷ ids) zero x there closed =
    subst (λ (y : FeatureId). Contains (chosen test (mark ∷ marks) (id ∷ ids)) y) (same_Some id x there) (taken_first (test mark) id (chosen test marks ids) closed)
to_chosen test none fails (mark ∷ marks) (id ∷ ids) (suc k) x there closed =
    taken_later (test mark) id (chosen test marks ids) x (to_chosen test none fails marks ids k x there closed)

none_taken : (b : Bool) (id : FeatureId) (ids : List FeatureId) → b ≡ false → (if b then id ∷ ids else ids) ≡ ids
none_taken true id ids h = absurd (true≢false h)
none_taken false id ids h = refl

pub none_chosen : {X : Type 0} (test : X → Bool) (none : X) → test none ≡ false → (n : ℕ) (ids : List FeatureId) → chosen test (replicate n none) ids ≡ []
none_chosen test none fails n [] = refl
none_chosen test none fails zero (id ∷ ids) = refl
none_chosen test none fails (suc n) (id ∷ ids) = none_taken (test none) id (chosen test (replicate n none) ids) fails ∙ none_chosen test none fails n ids

-- where nothing else is marked than nobody, every number has nobody
pub none_marked : {X : Type 0} (none : X) (n k : ℕ) → slice_index_or (replicate n none) k none ≡ none
none_marked none zero k = refl
none_marked none (suc n) zero = refl
none_marked none (suc n) (suc k) = none_marked none n k

-- ---- where each identifier stands once

-- the identifier at a number is chosen exactly where the mark of that number passes the test
pub chosen_exact : {X : Type 0} (test : X → Bool) (none : X) → test none ≡ false → (marks : List X) (ids : List FeatureId) (k : ℕ) (x : FeatureId) → AllPairs (λ a b. a ≢ b) ids → slice_get ids k ≡ Some x
    → Contains (chosen test marks ids) x ↔ (test (slice_index_or marks k none) ≡ true)
chosen_exact test none fails marks ids k x once there = (
  λ h.
      let at = from_chosen test none marks ids x h in
      let same = same_place ids at.k k x once at.there there in
      subst (λ (i : ℕ). test (slice_index_or marks i none) ≡ true) same at.closed,
  λ closed. to_chosen test none fails marks ids k x there closed,
)

-- what is marked for a profile over a network, by its number there
pub marked_exact : (given : Network) (marks : List ProfileSet) (profile : ℕ) (id : FeatureId)
    → Contains (marked given marks profile) id ↔ (k : ℕ) × (slice_get given.closables k ≡ Some id) × IsTrue (has profile (slice_index_or marks k nobody))
unfolding marked
marked_exact given marks profile id = (
  λ h. let at = from_chosen (has profile) nobody marks given.closables id h in (at.k, at.there, at.closed),
  λ h. to_chosen (has profile) nobody (has_nobody profile) marks given.closables h.0 id h.1 h.2,
)
