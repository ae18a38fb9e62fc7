-- What is marked as closed, and for whom.
use Rattle.std.specs.Prelude.{◌≡◌, ℕ, List, [], ◌∷◌, length, Bool, if◌then◌else◌}
use Rattle.venue_types.specs.declared.feature_id.FeatureId.{FeatureId}
use Rattle.venue_types.specs.declared.profile_set.ProfileSet.{ProfileSet}
use Rattle.venue_types.specs.ProfileSets.{has}
use Rattle.link_graph.specs.Networks.{Network}

-- of these identifiers those whose mark passes a test, in their order; what has no mark doesn't
abbrev pub chosen : {X : Type 0} → (X → Bool) → List X → List FeatureId → List FeatureId
chosen test marks [] = []
chosen test [] (id ∷ ids) = []
chosen test (mark ∷ marks) (id ∷ ids) = (if test mark then id ∷ chosen test marks ids else chosen test marks ids)

-- the identifiers of what is marked for the profile of this number, in the order of what can be closed
unfoldable pub marked : Network → List ProfileSet → ℕ → List FeatureId
marked network marks profile = chosen (has profile) marks network.closables

-- one mark for each feature that can be closed
abbrev pub AreMarksOf : Network → List ProfileSet → Type 0
AreMarksOf network marks = length marks ≡ length network.closables
