-- For whom each feature is closed after an act for some profiles of one.
use Rattle.std.proofs.Common.{◌≡◌, ◌∙◌, List, sym, ap, inl, inr}
use Rattle.std.specs.Prelude.{if◌then◌else◌}
use Rattle.venue_types.specs.declared.feature_id.FeatureId.{FeatureId}
use Rattle.venue_types.specs.declared.profile_set.ProfileSet.{ProfileSet}
use Rattle.venue_types.specs.ProfileSets.{joined, without}
use Rattle.route_search.specs.Identity.{is_same}
use Rattle.route_search.specs.Nodes.{closables}
use Rattle.route_search.proofs.Identifiers.{same_id}
use Rattle.venue_history.specs.declared.entry.Closing.{Closing}
use Rattle.venue_history.specs.Closed.{Version, set_in, closed_set}
use Rattle.venue_history.specs.Versions.{set_with, set_without, with_closed, without_closed}
use Rattle.venue_history.proofs.Closings.{closings_agree}
use Rattle.venue_state.specs.Tallies.{remarked}
use Rattle.venue_state.proofs.Marking.{tested, if_so, if_not}

-- the set that is changed is that of the one feature
changed_there : (change : ProfileSet → ProfileSet) (closed : List Closing) (id other : FeatureId)
    → (if is_same other id then change (set_in closed id) else set_in closed other) ≡ (if is_same other id then change (set_in closed other) else set_in closed other)
changed_there change closed id other = elim (tested (is_same other id)) [
  | inl same ↦
      if_so (is_same other id) (change (set_in closed id)) (set_in closed other) same
      ∙ ap (λ (x : FeatureId). change (set_in closed x)) (sym (same_id other id same))
      ∙ sym (if_so (is_same other id) (change (set_in closed other)) (set_in closed other) same)
  | inr apart ↦
      if_not (is_same other id) (change (set_in closed id)) (set_in closed other) apart
      ∙ sym (if_not (is_same other id) (change (set_in closed other)) (set_in closed other) apart)
]

pub closed_so : (v : Version) (it : Closing) → remarked (closables v.features) v.closed it.feature (joined (closed_set v it.feature) it.profiles) ≡ with_closed v it
closed_so v it =
    closings_agree (λ other. if is_same other it.feature then joined (closed_set v it.feature) it.profiles else closed_set v other) (set_with v it) (closables v.features)
    (λ id c. changed_there (λ (set : ProfileSet). joined set it.profiles) v.closed it.feature id)

pub reopened_so : (v : Version) (it : Closing) → remarked (closables v.features) v.closed it.feature (without (closed_set v it.feature) it.profiles) ≡ without_closed v it
reopened_so v it =
    closings_agree (λ other. if is_same other it.feature then without (closed_set v it.feature) it.profiles else closed_set v other) (set_without v it) (closables v.features)
    (λ id c. changed_there (λ (set : ProfileSet). without set it.profiles) v.closed it.feature id)
