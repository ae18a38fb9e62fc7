-- What is closed at every version to which a history leads.
use Rattle.std.proofs.Common.{◌≡◌, ◌≢◌, ◌∙◌, List, [], ◌∷◌, refl, sym, ap, subst, Some, false}
use Rattle.std.specs.Prelude.{not, map, AllPairs, All}
use Rattle.std.specs.List.{filter, Contains}
use Rattle.std.specs.Arc.{arc_value}
use Rattle.std.proofs.lemmas.List.Elements.{All-filter, All-contains_itself}
use Rattle.std.proofs.lemmas.List.Kept.{AllPairs-filter}
use Rattle.std.proofs.lemmas.Option.{same_Some}
use Rattle.venue_types.specs.declared.feature_id.FeatureId.{FeatureId}
use Rattle.venue_types.specs.declared.profile_set.ProfileSet.{ProfileSet}
use Rattle.venue_types.specs.ProfileSets.{nobody, is_empty}
use Rattle.venue_build.specs.Nodes.{closables}
use Rattle.venue_history.specs.declared.entry.Closing.{Closing}
use Rattle.venue_history.specs.declared.entry.Entry.{Entry}
use Rattle.venue_history.specs.declared.entry.Act.{Act}
use Rattle.venue_history.specs.declared.entry.Act.TheVariants.{Published, Closed, Reopened}
use Rattle.venue_history.specs.Closed.{Version, is_one_of, feature_of, set_in, closed_set, closed_ids}
use Rattle.venue_history.specs.Versions.{closings, set_with, set_without, after}
use Rattle.venue_history.specs.Histories.{after_all, opening_of, replay_from, Replays}
use Rattle.venue_history.proofs.Closings.{set_in_other, closings_again, features_of_closings, closings_none}

-- what is closed is made of the closable identifiers and of some set for each
IsMade : Version → Type 0
IsMade v = (set_of : FeatureId → ProfileSet) × (v.closed ≡ closings set_of (closables v.features))

after_made : (v : Version) (a : Act) → IsMade (after v a)
unfolding IsMade
after_made v (Published venue) = (closed_set v, refl)
after_made v (Closed it) = (set_with v it, refl)
after_made v (Reopened it) = (set_without v it, refl)

all_made : (v : Version) (es : List Entry) → IsMade v → IsMade (after_all v es)
all_made v [] made = made
all_made v (e ∷ es) made = all_made (after v e.act) es (after_made v e.act)

act_made : (a : Act) (es : List Entry) (v : Version) → replay_from a es ≡ Some v → IsMade v
unfolding IsMade
act_made (Published venue) es v r =
    let first = opening_of (arc_value venue) in
    subst IsMade (same_Some (after_all first es) v r) (all_made first es ((λ id. nobody), sym (closings_none (closables (arc_value venue).features))))
act_made (Closed it) es v r = absurd (cc r)
act_made (Reopened it) es v r = absurd (cc r)

replay_made : (h : List Entry) (v : Version) → Replays h v → IsMade v
replay_made [] v r = absurd (cc r.leads)
replay_made (e ∷ es) v r = act_made e.act es v r.leads

-- what is closed stands in the order of the closable identifiers, each with its set
pub closed_in_order : (h : List Entry) (v : Version) → Replays h v → v.closed ≡ closings (closed_set v) (closables v.features)
unfolding IsMade
closed_in_order h v r =
    let made = replay_made h v r in
    made.1 ∙ (sym (closings_again made.0 (closables v.features)) ∙ ap (λ (closed : List Closing). closings (set_in closed) (closables v.features)) (sym made.1))

-- so its identifiers are those of the closable ones whose set isn't empty
pub closed_kept : (h : List Entry) (v : Version) → Replays h v → closed_ids v ≡ filter (λ id. not (is_empty (closed_set v id))) (closables v.features)
closed_kept h v r = ap (map feature_of) (closed_in_order h v r) ∙ features_of_closings (closed_set v) (closables v.features)

-- they can be closed
pub closed_closable : (h : List Entry) (v : Version) → Replays h v → All (Contains (closables v.features)) (closed_ids v)
closed_closable h v r =
    subst (All (Contains (closables v.features))) (sym (closed_kept h v r))
    (All-filter (λ (id : FeatureId). not (is_empty (closed_set v id))) (Contains (closables v.features)) (closables v.features) (All-contains_itself (closables v.features)))

-- each once, as each can be closed once
pub closed_once : (h : List Entry) (v : Version) → Replays h v → AllPairs (λ a b. a ≢ b) (closables v.features) → AllPairs (λ a b. a ≢ b) (closed_ids v)
closed_once h v r once =
    subst (AllPairs (λ (a b : FeatureId). a ≢ b)) (sym (closed_kept h v r))
    (AllPairs-filter (λ (a b : FeatureId). a ≢ b) (λ (id : FeatureId). not (is_empty (closed_set v id))) (closables v.features) once)

-- what can't be closed is closed for nobody
pub unclosable_open : (h : List Entry) (v : Version) (id : FeatureId) → Replays h v → is_one_of (closables v.features) id ≡ false → closed_set v id ≡ nobody
unclosable_open h v id r other =
    ap (λ (closed : List Closing). set_in closed id) (closed_in_order h v r) ∙ set_in_other (closed_set v) (closables v.features) id other
