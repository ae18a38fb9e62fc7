-- Doors and ways that are open, by marks.
use Rattle.std.proofs.Common.{◌≡◌, ◌≢◌, ℕ, ◌+◌, ◌<◌, ◌↔◌, cond, get_or, zero, suc, Bool, true, false, not, IsTrue, List, [], ◌∷◌, length, Option, Some, None, refl, sym, ap, ◌∙◌, subst, true≢false, arith}
use Rattle.std.specs.Prelude.{AllPairs, Contains, slice_get, slice_index_or}
use Rattle.std.specs.List.{position_from}
use Rattle.std.proofs.lemmas.List.{get_or_default}
use Rattle.std.proofs.lemmas.Option.{slice_get_read, slice_get_within, same_Some}
use Rattle.venue_types.specs.declared.feature_id.FeatureId.{FeatureId}
use Rattle.venue_types.specs.declared.link.Link.{Link}
use Rattle.venue_types.specs.declared.link.LinkFacts.{LinkFacts}
use Rattle.venue_types.specs.declared.link.Node.{Node}
use Rattle.venue_types.specs.declared.profile_set.ProfileSet.{ProfileSet}
use Rattle.venue_types.specs.ProfileSets.{has, nobody}
use Rattle.venue_types.proofs.ProfileSetLemmas.{has_nobody}
use Rattle.imdf_access.specs.declared.parts.EndFacts.{EndFacts}
use Rattle.venue_nodes.specs.Identity.{is_same}
use Rattle.venue_nodes.specs.Numbering.{number_among}
use Rattle.venue_nodes.proofs.Finding.{stands_there}
use Rattle.venue_nodes.proofs.Identifiers.{id_same}
use Rattle.venue_nodes.specs.Views.{node_list, closable_list}
use Rattle.link_graph.specs.declared.parts.Core.{Core}
use Rattle.link_graph.specs.declared.parts.Door.{Door}
use Rattle.link_graph.specs.Cores.{IsSoundCore, ends_in, barred_in, network_in}
use Rattle.link_graph.specs.Facts.{IsNodeClosed, IsWayClosed}
use Rattle.link_graph.specs.Marking.{chosen}
use Rattle.link_graph.specs.Networks.{joined_facts, link_facts}
use Rattle.link_graph.proofs.AskingItems.{at_place}
use Rattle.link_graph.proofs.AskingMarks.{from_chosen, chosen_exact}
use Rattle.link_graph.proofs.AskingRanges.{link_range}

-- ---- what stands in a list has a number

numbered_later : (b : Bool) (n : ℕ) (o : Option ℕ) → (o ≡ None → ⊥) → cond b (Some n) o ≡ None → ⊥
numbered_later true n o h e = cc
numbered_later false n o h e = h e

numbered_from : (ids : List FeatureId) (id : FeatureId) (n k : ℕ) → slice_get ids k ≡ Some id → position_from (λ other. is_same other id) n ids ≡ None → ⊥
numbered_from [] id n k at e = cc
numbered_from (x ∷ ids) id n zero at e =
    let here : is_same x id ≡ true = id_same x id (same_Some x id at) in
    let found : Some n ≡ None = rw here at e in
    cc
numbered_from (x ∷ ids) id n (suc k) at e = numbered_later (is_same x id) n (position_from (λ other. is_same other id) (n + 1) ids) (numbered_from ids id (n + 1) k at) e

pub numbered : (ids : List FeatureId) (id : FeatureId) (k : ℕ) → slice_get ids k ≡ Some id → number_among ids id ≡ None → ⊥
unfolding number_among
numbered ids id k at e = numbered_from ids id 0 k at e

-- ---- a mark that isn't set

open_exact : (b : Bool) {P : Type 0} → (P ↔ (b ≡ true)) → IsTrue (not b) ↔ ¬ P
open_exact true both = (λ h. absurd (true≢false (sym h)), λ none. absurd (none (both.1 refl)))
open_exact false both = (λ h p. true≢false (sym (both.0 p)), λ none. refl)

pub way_open : {X : Type 0} (test : X → Bool) (none : X) → test none ≡ false → (marks : List X) (ids : List FeatureId) (via : ℕ) (id : FeatureId) → AllPairs (λ a b. a ≢ b) ids → slice_get ids via ≡ Some id
    → IsTrue (not (test (slice_index_or marks via none))) ↔ ¬ IsWayClosed ids (chosen test marks ids) via
way_open test none fails marks ids via id once there =
    let both = chosen_exact test none fails marks ids via id once there in
    open_exact (test (slice_index_or marks via none)) (
      λ closed. both.0 (subst (λ (x : FeatureId). Contains (chosen test marks ids) x) (same_Some closed.0 id (sym closed.1 ∙ there)) closed.2),
      λ marked. (id, there, both.1 marked),
    )

-- ---- the feature of a node

same_node : (nodes : List Node) (n : ℕ) (node other : Node) → slice_get nodes n ≡ Some node → slice_get nodes n ≡ Some other → other ≡ node
same_node nodes n node other here there = same_Some other node (sym there ∙ here)

pub node_open : {X : Type 0} (test : X → Bool) (none : X) → test none ≡ false → (marks : List X) (ids : List FeatureId) (nodes : List Node) (n k : ℕ) (node : Node)
    → AllPairs (λ a b. a ≢ b) ids → slice_get nodes n ≡ Some node → number_among ids node.id ≡ Some k
    → IsTrue (not (test (slice_index_or marks k none))) ↔ ¬ IsNodeClosed nodes (chosen test marks ids) n
node_open test none fails marks ids nodes n k node once here is =
    let both = chosen_exact test none fails marks ids k node.id once (stands_there ids node.id k is) in
    open_exact (test (slice_index_or marks k none)) (
      λ closed. both.0 (subst (λ (other : Node). Contains (chosen test marks ids) other.id) (same_node nodes n node closed.0 here closed.1) closed.2),
      λ marked. (node, here, both.1 marked),
    )

pub node_always_open : {X : Type 0} (test : X → Bool) (none : X) (marks : List X) (ids : List FeatureId) (nodes : List Node) (n : ℕ) (node : Node)
    → slice_get nodes n ≡ Some node → number_among ids node.id ≡ None → ¬ IsNodeClosed nodes (chosen test marks ids) n
node_always_open test none marks ids nodes n node here is = λ closed.
    let there = subst (λ (other : Node). Contains (chosen test marks ids) other.id) (same_node nodes n node closed.0 here closed.1) closed.2 in
    let at = from_chosen test none marks ids node.id there in
    numbered ids node.id at.k at.there is

-- ---- of a graph

-- a node whose identifier has this number among what can be closed, or none
pub record HasNumber (core : Core) (n : ℕ) (number : Option ℕ) : Type 0 where
  pub node : Node
  pub there : slice_get (node_list core.nodes) n ≡ Some node
  pub is : number_among (closable_list core.nodes) node.id ≡ number

pub door_there : (core : Core) (n : ℕ) (door : Door) → IsSoundCore core → n < length (node_list core.nodes) → door ≡ get_or core.doors.items n door → slice_get core.doors.items n ≡ Some door
door_there core n door sound within here = let count = sound.doors.count in slice_get_read core.doors.items (length core.doors.items) n door refl (omega (arith, within, count)) here

pub door_number : (core : Core) (n : ℕ) (door : Door) (number : Option ℕ) → IsSoundCore core → n < length (node_list core.nodes) → door ≡ get_or core.doors.items n door → door.closable ≡ number → HasNumber core n number
door_number core n door number sound within here is =
    let node = at_place (node_list core.nodes) n within in
    let there = door_there core n door sound within here in
    record { node = node.0; there = node.1; is = sym (sound.doors.own n node.0 door node.1 there) ∙ is }

pub number_marked : (core : Core) (n k count : ℕ) → HasNumber core n (Some k) → count ≡ length (closable_list core.nodes) → k < count
number_marked core n k count h e =
    let within = slice_get_within (closable_list core.nodes) k h.node.id (stands_there (closable_list core.nodes) h.node.id k h.is) in
    omega (arith, within, e)

-- the features that are marked for a profile
abbrev closed_for : Core → List ProfileSet → ℕ → List FeatureId
closed_for core marks profile = chosen (has profile) marks (closable_list core.nodes)

pub free_by_number : (core : Core) (marks : List ProfileSet) (profile n k : ℕ) (set : Bool) → IsSoundCore core → HasNumber core n (Some k) → set ≡ has profile (slice_index_or marks k nobody)
    → IsTrue (not set) ↔ ¬ IsNodeClosed (node_list core.nodes) (closed_for core marks profile) n
free_by_number core marks profile n k set sound h e =
    subst (λ (b : Bool). IsTrue (not b) ↔ ¬ IsNodeClosed (node_list core.nodes) (closed_for core marks profile) n) (sym e)
    (node_open (has profile) nobody (has_nobody profile) marks (closable_list core.nodes) (node_list core.nodes) n k h.node sound.once h.there h.is)

pub free_without_number : (core : Core) (marks : List ProfileSet) (profile n : ℕ) → HasNumber core n None → IsTrue true ↔ ¬ IsNodeClosed (node_list core.nodes) (closed_for core marks profile) n
free_without_number core marks profile n h =
    let open_here = node_always_open (has profile) nobody marks (closable_list core.nodes) (node_list core.nodes) n h.node h.there h.is in
    (λ holds. open_here, λ none. refl)

pub free_way : (core : Core) (marks : List ProfileSet) (profile via : ℕ) (set : Bool) → IsSoundCore core → via < length (closable_list core.nodes) → set ≡ has profile (slice_index_or marks via nobody)
    → IsTrue (not set) ↔ ¬ IsWayClosed (closable_list core.nodes) (closed_for core marks profile) via
free_way core marks profile via set sound within e =
    let there = at_place (closable_list core.nodes) via within in
    subst (λ (b : Bool). IsTrue (not b) ↔ ¬ IsWayClosed (closable_list core.nodes) (closed_for core marks profile) via) (sym e)
    (way_open (has profile) nobody (has_nobody profile) marks (closable_list core.nodes) via there.0 sound.once there.1)

-- what is joined of both doors and the way of a link
pub facts_joined : (core : Core) (link : Link) (made : LinkFacts) (barred : Bool) (from to : EndFacts) → IsSoundCore core → Contains (network_in core).links link → barred ≡ get_or core.barred.items link.via barred → from ≡ ends_in core link.from → to ≡ ends_in core link.to
    → made ≡ joined_facts link.kind barred from to → made ≡ link_facts (network_in core) link
unfolding network_in barred_in link_facts
facts_joined core link made barred from to sound there read start finish is =
    let way = (link_range core link sound there).via in
    let count = sound.barred in
    let within : link.via < length core.barred.items = omega (arith, way, count) in
    let set : barred ≡ slice_index_or core.barred.items link.via false = read ∙ get_or_default core.barred.items link.via barred false within in
    is
    ∙ ap (λ (b : Bool). joined_facts link.kind b from to) set
    ∙ ap (λ (facts : EndFacts). joined_facts link.kind (slice_index_or core.barred.items link.via false) facts to) start
    ∙ ap (λ (facts : EndFacts). joined_facts link.kind (slice_index_or core.barred.items link.via false) (ends_in core link.from) facts) finish
