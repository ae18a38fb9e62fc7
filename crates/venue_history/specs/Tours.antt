-- Tours: from a place to another by stops that are visited in the order that costs least.
use Rattle.std.specs.Prelude.{◌≡◌, ℕ, ◌≤◌, List, [], ◌∷◌, map, length, sum_by, slice_get, Some}
use Rattle.venue_types.specs.declared.link.Link.{Link}
use Rattle.venue_types.specs.declared.feature_id.FeatureId.{FeatureId}
use Rattle.venue_types.specs.Tours.{Tour}
use Rattle.venue_types.specs.declared.reply.Leg.{Leg}
use Rattle.venue_types.specs.declared.settings.Profile.{Profile}
use Rattle.stop_order.specs.Orders.{IsOrder}
use Rattle.walk_laws.specs.Walks.{IsWalk, IsLeast, walk_cost}
use Rattle.venue_build.specs.Nodes.{place_of}
use Rattle.venue_build.specs.Views.{link_view}
use Rattle.venue_history.specs.Closed.{Version}
use Rattle.venue_history.specs.Ways.{Usable, profile_number, profile_of, step_of}

-- a tour that can be asked for: there is a profile of the name, with its number, and both ends and all stops are places, at these nodes
pub record IsTourTrip (v : Version) (asked : Tour) (number : ℕ) (profile : Profile) (a : ℕ) (stops : List ℕ) (b : ℕ) : Type 0 where
  pub has_number : profile_number v.settings asked.profile ≡ Some number
  pub has_profile : profile_of v.settings asked.profile ≡ Some profile
  pub has_from : place_of v.features asked.from ≡ Some a
  pub has_to : place_of v.features asked.to ≡ Some b
  pub has_stops : map (place_of v.features) asked.stops ≡ map Some stops

-- those of a list that stand at these places, in turn
abbrev pub ArePicked : {A : Type 0} → List A → List ℕ → List A → Type 0
ArePicked xs places picked = map (slice_get xs) places ≡ map Some picked

-- a walk leads from a to the first of these nodes, one from each of them to the next, and one from the last to b
abbrev pub Lead : (Link → Type 0) → ℕ → List ℕ → ℕ → List (List Link) → Type 0
Lead IsLink a [] b (walk ∷ []) = IsWalk link_view IsLink a b walk
Lead IsLink a (n ∷ ns) b (walk ∷ walks) = IsWalk link_view IsLink a n walk × Lead IsLink n ns b walks
Lead IsLink a _ b _ = ⊥

-- the same, and no walk from node to node costs less
abbrev pub LeadLeast : (Link → Type 0) → ℕ → List ℕ → ℕ → List (List Link) → Type 0
LeadLeast IsLink a [] b (walk ∷ []) = IsLeast link_view IsLink a b walk (walk_cost link_view walk)
LeadLeast IsLink a (n ∷ ns) b (walk ∷ walks) = IsLeast link_view IsLink a n walk (walk_cost link_view walk) × LeadLeast IsLink n ns b walks
LeadLeast IsLink a _ b _ = ⊥

-- what the walks cost together
abbrev pub walks_cost : List (List Link) → ℕ
walks_cost walks = sum_by (walk_cost link_view) walks

-- the walks lead from a by the nodes of all stops, each once, in the order of these numbers, to b
pub record Visits (IsLink : Link → Type 0) (a : ℕ) (stops : List ℕ) (b : ℕ) (order : List ℕ) (walks : List (List Link)) : Type 0 where
  pub nodes : List ℕ
  pub is_order : IsOrder (length stops) order
  pub picked : ArePicked stops order nodes
  pub lead : Lead IsLink a nodes b walks

-- a walk as the leg of a reply
abbrev pub leg_of : Version → List Link → Leg
leg_of v walk = record { cost = walk_cost link_view walk; steps = map (step_of v) walk }

-- walks of what may be used visit the stops in the order that is told, leg by leg as told, each a least one; and no walks that visit them, in whatever
-- order, cost less together
pub record IsTour (v : Version) (asked : Tour) (order : List FeatureId) (cost : ℕ) (legs : List Leg) : Type 0 where
  pub number : ℕ
  pub profile : Profile
  pub a : ℕ
  pub stops : List ℕ
  pub b : ℕ
  pub trip : IsTourTrip v asked number profile a stops b
  pub places : List ℕ
  pub walks : List (List Link)
  pub visits : Visits (Usable v number profile) a stops b places walks
  pub ordered : ArePicked asked.stops places order
  pub told : legs ≡ map (leg_of v) walks
  pub costs : cost ≡ walks_cost walks
  pub each : LeadLeast (Usable v number profile) a visits.nodes b walks
  pub least : (other : List ℕ) (others : List (List Link)) → Visits (Usable v number profile) a stops b other others → cost ≤ walks_cost others

-- no walks of what may be used visit the stops, in whatever order
pub record IsNoTour (v : Version) (asked : Tour) : Type 0 where
  pub number : ℕ
  pub profile : Profile
  pub a : ℕ
  pub stops : List ℕ
  pub b : ℕ
  pub trip : IsTourTrip v asked number profile a stops b
  pub none : (order : List ℕ) (walks : List (List Link)) → Visits (Usable v number profile) a stops b order walks → ⊥
