-- What is known of the ways between the places of a tour: the code's own machinery.
use Rattle.std.specs.Prelude.{◌≡◌, ◌↔◌, ℕ, ◌+◌, ◌<◌, ◌≤◌, ◌^◌, List, [], ◌∷◌, ◌++◌, length, map, take, All, Contains, Option, Some, None, option_and_then, slice_get, slice_index_or, Bool, true, false}
use Rattle.std.specs.List.{AllZip}
use Rattle.std.specs.List.Sorted.{IsStrictlyIncreasing}
use Rattle.venue_types.specs.declared.feature_id.FeatureId.{FeatureId}
use Rattle.venue_types.specs.declared.link.Link.{Link}
use Rattle.venue_types.specs.declared.reply.Leg.{Leg}
use Rattle.venue_types.specs.declared.reply.Reply.{Reply}
use Rattle.venue_types.specs.declared.reply.Reply.TheVariants as reply
use Rattle.venue_types.specs.declared.settings.Profile.{Profile}
use Rattle.venue_types.specs.Tours.{Tour}
use Rattle.stop_order.specs.declared.costs.Costs.{Costs}
use Rattle.stop_order.specs.declared.order.Order.{Order}
use Rattle.stop_order.specs.Orders.{cost_between}
use Rattle.walk_laws.specs.Walks.{HasNoWalk, IsLeast}
use Rattle.route_search.specs.declared.reached.Reach.{Reach}
use Rattle.route_search.specs.Nodes.{nodes, place_of}
use Rattle.route_search.specs.Networks.{Network, IsPassable}
use Rattle.route_search.specs.Reaches.{IsReachOver, HasEnough, cost_of}
use Rattle.route_search.specs.Views.{link_view}
use Rattle.venue_history.specs.Answers.{RepeatsTrip}
use Rattle.venue_history.specs.Closed.{Version}
use Rattle.venue_history.specs.Tours.{ArePicked, LeadLeast, Visits, leg_of, walks_cost}
use Rattle.venue_history.specs.Ways.{Usable, step_of}
use Rattle.venue_state.specs.declared.tour_ways.Way.{Way}

-- ---- ends

-- the nodes of all these places, or nothing where one is no place
abbrev pub AreNodes : Version → List FeatureId → Option (List ℕ) → Type 0
AreNodes v ids None = (id : FeatureId) × Contains ids id × (place_of v.features id ≡ None)
AreNodes v ids (Some ns) = (map (place_of v.features) ids ≡ map Some ns) × All (λ (n : ℕ). n < length (nodes v.features v.settings)) ns

-- so many of these nodes are different
abbrev pub IsCountOf : List ℕ → ℕ → Type 0
IsCountOf ns count = (different : List ℕ) × IsStrictlyIncreasing different × ((n : ℕ) → Contains different n ↔ Contains ns n) × (length different ≡ count)

-- none but these nodes are flagged
abbrev pub AreFlagsOf : List ℕ → List Bool → Type 0
AreFlagsOf ns flags = (n : ℕ) → slice_index_or flags n false ≡ true → Contains ns n

-- ---- ways

-- a search from the node over what may be used, which ended where so many of the flagged nodes were reached
pub record IsSearched (v : Version) (number : ℕ) (profile : Profile) (from : ℕ) (flags : List Bool) (count : ℕ) (reach : Reach) : Type 0 where
  pub given : Network
  pub closed : List FeatureId
  pub usable : (link : Link) → IsPassable given closed profile link ↔ Usable v number profile link
  pub over : IsReachOver (IsPassable given closed profile) from reach
  pub enough : HasEnough (λ n. slice_index_or flags n false) count reach
  pub cheap : (n cost : ℕ) → cost_of reach n ≡ Some cost → cost < 2 ^ 42

-- the way to a node as a search knows it
abbrev pub IsKnown : Reach → ℕ → Option Way → Type 0
IsKnown reach n None = cost_of reach n ≡ None
IsKnown reach n (Some way) = (cost_of reach n ≡ Some way.cost)
    × ((given : Network) (closed : List FeatureId) (profile : Profile) (from : ℕ) → IsReachOver (IsPassable given closed profile) from reach
    → IsLeast link_view (IsPassable given closed profile) from n way.walk way.cost)

-- a least walk from a node to a node and its small cost, or nothing where no walk leads there
abbrev pub IsWay : (Link → Type 0) → ℕ → ℕ → Option Way → Type 0
IsWay IsLink a b None = HasNoWalk link_view IsLink a b
IsWay IsLink a b (Some way) = IsLeast link_view IsLink a b way.walk way.cost × (way.cost < 2 ^ 42)

-- a row of a table: nothing in front, since no way leads back to the start, then a way to each of these nodes
abbrev pub IsRow : (ℕ → Option Way → Type 0) → List ℕ → List (Option Way) → Type 0
IsRow Is ns (None ∷ ways) = AllZip Is ns ways
IsRow Is ns _ = ⊥

-- the ways from the start to the stops, and from each stop to each stop and to the end
abbrev pub IsTable : (Link → Type 0) → ℕ → List ℕ → ℕ → List (List (Option Way)) → Type 0
IsTable IsLink a stops b [] = ⊥
IsTable IsLink a stops b (first ∷ rows) =
    IsRow (IsWay IsLink a) stops first × AllZip (λ n row. IsRow (IsWay IsLink n) (stops ++ b ∷ []) row) stops rows

-- the way from a place of a table to another
abbrev pub way_at : List (List (Option Way)) → ℕ → ℕ → Option Way
way_at table i j = option_and_then (λ row. option_and_then (λ way. way) (slice_get row j)) (slice_get table i)

abbrev pub way_cost : Option Way → Option ℕ
way_cost None = None
way_cost (Some way) = Some way.cost

-- ---- costs

-- the costs are those of the ways as far as this place, and none is another
pub record AreCostsTo (table : List (List (Option Way))) (rows : List (List (Option ℕ))) (n : ℕ) : Type 0 where
  pub long : length rows ≡ 10
  pub each : (i j : ℕ) → i < n → j < 10 → slice_index_or (slice_index_or rows i []) j None ≡ way_cost (way_at table i j)
  pub only : (i j cost : ℕ) → slice_index_or (slice_index_or rows i []) j None ≡ Some cost → way_cost (way_at table i j) ≡ Some cost

-- the same of one row
pub record IsCostRowTo (table : List (List (Option Way))) (i : ℕ) (row : List (Option ℕ)) (n : ℕ) : Type 0 where
  pub long : length row ≡ 10
  pub each : (j : ℕ) → j < n → slice_index_or row j None ≡ way_cost (way_at table i j)
  pub only : (j cost : ℕ) → slice_index_or row j None ≡ Some cost → way_cost (way_at table i j) ≡ Some cost

-- the costs are those of the ways
pub record AreCostsOf (table : List (List (Option Way))) (costs : Costs) : Type 0 where
  pub each : (i j : ℕ) → i < 10 → j < 10 → cost_between costs i j ≡ way_cost (way_at table i j)
  pub only : (i j cost : ℕ) → cost_between costs i j ≡ Some cost → way_cost (way_at table i j) ≡ Some cost

-- ---- legs

-- a way as the leg of a reply
abbrev pub told_leg : Version → Option Way → Leg
told_leg v None = record { cost = 0; steps = [] }
told_leg v (Some way) = record { cost = way.cost; steps = map (step_of v) way.walk }

-- from a place of a table by these stops, in turn, to the end
abbrev pub legs_along : Version → List (List (Option Way)) → ℕ → ℕ → List ℕ → List Leg
legs_along v table count i [] = told_leg v (way_at table i (count + 1)) ∷ []
legs_along v table count i (stop ∷ stops) = told_leg v (way_at table i (stop + 1)) ∷ legs_along v table count (stop + 1) stops

-- the stops in their order
abbrev pub places_of : Order → List ℕ
places_of order = take order.stops order.places

-- the reply tells this order of a table's places
abbrev pub TellsTour : Version → Tour → List (List (Option Way)) → Order → Reply → Type 0
TellsTour v asked table order (reply.Tour it) =
    (it.number ≡ v.number) × RepeatsTrip asked.from asked.to asked.profile it.from it.to it.profile × ArePicked asked.stops (places_of order) it.order
    × (it.cost ≡ order.cost) × (it.legs ≡ legs_along v table (length asked.stops) 0 (places_of order))
TellsTour v asked table order _ = ⊥

-- the reply repeats what was asked
abbrev pub TellsNoTour : Version → Tour → Reply → Type 0
TellsNoTour v asked (reply.NoTour it) =
    (it.number ≡ v.number) × RepeatsTrip asked.from asked.to asked.profile it.from it.to it.profile × (it.stops ≡ asked.stops)
TellsNoTour v asked _ = ⊥

-- walks along this order are told by its legs, each a least one, and no walks in whatever order cost less together
pub record IsBestTour (IsLink : Link → Type 0) (a : ℕ) (stops : List ℕ) (b : ℕ) (table : List (List (Option Way))) (order : List ℕ) (cost : ℕ) : Type 0 where
  pub walks : List (List Link)
  pub visits : Visits IsLink a stops b order walks
  pub each : LeadLeast IsLink a visits.nodes b walks
  pub told : (v : Version) → legs_along v table (length stops) 0 order ≡ map (leg_of v) walks
  pub costs : cost ≡ walks_cost walks
  pub least : (other : List ℕ) (others : List (List Link)) → Visits IsLink a stops b other others → cost ≤ walks_cost others
