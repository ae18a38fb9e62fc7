-- What a way costs, step by step.
use Rattle.std.specs.Prelude.{◌≡◌, ◌⊎◌, ℕ, List, ◌++◌, codes, length, Option, Some, None, false}
use Rattle.std.specs.Fmt.{decimal}
use Rattle.venue_types.specs.declared.feature_id.FeatureId.{FeatureId}
use Rattle.venue_types.specs.declared.link.Link.{Link}
use Rattle.venue_types.specs.declared.query.Ask.TheVariants as ask
use Rattle.venue_types.specs.declared.query.Query.{Query}
use Rattle.venue_types.specs.declared.reply.Reply.{Reply}
use Rattle.venue_types.specs.declared.reply.Reply.TheVariants as reply
use Rattle.venue_types.specs.declared.settings.Profile.{Profile}
use Rattle.line_forms.specs.Lines.{line}
use Rattle.route_answers.specs.Walks.{IsLeast, IsWalk}
use Rattle.feature_rows.specs.Rows.{feature_count}
use Rattle.version_board.specs.Nodes.{nodes}
use Rattle.version_board.specs.Links.{links}
use Rattle.version_board.specs.Views.{link_view}
use Rattle.version_board.specs.Venues.{SeenVenue as Venue}
use Rattle.version_board.specs.Answers.{IsTrip}
use Rattle.version_board.specs.Closed.{Version}
use Rattle.version_board.specs.Versions.{after, Fits}
use Rattle.version_board.specs.Ways.{Usable}
use Rattle.venue_commands.specs.BuildingReports.{HasCost, HasNone, IsWayLine, IsBehindClosing, closing, first_room, last_room, lowest_lift}

-- the question for a way, at whatever version stands, and without a certificate
abbrev pub route_query : List ℕ → FeatureId → FeatureId → Query
route_query name from to = record { since = None; what = ask.Route from to name false }

-- the cost that a reply tells, if it tells a way
abbrev pub cost_told : Reply → Option ℕ
cost_told (reply.Route number from to profile start cost steps potentials) = Some cost
cost_told _ = None

-- what a cheapest walk between two features costs
pub record HasCostBetween (v : Version) (name : List ℕ) (from to : FeatureId) (cost : ℕ) : Type 0 where
  pub place : ℕ
  pub profile : Profile
  pub a : ℕ
  pub b : ℕ
  pub trip : IsTrip v from to name place profile a b
  pub walk : List Link
  pub least : IsLeast link_view (Usable v place profile) a b walk cost

-- no walk leads from one feature to another
abbrev pub HasNoneBetween : Version → List ℕ → FeatureId → FeatureId → Type 0
HasNoneBetween v name from to = (place : ℕ) (profile : Profile) (a b : ℕ) (walk : List Link) → IsTrip v from to name place profile a b
    → ¬ IsWalk link_view (Usable v place profile) a b walk

-- the cost is that of a cheapest walk between two features, or there is none
abbrev pub IsCostBetween : Version → List ℕ → FeatureId → FeatureId → Option ℕ → Type 0
IsCostBetween v name from to (Some cost) = HasCostBetween v name from to cost
IsCostBetween v name from to None = HasNoneBetween v name from to

-- the cost is that of a cheapest walk between the features of two numbers, or there is none
abbrev pub IsCost : Version → List ℕ → ℕ → ℕ → Option ℕ → Type 0
IsCost v name start finish (Some cost) = HasCost v name start finish cost
IsCost v name start finish None = HasNone v name start finish

-- the line of a way of this cost
abbrev pub way_line : List ℕ → Option ℕ → List ℕ
way_line name (Some cost) = line (name ++ codes " " ++ decimal cost)
way_line name None = line (name ++ codes " none")

-- the version behind the closing of a feature; where it can't be closed, the version before
abbrev pub IsBehindChange : FeatureId → Version → Version → Type 0
IsBehindChange id v w = (Fits v (closing v id) × (w ≡ after v (closing v id))) ⊎ ((¬ Fits v (closing v id)) × (w ≡ v))

-- the lines that tell how large a venue is
abbrev pub size_lines : Venue → List ℕ
size_lines venue = line (codes "features " ++ decimal (feature_count venue.features))
    ++ line (codes "nodes " ++ decimal (length (nodes venue.features venue.settings)))
    ++ line (codes "links " ++ decimal (length (links venue.features venue.settings)))

-- the lines of a wheelchair's way and that on foot
pub record AreBothLines (v : Version) (start finish : ℕ) (text : List ℕ) : Type 0 where
  pub rolling : List ℕ
  pub rolling_is : IsWayLine v (codes "wheelchair") start finish rolling
  pub walking : List ℕ
  pub walking_is : IsWayLine v (codes "walk") start finish walking
  pub spelled : text ≡ rolling ++ walking

-- the line of the version in front of those
pub record AreLaterLines (v : Version) (start finish : ℕ) (text : List ℕ) : Type 0 where
  pub ways : List ℕ
  pub ways_are : AreBothLines v start finish ways
  pub spelled : text ≡ line (codes "version " ++ decimal v.number) ++ ways

-- a wheelchair's way at a version, and those lines at the version behind the closing of the lowest lift
pub record AreActLines (levels : ℕ) (v : Version) (text : List ℕ) : Type 0 where
  pub later : Version
  pub closing : IsBehindClosing (lowest_lift levels) v later
  pub before : List ℕ
  pub before_is : IsWayLine v (codes "wheelchair") (first_room levels) (last_room levels) before
  pub behind : List ℕ
  pub behind_are : AreLaterLines later (first_room levels) (last_room levels) behind
  pub spelled : text ≡ before ++ behind
