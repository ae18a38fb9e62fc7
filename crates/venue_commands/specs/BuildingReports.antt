-- What is reported of a building that is made by arithmetic: how large it is, and how one gets through it before and after a lift is closed.
use Rattle.std.specs.Prelude.{◌≡◌, ◌⊎◌, ℕ, ◌-◌, ◌^◌, List, [], ◌++◌, length, codes, Some, Bool, true, false}
use Rattle.std.specs.Fmt.{decimal}
use Rattle.venue_types.specs.declared.feature_id.FeatureId.{FeatureId}
use Rattle.venue_types.specs.declared.finding.Report.{Report}
use Rattle.venue_types.specs.declared.link.Link.{Link}
use Rattle.venue_types.specs.declared.settings.Inside.TheVariants.{Straight}
use Rattle.venue_types.specs.declared.settings.Profile.{Profile}
use Rattle.venue_types.specs.declared.settings.Settings.{Settings}
use Rattle.venue_types.specs.Identifier.{identifier_read}
use Rattle.line_forms.specs.Lines.{line}
use Rattle.route_answers.specs.Walks.{IsLeast, IsWalk}
use Rattle.imdf_access.specs.Profiles.{built_in_profiles}
use Rattle.feature_rows.specs.Rows.{feature_count}
use Rattle.version_board.specs.Nodes.{nodes, place_of}
use Rattle.version_board.specs.Links.{links}
use Rattle.version_board.specs.Views.{link_view}
use Rattle.version_board.specs.Venues.{SeenVenue as Venue}
use Rattle.version_board.specs.Built.{IsRejected, IsVenueOf}
use Rattle.version_board.specs.Act.{Act}
use Rattle.version_board.specs.Act.TheVariants.{Closed}
use Rattle.version_board.specs.Closed.{Version, everybody}
use Rattle.version_board.specs.Histories.{opening_of}
use Rattle.version_board.specs.Versions.{after, Fits}
use Rattle.version_board.specs.Ways.{Usable, profile_number, profile_of}
use Rattle.check_text.specs.Text.{rejected_text}
use Rattle.gen_text.specs.Numbers.{identifier, unit_number, room_unit, lift_unit}
use Rattle.gen_text.specs.Texts.{building_files}

-- the settings of every building: those of the station, and nobody is staff
pub record AreBuildingSettings (settings : Settings) : Type 0 where
  pub kx_is : settings.kx ≡ 10000000
  pub ky_is : settings.ky ≡ 10000000
  pub border_is : settings.border_tol ≡ 1000
  pub contain_is : settings.contain_tol ≡ 5000
  pub inside_is : settings.inside ≡ Straight
  pub elevator_is : settings.extras.elevator ≡ 3000
  pub escalator_is : settings.extras.escalator ≡ 800
  pub movingwalkway_is : settings.extras.movingwalkway ≡ 0
  pub ramp_is : settings.extras.ramp ≡ 2000
  pub stairs_is : settings.extras.stairs ≡ 1500
  pub traversal_is : settings.extras.traversal ≡ 0
  pub last_is : settings.last_version ≡ 2 ^ 32 - 1
  pub staff_is : settings.staff_keys ≡ []
  pub profiles_are : settings.profiles ≡ built_in_profiles

-- this is the identifier of the feature of this number
abbrev pub IsNamed : ℕ → FeatureId → Type 0
IsNamed number id = identifier_read (identifier number) ≡ Some id

-- the feature of this number is a place, at this node
abbrev pub StandsAt : Version → ℕ → ℕ → Type 0
StandsAt v number n = (id : FeatureId) × IsNamed number id × (place_of v.features id ≡ Some n)

-- a way of somebody with the profile of this name between two features, from node to node
pub record IsTripOf (v : Version) (name : List ℕ) (start finish place : ℕ) (profile : Profile) (a b : ℕ) : Type 0 where
  pub place_is : profile_number v.settings name ≡ Some place
  pub profile_is : profile_of v.settings name ≡ Some profile
  pub start_is : StandsAt v start a
  pub finish_is : StandsAt v finish b

-- what a cheapest walk costs
pub record HasCost (v : Version) (name : List ℕ) (start finish cost : ℕ) : Type 0 where
  pub place : ℕ
  pub profile : Profile
  pub a : ℕ
  pub b : ℕ
  pub trip : IsTripOf v name start finish place profile a b
  pub walk : List Link
  pub least : IsLeast link_view (Usable v place profile) a b walk cost

-- no walk leads from the one feature to the other
abbrev pub HasNone : Version → List ℕ → ℕ → ℕ → Type 0
HasNone v name start finish = (place : ℕ) (profile : Profile) (a b : ℕ) (walk : List Link) → IsTripOf v name start finish place profile a b
    → ¬ IsWalk link_view (Usable v place profile) a b walk

-- the line of a way: the profile's name, and the cost, or `none`
abbrev pub IsWayLine : Version → List ℕ → ℕ → ℕ → List ℕ → Type 0
IsWayLine v name start finish text =
    ((cost : ℕ) × HasCost v name start finish cost × (text ≡ line (name ++ codes " " ++ decimal cost)))
    ⊎ (HasNone v name start finish × (text ≡ line (name ++ codes " none")))

-- the act that closes a feature for everybody at a version
abbrev pub closing : Version → FeatureId → Act
closing v id = Closed (record { feature = id; profiles = everybody v.settings })

-- the version behind the closing of a feature; where it can't be closed, the version before
abbrev pub IsBehindClosing : ℕ → Version → Version → Type 0
IsBehindClosing number v w =
    ((id : FeatureId) × IsNamed number id × Fits v (closing v id) × (w ≡ after v (closing v id)))
    ⊎ (((id : FeatureId) → IsNamed number id → ¬ Fits v (closing v id)) × (w ≡ v))

-- the first room of the lowest level, the last of the highest, and the lift of the lowest
abbrev pub first_room : ℕ → ℕ
first_room levels = unit_number levels 0 (room_unit 0)

abbrev pub last_room : ℕ → ℕ
last_room levels = unit_number levels (levels - 1) (room_unit 99)

abbrev pub lowest_lift : ℕ → ℕ
lowest_lift levels = unit_number levels 0 lift_unit

-- the lines: how many features, nodes and links; a wheelchair's way; the version behind the closing of the lowest lift; the same way
-- then, and that on foot
pub record IsSummary (levels : ℕ) (venue : Venue) (text : List ℕ) : Type 0 where
  pub later : Version
  pub closing : IsBehindClosing (lowest_lift levels) (opening_of venue) later
  pub before : List ℕ
  pub before_is : IsWayLine (opening_of venue) (codes "wheelchair") (first_room levels) (last_room levels) before
  pub behind : List ℕ
  pub behind_is : IsWayLine later (codes "wheelchair") (first_room levels) (last_room levels) behind
  pub on_foot : List ℕ
  pub on_foot_is : IsWayLine later (codes "walk") (first_room levels) (last_room levels) on_foot
  pub spelled : text
      ≡ line (codes "features " ++ decimal (feature_count venue.features))
      ++ line (codes "nodes " ++ decimal (length (nodes venue.features venue.settings)))
      ++ line (codes "links " ++ decimal (length (links venue.features venue.settings)))
      ++ before
      ++ line (codes "version " ++ decimal later.number)
      ++ behind
      ++ on_foot

-- what is told of a building of so many levels, and whether its folder is accepted: its lines, or the report of its files
pub data IsTold (levels : ℕ) : List ℕ → Bool → Type 0 where
  accepted : {text : List ℕ} (settings : Settings) (venue : Venue) → AreBuildingSettings settings → IsVenueOf (building_files levels) settings venue
      → IsSummary levels venue text → IsTold levels text true
  rejected : (settings : Settings) (report : Report) → AreBuildingSettings settings → IsRejected (building_files levels) settings report
      → IsTold levels (rejected_text report) false
