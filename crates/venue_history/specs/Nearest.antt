-- The nearest amenities of a category, by what the ways to them cost.
use Rattle.std.specs.Prelude.{◌≡◌, ℕ, ◌↔◌, List, map, length, Option, Some, None, option_map, slice_get, Bool, if◌then◌else◌, Contains}
use Rattle.std.specs.List.Sorted.{IsStrictlyIncreasing}
use Rattle.venue_types.specs.declared.features.AmenityRow.{AmenityRow}
use Rattle.venue_types.specs.declared.features.Features.{Features}
use Rattle.venue_types.specs.declared.link.Link.{Link}
use Rattle.venue_types.specs.declared.link.Potential.{Potential}
use Rattle.venue_types.specs.declared.reply.NearRow.{NearRow}
use Rattle.venue_types.specs.declared.reply.NearTold.{NearTold}
use Rattle.venue_types.specs.declared.settings.Profile.{Profile}
use Rattle.venue_types.specs.Nearest.{Nearest}
use Rattle.nearest_laws.specs.Nearest.{Row, IsNearest}
use Rattle.venue_build.specs.Nodes.{place_node_rows, amenity, nodes, place_of}
use Rattle.venue_build.specs.Views.{link_view, potential_view}
use Rattle.venue_history.specs.Closed.{Version}
use Rattle.venue_history.specs.Ways.{Usable, profile_number, profile_of, name_of, step_of, mark_of}

-- the node stands for an amenity whose category is the text, byte for byte
abbrev pub IsCandidate : Features → List ℕ → ℕ → Type 0
IsCandidate features category n = (row : AmenityRow) × (slice_get (place_node_rows features) n ≡ Some (amenity row)) × (row.category ≡ category)

-- all these nodes, rising
pub record AreCandidates (features : Features) (category candidates : List ℕ) : Type 0 where
  pub rising : IsStrictlyIncreasing candidates
  pub exact : (n : ℕ) → Contains candidates n ↔ IsCandidate features category n

-- a question for the nearest that can be asked: there is a profile of the name, with its number, and the start is a place, at this node
pub record IsNearTrip (v : Version) (asked : Nearest) (number : ℕ) (profile : Profile) (a : ℕ) : Type 0 where
  pub has_number : profile_number v.settings asked.profile ≡ Some number
  pub has_profile : profile_of v.settings asked.profile ≡ Some profile
  pub has_from : place_of v.features asked.from ≡ Some a

-- a row as a reply tells it
abbrev pub near_row_of : Version → Row Link → NearRow
near_row_of v row = record { id = (name_of v row.node).id; cost = row.cost; steps = map (step_of v) row.walk }

-- told where it was asked for
abbrev pub if_asked : {A : Type 0} → Bool → Option A → Option A
if_asked certificate told = if certificate then told else None

-- of the amenities of the category the nearest to the start, up to the limit, each with a least walk of what may be used, row by row as told; and
-- where it was asked for what shows that none nearer is left out, and where there are fewer than the limit what is reached
pub record AreNearest (v : Version) (asked : Nearest) (it : NearTold) : Type 0 where
  pub number : ℕ
  pub profile : Profile
  pub a : ℕ
  pub trip : IsNearTrip v asked number profile a
  pub candidates : List ℕ
  pub are : AreCandidates v.features asked.category candidates
  pub rows : List (Row Link)
  pub listed : List Potential
  pub reached : Option (List ℕ)
  pub nearest : IsNearest link_view potential_view (Usable v number profile) (length (nodes v.features v.settings)) a candidates asked.limit rows listed reached
  pub started : it.start ≡ (name_of v a).id
  pub rowed : it.places ≡ map (near_row_of v) rows
  pub shown : it.potentials ≡ if_asked asked.certificate (Some (map (mark_of v) listed))
  pub reaches : it.reached ≡ if_asked asked.certificate (option_map (map (name_of v)) reached)

-- the reply tells again what was asked
pub record RepeatsNear (asked : Nearest) (it : NearTold) : Type 0 where
  pub from_same : it.from ≡ asked.from
  pub category_same : it.category ≡ asked.category
  pub profile_same : it.profile ≡ asked.profile
