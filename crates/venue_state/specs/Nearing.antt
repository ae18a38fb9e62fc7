-- What is known of the nearest amenities of a category: the code's own machinery.
use Rattle.std.specs.Prelude.{◌≡◌, ℕ, ◌<◌, ◌↔◌, List, map, option_map, Some, Contains}
use Rattle.std.specs.List.Sorted.{IsStrictlyIncreasing}
use Rattle.venue_types.specs.declared.features.Features.{Features}
use Rattle.venue_types.specs.declared.reply.NearRow.{NearRow}
use Rattle.venue_types.specs.declared.reply.NearTold.{NearTold}
use Rattle.venue_types.specs.Nearest.{Nearest}
use Rattle.nearest_place.specs.declared.near.Near.{Near}
use Rattle.nearest_place.specs.declared.near.NearWalk.{NearWalk}
use Rattle.nearest_place.specs.Near.{row_of}
use Rattle.venue_history.specs.Closed.{Version}
use Rattle.venue_history.specs.Nearest.{IsCandidate, RepeatsNear, if_asked, near_row_of}
use Rattle.venue_history.specs.Ways.{name_of, mark_of}

-- of the first so many nodes those that stand for amenities of the category, rising
pub record AreCandidatesTo (features : Features) (category : List ℕ) (count : ℕ) (found : List ℕ) : Type 0 where
  pub rising : IsStrictlyIncreasing found
  pub exact : (n : ℕ) → Contains found n ↔ (n < count) × IsCandidate features category n

-- a row of a search as a reply tells it
abbrev pub told_row : Version → NearWalk → NearRow
told_row v row = near_row_of v (row_of row)

-- what was found from a node is told, and what was asked is told again
pub record TellsNear (v : Version) (asked : Nearest) (a : ℕ) (near : Near) (it : NearTold) : Type 0 where
  pub numbered : it.number ≡ v.number
  pub repeats : RepeatsNear asked it
  pub started : it.start ≡ (name_of v a).id
  pub rowed : it.places ≡ map (told_row v) near.rows
  pub shown : it.potentials ≡ if_asked asked.certificate (Some (map (mark_of v) near.potentials))
  pub reaches : it.reached ≡ if_asked asked.certificate (option_map (map (name_of v)) near.reached)
