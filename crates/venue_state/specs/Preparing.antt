-- Changes that are made ready at a version.
use Rattle.std.specs.Prelude.{◌≡◌, ◌⊎◌, ℕ, ◌-◌, List, [], Contains, Option, Some, None, IfSome, IsTrue}
use Rattle.std.specs.Arc.{arc_value}
use Rattle.venue_types.specs.declared.feature_id.FeatureId.{FeatureId}
use Rattle.venue_types.specs.ProfileSets.{has_all_of, has_any_of}
use Rattle.route_search.specs.Nodes.{closables}
use Rattle.venue_history.specs.declared.entry.Act.{Act}
use Rattle.venue_history.specs.declared.entry.Act.TheVariants.{Published, Closed, Reopened}
use Rattle.venue_history.specs.Changes.{dropped_ids}
use Rattle.venue_history.specs.Closed.{Version, closed_set}
use Rattle.venue_history.specs.Versions.{MayFollow, AreProfiles, after}
use Rattle.venue_state.specs.declared.prepared.NextBoard.{NextBoard}
use Rattle.venue_state.specs.declared.unready.Unready.{Unready}
use Rattle.venue_state.specs.declared.unready.Unready.TheVariants as unready

-- what is seen of a change that was made ready for two boards: what it brings, and how often its board is still to be had
pub record Given : Type 0 where
  pub ready : NextBoard
  pub left : ℕ

-- 1 where a board is still to be had
abbrev pub left_of : Option Version → ℕ
left_of None = 0
left_of (Some board) = 1

-- the handles that are still to be had are of the board that is ready
pub record AreHandles (one other : Option Version) (next : Version) : Type 0 where
  pub one_is : IfSome one (λ board. board ≡ next)
  pub other_is : IfSome other (λ board. board ≡ next)

-- the closed identifiers that the act drops, in their order: those that new rows can't close
abbrev pub dropped_by : Version → Act → List FeatureId
dropped_by v (Published venue) = dropped_ids v (arc_value venue).features
dropped_by v (Closed it) = []
dropped_by v (Reopened it) = []

-- the act is ready: its entry may follow the version, and the board is that of the version after it
pub record IsReady (v : Version) (act : Act) (worker : ℕ) (ready : NextBoard) : Type 0 where
  pub act_is : ready.entry.act ≡ act
  pub worker_is : ready.entry.worker ≡ worker
  pub may : MayFollow v ready.entry
  pub next_is : ready.board ≡ after v act
  pub dropped_are : ready.dropped ≡ dropped_by v act

-- it is ready, and its board is to be had twice
pub record IsPrepared (v : Version) (act : Act) (worker : ℕ) (prepared : Given) : Type 0 where
  pub ready : IsReady v act worker prepared.ready
  pub twice : prepared.left ≡ 2

-- the act is one under the version's settings: the venue that it publishes has them, or it is for profiles that they have, and for one at least
abbrev pub HasSettings : Version → Act → Type 0
HasSettings v (Published venue) = (arc_value venue).settings ≡ v.settings
HasSettings v (Closed it) = AreProfiles v.settings it.profiles
HasSettings v (Reopened it) = AreProfiles v.settings it.profiles

-- the act names a feature that can't be closed
abbrev pub LacksFeature : Version → Act → Type 0
LacksFeature v (Published venue) = ⊥
LacksFeature v (Closed it) = ¬ Contains (closables v.features) it.feature
LacksFeature v (Reopened it) = ¬ Contains (closables v.features) it.feature

-- the act names a feature that can be closed, and that is closed for all of its profiles already, or for none of them
abbrev pub IsDone : Version → Act → Type 0
IsDone v (Published venue) = ⊥
IsDone v (Closed it) = Contains (closables v.features) it.feature × IsTrue (has_all_of (closed_set v it.feature) it.profiles)
IsDone v (Reopened it) = Contains (closables v.features) it.feature × ¬ IsTrue (has_any_of (closed_set v it.feature) it.profiles)

-- the act names no feature, or one that can be closed and stands otherwise
abbrev pub IsDue : Version → Act → Type 0
IsDue v act = (¬ LacksFeature v act) × (¬ IsDone v act)

-- why an act isn't ready: its feature can't be closed, or stands so already, or neither and the version is the last; want of memory is free
abbrev pub IsUnready : Version → Act → Unready → Type 0
IsUnready v act unready.NoFeature = LacksFeature v act
IsUnready v act unready.Unchanged = IsDone v act
IsUnready v act unready.Full = (¬ LacksFeature v act) × (¬ IsDone v act) × (v.number ≡ v.settings.last_version)
IsUnready v act unready.OutOfMemory = Unit {0}

-- of a change that is ready the board was given away, where it was still to be had; else nothing changes
abbrev pub IsGiven : Given → Given → Option Version → Type 0
IsGiven prepared used given =
    (used.ready ≡ prepared.ready) × (used.left ≡ prepared.left - 1)
    × (((prepared.left ≡ 0) × (given ≡ None)) ⊎ ((¬ (prepared.left ≡ 0)) × (given ≡ Some prepared.ready.board)))

-- the board becomes the one that is ready, where it is still to be had; else nothing changes
abbrev pub IsApplied : Version → Given → Version → Given → Type 0
IsApplied old prepared new used =
    (used.ready ≡ prepared.ready) × (used.left ≡ prepared.left - 1)
    × (((prepared.left ≡ 0) × (new ≡ old)) ⊎ ((¬ (prepared.left ≡ 0)) × (new ≡ prepared.ready.board)))
