-- Entries made at a version that is changed in place.
use Rattle.std.specs.Prelude.{◌≡◌, Bool, true, false, Option, Some, None}
use Rattle.std.specs.Arc.{arc_value}
use Rattle.venue_history.specs.declared.entry.Act.{Act}
use Rattle.venue_history.specs.declared.entry.Act.TheVariants.{Published, Closed, Reopened}
use Rattle.venue_history.specs.declared.entry.Entry.{Entry}
use Rattle.venue_history.specs.Closed.{Version}
use Rattle.venue_history.specs.Versions.{MayFollow, after}
use Rattle.venue_state.specs.declared.outgoing.Outgoing.{Outgoing}

-- the act closes a feature, or opens it again
abbrev pub IsClosureAct : Act → Type 0
IsClosureAct (Published venue) = ⊥
IsClosureAct (Closed it) = Unit {0}
IsClosureAct (Reopened it) = Unit {0}

-- the entry was made where it may follow, and else the version stays
abbrev pub IsEntered : Version → Entry → Bool → Version → Type 0
IsEntered old entry true new = MayFollow old entry × (new ≡ after old entry.act)
IsEntered old entry false new = (¬ MayFollow old entry) × (new ≡ old)

-- all of the version but its rows is there
pub record IsLeft (v : Version) (left : Outgoing) : Type 0 where
  pub number_is : left.number ≡ v.number
  pub settings_are : arc_value left.settings ≡ v.settings
  pub closed_is : left.closed ≡ v.closed

-- the entry was made behind whatever version this is left of, where it may follow, and else there is none
abbrev pub IsEnteredBehind : Outgoing → Entry → Option Version → Type 0
IsEnteredBehind left entry None = (v : Version) → IsLeft v left → ¬ MayFollow v entry
IsEnteredBehind left entry (Some new) = (v : Version) → IsLeft v left → MayFollow v entry × (new ≡ after v entry.act)
