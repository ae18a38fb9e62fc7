-- Where a journal goes on: the code's own machinery, which no public contract cites.
use Rattle.std.specs.Prelude.{◌≡◌, ℕ, ◌*◌, ◌^◌, ◌≤◌, List, length, Option, Some, None}
use Rattle.venue_types.specs.declared.settings.Settings.{Settings}
use Rattle.venue_ports.specs.Moments.{Moment, Now}
use Rattle.board_copies.specs.declared.resuming.Resumed.{Resumed}
use Rattle.board_copies.specs.declared.resuming.Resuming.{Resuming}
use Rattle.board_copies.specs.Stamps.{entries_of}
use Rattle.change_journal.specs.States.{IsReady}
use Rattle.change_journal.specs.Told.{recorded}
use Rattle.journal_restore.specs.declared.ending.End.{End}
use Rattle.journal_restore.specs.Restores.{IsReplayed, IsUnder, resumed_entries}

-- the board has the history's entries and settings, or both are none
abbrev pub IsFinished : Option Resuming → Option Resumed → Type 0
IsFinished None None = Unit {0}
IsFinished (Some resuming) (Some resumed) =
    (entries_of resumed.held.stamp ≡ entries_of resuming.stamp) × (resumed.held.board.settings ≡ resuming.version.settings)
IsFinished _ _ = ⊥

abbrev pub end_count : End → ℕ
end_count end = length (resumed_entries end.resumed)

-- the history is one under these settings or none, the records stand for it, and the gate is as a journal's type asks
pub record IsEnd (settings : Settings) (moments : List Moment) (end : End) : Type 0 where
  pub under : IsUnder settings (resumed_entries end.resumed) end.resumed
  pub replayed : Now (λ m. IsReplayed settings (end_count end) (resumed_entries end.resumed) m.reads) moments
  pub ready : Now (IsReady (recorded (end_count end) moments) end.gate end.is_shut) moments
  pub room : end.gate ≤ end_count end * 2 ^ 30
