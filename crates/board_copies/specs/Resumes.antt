-- A history that is replayed entry by entry.
use Rattle.std.specs.Prelude.{◌≡◌, List, [], ◌∷◌, ◌++◌, Bool, true, false, Option, Some, None}
use Rattle.venue_types.specs.declared.settings.Settings.{Settings}
use Rattle.venue_state.specs.Entry.{Entry}
use Rattle.venue_state.specs.Histories.{IsLegal}
use Rattle.board_copies.specs.declared.resuming.Resuming.{Resuming}
use Rattle.board_copies.specs.Stamps.{entries_of}

-- the entry stands behind those before it where these are a legal history then, and else nothing has changed
abbrev pub Enters : Resuming → Entry → Bool → Resuming → Type 0
Enters old entry true new = entries_of new.stamp ≡ entries_of old.stamp ++ entry ∷ []
Enters old entry false new = (¬ IsLegal (entries_of old.stamp ++ entry ∷ [])) × (entries_of new.stamp ≡ entries_of old.stamp)

-- the entry stands behind these, under the same settings, where they are a legal history then, and else there is none
abbrev pub EntersBehind : List Entry → Settings → Entry → Option Resuming → Type 0
EntersBehind entries settings entry None = ¬ IsLegal (entries ++ entry ∷ [])
EntersBehind entries settings entry (Some new) = (entries_of new.stamp ≡ entries ++ entry ∷ []) × (new.version.settings ≡ settings)
