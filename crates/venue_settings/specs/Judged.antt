-- What a part of the program that looks for a fault gives.
use Rattle.std.specs.Prelude.{◌≡◌, ◌≢◌, Option, Some, None, Result, Ok, Err}
use Rattle.venue_settings.specs.declared.fault.SettingsFault.{SettingsFault}
use Rattle.venue_settings.specs.declared.fault.SettingsFault.TheVariants as fault

-- the error is want of memory, or the fault
abbrev pub IsFault : Option SettingsFault → SettingsFault → Type 0
IsFault found error = error ≢ fault.OutOfMemory → found ≡ Some error

-- there is no fault, or it is the error
abbrev pub IsJudged : {T : Type 0} → Option SettingsFault → Result T SettingsFault → Type 0
IsJudged found (Ok value) = found ≡ None
IsJudged found (Err error) = IsFault found error
