-- A table of settings that was judged and is good at each key.
use Rattle.std.specs.Prelude.{◌≡◌, None}
use Rattle.std.specs.List.{AllByRecursion}
use Rattle.toml.specs.Data.{Members}
use Rattle.venue_settings.specs.Faults.{key_fault}
use Rattle.venue_settings.specs.Keys.{settings_rows}

-- nothing is wrong at any key of the settings
abbrev pub IsSound : Members → Type 0
IsSound table = AllByRecursion (λ row. key_fault table row ≡ None) settings_rows
