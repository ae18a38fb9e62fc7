use Rattle.std.proofs.Common.{◌≡◌, ◌++◌, drop, map}
use Rattle.std.specs.List.{filter_map}
use Rattle.toml.specs.Data.{as_str}
use Rattle.toml.specs.View.{view}
use Rattle.venue_settings.proofs.settings.texts_of.Given as goal

-- the texts so far and those of the values that are left are all texts
abbrev pub invariant-loop-value : goal.invariant-loop-value
invariant-loop-value l = l.texts ++ filter_map as_str (map view (drop l.value-index l.values)) ≡ filter_map as_str (map view l.values)
