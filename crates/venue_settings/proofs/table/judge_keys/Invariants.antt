use Rattle.std.proofs.Common.{◌≡◌, drop, map}
use Rattle.toml.specs.View.{table_view}
use Rattle.venue_settings.specs.Faults.{first_of, key_fault}
use Rattle.venue_settings.specs.Table.{row_of}
use Rattle.venue_settings.proofs.table.judge_keys.Given as goal

-- what the keys that are left say is what all keys say
abbrev pub invariant-loop-key : goal.invariant-loop-key
invariant-loop-key l =
    first_of (map (key_fault (table_view l.table)) (map row_of (drop l.key-index l.keys))) ≡ first_of (map (key_fault (table_view l.table)) (map row_of l.keys))
