-- The program's tables of keys beside the definition's.
use Rattle.venue_settings.specs.declared.keys.Key.{Key}
use Rattle.venue_settings.specs.Keys.{Row}

-- the row of a key
abbrev pub row_of : Key → Row
row_of key = record { name = key.name.now; needed = key.needed; form = key.form; low = key.low; high = key.high }
