-- How long a connection keeps a worker waiting.
use Rattle.std.specs.Prelude.{ℕ, ◌*◌}
use Rattle.venue_sockets.specs.declared.limits.Awaited.{Awaited}
use Rattle.venue_sockets.specs.declared.limits.Awaited.TheVariants.{Bytes, Room, End}
use Rattle.venue_sockets.specs.declared.limits.Behind.{Behind}
use Rattle.venue_sockets.specs.declared.limits.Behind.TheVariants.{Nobody, Others, Crowd}

-- a second and a millisecond, in nanoseconds
abbrev pub second : ℕ
second = 1_000_000_000

abbrev pub millisecond : ℕ
millisecond = 1_000_000

-- the most nanoseconds that a worker waits in all, by what it waits for and by who waits behind: for bytes since the accept or the
-- last write, for room since the last read that gave bytes, and for the end since its own end
abbrev pub most_nanos : Awaited → Behind → ℕ
most_nanos Bytes Nobody = 30 * second
most_nanos Bytes Others = 50 * millisecond
most_nanos Bytes Crowd = 0
most_nanos Room Nobody = 60 * second
most_nanos Room Others = 2 * second
most_nanos Room Crowd = 200 * millisecond
most_nanos End Nobody = 2 * second
most_nanos End Others = 0
most_nanos End Crowd = 0
