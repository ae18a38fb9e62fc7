-- What doors in memory tell.
use Rattle.std.specs.Prelude.{ℕ, List, Option, Some, Bool, take}
use Rattle.venue_ports.specs.Plans.{Plan}
use Rattle.venue_ports.specs.declared.memory_doors.MemoryDoors.{MemoryDoors}
use Rattle.venue_ports.specs.declared.memory_stream.MemoryStream.{MemoryStream}

abbrev pub doors_ready : MemoryDoors → Bool
doors_ready doors = doors.ready

abbrev pub doors_accepted : MemoryDoors → ℕ
doors_accepted doors = doors.accepted

-- which binds are to fail
abbrev pub doors_bind_plan : MemoryDoors → Plan
doors_bind_plan doors = doors.binds

-- which accepts are to fail
abbrev pub doors_accept_plan : MemoryDoors → Plan
doors_accept_plan doors = doors.accepts

abbrev pub doors_binds : MemoryDoors → Option ℕ
doors_binds doors = Some (doors_bind_plan doors).calls

abbrev pub doors_bound : MemoryDoors → Option (List ℕ)
doors_bound doors = Some (take doors.bound_len doors.bound)

-- the streams that are still to be accepted, the next one first
abbrev pub doors_streams : MemoryDoors → List MemoryStream
doors_streams doors = doors.streams.items

abbrev pub doors_faults : MemoryDoors → ℕ
doors_faults doors = doors.faults
