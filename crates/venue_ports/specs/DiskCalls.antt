-- The record of the calls on a disk in memory, and the moments that are read from it.
use Rattle.std.specs.Prelude.{◌≡◌, ℕ, ◌+◌, ◌-◌, ◌≤◌, ◌<◌, List, [], ◌∷◌, ◌++◌, length, take, drop, Bool, true, false, Option, Some, None, if◌then◌else◌, nat_le}
use Rattle.venue_ports.specs.Moments.{Moment, with_piece}
use Rattle.venue_ports.specs.Plans.{Held}
use Rattle.venue_ports.specs.declared.disk_calls.DiskCall.{DiskCall}
use Rattle.venue_ports.specs.declared.disk_calls.DiskCallKind.{DiskCallKind}
use Rattle.venue_ports.specs.declared.disk_calls.DiskCallKind.TheVariants.{Len, Read, Write, Sync}

-- the first content, the calls since, the first one first, the bytes that they put, one call after the other, the room for all
-- bytes and for all calls, and whether there was a call without room
pub record DiskRecord : Type 0 where
  pub first : List ℕ
  pub calls : List DiskCall
  pub put : List ℕ
  pub room : ℕ
  pub most : ℕ
  pub ended : Bool

-- the same, where the first content and what the calls put stand in one list, of which so many bytes are the first content
abbrev pub record_of : ℕ → Held → List DiskCall → ℕ → Bool → DiskRecord
record_of first bytes calls most ended =
    record { first = take first bytes.bytes; calls = calls; put = drop first bytes.bytes; room = bytes.room; most = most; ended = ended }

-- before the first call, of a disk that was synced
abbrev pub first_moment : List ℕ → Moment
first_moment bytes = record { reads = bytes; synced = bytes; loose = [] }

-- the moment of a call of this kind that put these bytes
abbrev pub after_kind : DiskCallKind → DiskCall → List ℕ → Moment → Moment
after_kind Len call put now = now
after_kind Read call put now = now
after_kind Write call put now = record { reads = with_piece now.reads call.at put; synced = now.synced; loose = record { at = call.at; count = call.count } ∷ now.loose }
after_kind Sync call put now = if call.failed then now else record { reads = now.reads; synced = now.reads; loose = [] }

abbrev pub after_call : DiskCall → List ℕ → Moment → Moment
after_call call put now = after_kind call.kind call put now

abbrev pub add_call : DiskCall → List ℕ → List Moment → List Moment
add_call call put [] = []
add_call call put (now ∷ past) = after_call call put now ∷ (now ∷ past)

-- the moments that these calls add, which put these bytes
abbrev pub add_calls : List DiskCall → List ℕ → List Moment → List Moment
add_calls [] put moments = moments
add_calls (call ∷ calls) put moments = add_calls calls (drop call.put put) (add_call call (take call.put put) moments)

-- the moments of these calls on a disk with this first content
abbrev pub moments_of : List ℕ → List DiskCall → List ℕ → List Moment
moments_of first calls put = add_calls calls put (first_moment first ∷ [])

-- the moments that are told: none after a call without room
abbrev pub record_moments : DiskRecord → List Moment
record_moments r = if r.ended then [] else moments_of r.first r.calls r.put

-- what a read gives now
abbrev pub newest_reads : List Moment → List ℕ
newest_reads [] = []
newest_reads (now ∷ past) = now.reads

abbrev pub content_of : DiskRecord → List ℕ
content_of r = newest_reads (moments_of r.first r.calls r.put)

-- there is no room for a call more
abbrev pub is_full : DiskRecord → Bool
is_full r = nat_le r.most (length r.calls)

-- how many bytes more may be put
abbrev pub bytes_left : DiskRecord → ℕ
bytes_left r = r.room - (length r.first + length r.put)

-- the record with a call more, or ended
abbrev pub noted : DiskCall → List ℕ → DiskRecord → DiskRecord
noted call put r = if is_full r then record r { ended = true } else record r { calls = r.calls ++ call ∷ []; put = r.put ++ put }

-- what the moments are then
abbrev pub noted_moments : DiskCall → List ℕ → DiskRecord → List Moment
noted_moments call put r = if is_full r then [] else add_call call put (record_moments r)

-- how many bytes all these calls put
abbrev pub count_put : List DiskCall → ℕ
count_put [] = 0
count_put (call ∷ calls) = call.put + count_put calls

-- the bytes are those that the calls put and have room, what a read gives stands beside them, and an ended record is full
pub record IsKept (r : DiskRecord) (reads : List ℕ) : Type 0 where
  pub counts : count_put r.calls ≡ length r.put
  pub content : reads ≡ content_of r
  pub fits : length reads ≤ length r.first + length r.put
  pub room : length r.first + length r.put ≤ r.room
  pub full : r.ended ≡ true → r.most ≤ length r.calls

-- room that no disk has yet
abbrev pub unused : ℕ → ℕ → DiskRecord
unused room most = record { first = []; calls = []; put = []; room = room; most = most; ended = false }

abbrev pub IsUnused : Option DiskRecord → Type 0
IsUnused None = Unit {0}
IsUnused (Some r) = r ≡ unused r.room r.most

-- there are no bytes, or no room for them
abbrev pub LacksRoom : Option DiskRecord → Option (List ℕ) → Type 0
LacksRoom None found = Unit {0}
LacksRoom (Some r) None = Unit {0}
LacksRoom (Some r) (Some bytes) = r.room < length bytes

-- the record of a disk over these bytes, where there are bytes
abbrev pub opened_record : Option DiskRecord → Option (List ℕ) → Option DiskRecord
opened_record None found = None
opened_record (Some r) None = None
opened_record (Some r) (Some bytes) = Some (record r { first = bytes })
