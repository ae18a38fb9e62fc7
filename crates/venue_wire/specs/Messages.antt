-- What a framed message asks for, and how some bytes begin.
use Rattle.std.specs.Prelude.{◌≡◌, ◌<◌, length, ℕ, Bool, false, not, List, [], ◌∷◌, codes, if◌then◌else◌, Option, Some, None, bytes_eq}
use Rattle.std.specs.List.{list_any}
use Rattle.http1.specs.Fields.{values_named}
use Rattle.venue_types.specs.declared.query.Change.{Change}
use Rattle.venue_types.specs.declared.query.Query.{Query}
use Rattle.wire_frames.specs.Fields.{is_head}
use Rattle.wire_frames.specs.Frames.{IsShort, IsRefused, PlainFrame, HasFrame}
use Rattle.wire_frames.specs.declared.refusals.Refusal.{Refusal}
use Rattle.wire_frames.specs.declared.refusals.Refusal.TheVariants.{NoPath, Method, NotStaff, BadBody, BadQuery}
use Rattle.venue_wire.specs.Bodies.{AsksChange}
use Rattle.venue_wire.specs.Paths.{route_of, methods_of, has_method, is_get, path_in, query_in}
use Rattle.venue_wire.specs.Queries.{query_of}
use Rattle.venue_wire.specs.declared.calls.Call.{Call}
use Rattle.venue_wire.specs.declared.messages.Message.{Message}
use Rattle.venue_wire.specs.declared.messages.Taken.{Taken}
use Rattle.venue_wire.specs.declared.paths.Path.{Path}

-- there is one value, and it equals a key, byte for byte
abbrev pub is_one_key : List (List ℕ) → List (List ℕ) → Bool
is_one_key keys [] = false
is_one_key keys (value ∷ []) = list_any (λ key. bytes_eq key value) keys
is_one_key keys (value ∷ other ∷ values) = false

-- the message has exactly one `x-staff-key`, and it equals a key
abbrev pub is_staff : List (List ℕ) → PlainFrame → Bool
is_staff keys frame = is_one_key keys (values_named (codes "x-staff-key") frame.fields)

-- what is called at a path: method, then staff key
abbrev pub call_at : List (List ℕ) → PlainFrame → Path → Call
call_at keys frame path =
    if not (has_method (methods_of path) frame.method) then Call.Refused (Method (methods_of path))
    else if is_get frame.method then Call.Get path
    else if is_staff keys frame then Call.Post path
    else Call.Refused NotStaff

-- the same where there may be no path
abbrev pub call_if : List (List ℕ) → PlainFrame → Option Path → Call
call_if keys frame None = Call.Refused NoPath
call_if keys frame (Some path) = call_at keys frame path

-- what a frame calls, before its query or its body is judged: path, method, staff key, and the first that fails is answered
abbrev pub call_of : List (List ℕ) → PlainFrame → Call
call_of keys frame = call_if keys frame (route_of (path_in frame.target))

-- a refusal by path, method or key; of a HEAD, which no path has, the bare head of it is wanted
abbrev pub refused : List ℕ → Refusal → Message
refused method refusal = if is_head method then Message.Bare refusal else Message.Refused refusal

-- the question, or its refusal; a body is passed over
abbrev pub asked : Option Query → Message
asked None = Message.Refused BadQuery
asked (Some query) = Message.Ask query

-- the change that the body asks of the path, or its refusal; a query is passed over
abbrev pub IsChanged : Path → List ℕ → Message → Type 0
IsChanged path body (Message.Ask query) = ⊥
IsChanged path body (Message.Do change) = AsksChange path body change
IsChanged path body (Message.Refused refusal) = (refusal ≡ BadBody) × ((change : Change) → ¬ AsksChange path body change)
IsChanged path body (Message.Bare refusal) = ⊥
IsChanged path body Message.Unread = ⊥

-- what a call comes to with its frame's query or body
abbrev pub IsCalled : Call → PlainFrame → Message → Type 0
IsCalled (Call.Refused refusal) frame message = message ≡ refused frame.method refusal
IsCalled (Call.Get path) frame message = message ≡ asked (query_of path (path_in frame.target) (query_in frame.target))
IsCalled (Call.Post path) frame message = IsChanged path frame.body message

-- the frame asks for this, or is refused by this: the first of path, method, staff key, and query or body that fails
abbrev pub IsMessage : List (List ℕ) → PlainFrame → Message → Type 0
IsMessage keys frame message = IsCalled (call_of keys frame) frame message

-- what a call reads of its frame beside path, method and key: its query, or its body
abbrev pub read_by : Call → PlainFrame → List ℕ
read_by (Call.Refused refusal) frame = []
read_by (Call.Get path) frame = query_in frame.target
read_by (Call.Post path) frame = frame.body

-- the frame is this message; or it wasn't read, for want of memory, and its query or body has to be read and has a byte
abbrev pub IsTaken : List (List ℕ) → PlainFrame → Message → Type 0
IsTaken keys frame Message.Unread = 0 < length (read_by (call_of keys frame) frame)
IsTaken keys frame message = IsMessage keys frame message

-- this stands at the front of the bytes: less than a message, a refused head, or a message with its length and whether it closes
abbrev pub At : List (List ℕ) → List ℕ → Taken → Type 0
At keys bytes (Taken.More least) = IsShort bytes
At keys bytes (Taken.Fault refusal) = IsRefused bytes refusal
At keys bytes (Taken.Message message length close) =
    (frame : PlainFrame) × HasFrame bytes frame × IsTaken keys frame message × (length ≡ frame.length) × (close ≡ frame.close)
