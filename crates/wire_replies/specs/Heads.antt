-- The status of each reply, and the lines of its head.
use Rattle.std.specs.Prelude.{ℕ, Bool, true, false, List, [], ◌++◌, codes, if◌then◌else◌, Option, Some, None}
use Rattle.http.specs.StatusCode.{status_text}
use Rattle.venue_types.specs.declared.reply.Reply.{Reply}
use Rattle.venue_types.specs.declared.reply.Reply.TheVariants as reply
use Rattle.wire_frames.specs.declared.refusals.Methods.{Methods}
use Rattle.wire_frames.specs.declared.refusals.Methods.TheVariants.{Get, Post, Both}
use Rattle.wire_frames.specs.declared.refusals.Refusal.{Refusal}
use Rattle.wire_frames.specs.declared.refusals.Refusal.TheVariants as refusal

-- the status of a reply (RFC 9110, section 15)
abbrev pub reply_status : Reply → ℕ
reply_status (reply.Version version closed places) = 200
reply_status (reply.Places version rows) = 200
reply_status (reply.Place told) = 200
reply_status (reply.Closures told) = 200
reply_status (reply.Route version from to profile start cost steps potentials) = 200
reply_status (reply.NoRoute version from to profile reached) = 200
reply_status (reply.Tour told) = 200
reply_status (reply.NoTour told) = 200
reply_status (reply.Nearest told) = 200
reply_status (reply.ClosureDone done) = 200
reply_status (reply.Published version dropped) = 200
reply_status (reply.Ahead since version) = 409
reply_status reply.NoProfile = 404
reply_status (reply.NoPlace which) = 404
reply_status reply.NoFeature = 404
reply_status (reply.FolderFault before after) = 502
reply_status (reply.Rejected report) = 422
reply_status (reply.HistoryFull version) = 409
reply_status (reply.JournalFault before after) = 502
reply_status reply.OutOfMemory = 503

-- the status of a refusal (RFC 9110, section 15; RFC 6585, section 5)
abbrev pub refusal_status : Refusal → ℕ
refusal_status refusal.HeadTooLarge = 431
refusal_status refusal.BadHead = 400
refusal_status refusal.TransferCoding = 501
refusal_status refusal.BodyTooLarge = 413
refusal_status refusal.NoPath = 404
refusal_status (refusal.Method methods) = 405
refusal_status refusal.NotStaff = 403
refusal_status refusal.BadBody = 400
refusal_status refusal.BadQuery = 400

-- whether a refusal ends the session: those of a head do, since nobody knows where the next one begins
abbrev pub ends_session : Refusal → Bool
ends_session refusal.HeadTooLarge = true
ends_session refusal.BadHead = true
ends_session refusal.TransferCoding = true
ends_session refusal.BodyTooLarge = true
ends_session refusal.NoPath = false
ends_session (refusal.Method methods) = false
ends_session refusal.NotStaff = false
ends_session refusal.BadBody = false
ends_session refusal.BadQuery = false

-- the methods that a refusal tells, where it is of the method (RFC 9110, section 15.5.6)
abbrev pub allowed : Refusal → Option Methods
allowed refusal.HeadTooLarge = None
allowed refusal.BadHead = None
allowed refusal.TransferCoding = None
allowed refusal.BodyTooLarge = None
allowed refusal.NoPath = None
allowed (refusal.Method methods) = Some methods
allowed refusal.NotStaff = None
allowed refusal.BadBody = None
allowed refusal.BadQuery = None

-- methods, as a list of RFC 9110, section 5.6.1
abbrev pub methods_text : Methods → List ℕ
methods_text Get = codes "GET"
methods_text Post = codes "POST"
methods_text Both = codes "GET, POST"

-- the field that tells methods (RFC 9110, section 10.2.1)
abbrev pub allow_line : Option Methods → List ℕ
allow_line None = []
allow_line (Some methods) = codes "allow: " ++ methods_text methods ++ codes "\r\n"

-- the field that tells the end of a session (RFC 9112, section 9.6)
abbrev pub connection_line : Bool → List ℕ
connection_line close = if close then codes "connection: close\r\n" else []

-- the status line (RFC 9112, section 4)
abbrev pub status_line : ℕ → List ℕ
status_line status = codes "HTTP/1.1 " ++ status_text status ++ codes "\r\n"

-- the form of the body, and the name of its length (RFC 9110, sections 8.3 and 8.6)
abbrev pub content_lines : List ℕ
content_lines = codes "content-type: application/json\r\ncontent-length: "

-- the end of the length's line, the further fields, and the empty line
abbrev pub last_lines : Option Methods → Bool → List ℕ
last_lines methods close = codes "\r\n" ++ allow_line methods ++ connection_line close ++ codes "\r\n"
