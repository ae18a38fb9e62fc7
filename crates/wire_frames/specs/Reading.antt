-- How the code goes about a head that is read: its fields first, then its parts. No definition of the public contract.
use Rattle.std.specs.Prelude.{◌≡◌, ℕ, ◌+◌, ◌<◌, ◌≤◌, List, length, take, drop, codes, Some, option_copied}
use Rattle.http1.specs.Fields.{values_named}
use Rattle.httparse.specs.Borrowed.{AreFields}
use Rattle.httparse.specs.Grammar.{RequestHead}
use Rattle.httparse.specs.declared.borrowed.Request.{Request}
use Rattle.wire_frames.specs.declared.refusals.Refusal.{Refusal}
use Rattle.wire_frames.specs.declared.refusals.Refusal.TheVariants.{HeadTooLarge, BadHead, TransferCoding, BodyTooLarge, NoPath, Method, NotStaff, BadBody, BadQuery}
use Rattle.wire_frames.specs.declared.frames.Framed.{Framed}
use Rattle.wire_frames.specs.declared.frames.Framing.{Framing}
use Rattle.wire_frames.specs.declared.parts.Parts.{Parts}
use Rattle.wire_frames.specs.Fields.{body_length, fields_of, closes}
use Rattle.wire_frames.specs.Frames.{IsPlainHead}
use Rattle.wire_frames.specs.Outcomes.{AreValues}

-- the fields of a head of this version give it its body's length
pub record GiveBody (minor : ℕ) (fields : List (List ℕ × List ℕ)) (body : ℕ) : Type 0 where
  pub host : minor ≡ 1 → length (values_named (codes "host") fields) ≡ 1
  pub length : body_length fields ≡ Some body

-- they name a transfer coding
abbrev pub NameCoding : List (List ℕ × List ℕ) → Type 0
NameCoding fields = 0 < length (values_named (codes "transfer-encoding") fields)

-- they refuse the head
abbrev pub RefuseHead : ℕ → List (List ℕ × List ℕ) → Refusal → Type 0
RefuseHead minor fields HeadTooLarge = ⊥
RefuseHead minor fields BadHead = (body : ℕ) → ¬ GiveBody minor fields body
RefuseHead minor fields TransferCoding = (body : ℕ) × GiveBody minor fields body × NameCoding fields
RefuseHead minor fields BodyTooLarge = (body : ℕ) × GiveBody minor fields body × (¬ NameCoding fields) × (65536 < body)
RefuseHead minor fields NoPath = ⊥
RefuseHead minor fields (Method methods) = ⊥
RefuseHead minor fields NotStaff = ⊥
RefuseHead minor fields BadBody = ⊥
RefuseHead minor fields BadQuery = ⊥

-- they don't
pub record FrameBody (minor : ℕ) (fields : List (List ℕ × List ℕ)) (body : ℕ) : Type 0 where
  pub gives : GiveBody minor fields body
  pub plain : ¬ NameCoding fields
  pub small : body ≤ 65536

-- the parser holds the parts of the head h
pub record Holds (request : Request) (h : RequestHead) : Type 0 where
  pub method : option_copied request.method ≡ Some h.method
  pub path : option_copied request.path ≡ Some h.target
  pub version : request.version ≡ Some h.minor
  pub fields : AreFields request.headers.now h.fields

-- the parts are those of the head h, whose fields don't refuse it
pub record ArePartsOf (h : RequestHead) (parts : Parts) : Type 0 where
  pub frames : FrameBody h.minor (fields_of h) parts.body
  pub method : parts.method.now ≡ h.method
  pub target : parts.target.now ≡ h.target
  pub staff_key : AreValues parts.staff_key (values_named (codes "x-staff-key") (fields_of h))
  pub close : parts.close ≡ closes h

-- the borrowed parts are those of the head, and the body behind it
pub record IsFramedFrom (bytes : List ℕ) (parts : Parts) (size : ℕ) (framed : Framed) : Type 0 where
  pub whole : size + parts.body ≤ length bytes
  pub method : framed.method.now ≡ parts.method.now
  pub target : framed.target.now ≡ parts.target.now
  pub staff_key : framed.staff_key ≡ parts.staff_key
  pub body : framed.body.now ≡ take parts.body (drop size bytes)
  pub length : framed.length ≡ size + parts.body
  pub close : framed.close ≡ parts.close

-- the message with these parts of a head of so many bytes: it wants more, or is there with the parts and its body
abbrev pub FramesBody : List ℕ → Parts → ℕ → Framing → Type 0
FramesBody bytes parts size (Framing.More least) = (length bytes < least) × (least ≡ size + parts.body)
FramesBody bytes parts size (Framing.Fault refusal) = ⊥
FramesBody bytes parts size (Framing.Framed framed) = IsFramedFrom bytes parts size framed

-- the parts are those of the whole head, which isn't refused
abbrev pub AreParts : List ℕ → ℕ → Parts → Type 0
AreParts head lines parts = (h : RequestHead) × IsPlainHead head lines h parts.body × ArePartsOf h parts
