-- What an answer says of the bytes that it is about.
use Rattle.std.specs.Prelude.{◌≡◌, ℕ, ◌+◌, ◌<◌, List, [], ◌∷◌, ◌++◌, length, codes, ⊤}
use Rattle.httparse.specs.Grammar.{RequestHead}
use Rattle.http1.specs.Fields.{values_named}
use Rattle.wire_frames.specs.declared.heads.Extent.{Extent}
use Rattle.wire_frames.specs.declared.fields.Named.{Named}
use Rattle.wire_frames.specs.declared.fields.Named.TheVariants.{Absent, Once, Several}
use Rattle.wire_frames.specs.declared.frames.Framed.{Framed}
use Rattle.wire_frames.specs.declared.frames.Framing.{Framing}
use Rattle.wire_frames.specs.declared.refusals.Refusal.{Refusal}
use Rattle.wire_frames.specs.Frames.{IsShort, HasHead, PlainFrame}

-- no value, this one value, or more than one
abbrev pub AreValues : Named → List (List ℕ) → Type 0
AreValues Absent values = values ≡ []
AreValues (Once value) values = values ≡ value.now ∷ []
AreValues Several values = 1 < length values

-- the borrowed parts are those of the frame
pub record ShowsFrame (framed : Framed) (frame : PlainFrame) : Type 0 where
  pub method : framed.method.now ≡ frame.method
  pub target : framed.target.now ≡ frame.target
  pub staff_key : AreValues framed.staff_key (values_named (codes "x-staff-key") frame.fields)
  pub body : framed.body.now ≡ frame.body
  pub length : framed.length ≡ frame.length
  pub close : framed.close ≡ frame.close

-- the bytes are short, stay so while there are fewer than this in all, and a head that is there whole wants just its body's end
pub record WaitsFor (bytes : List ℕ) (least : ℕ) : Type 0 where
  pub short : IsShort bytes
  pub stays : (behind : List ℕ) → length (bytes ++ behind) < least → IsShort (bytes ++ behind)
  pub more : length bytes < least
  pub whole : (extent : Extent) (h : RequestHead) (body : ℕ) → HasHead bytes extent h body → least ≡ extent.length + body

-- P of the least length, where more has to come
abbrev pub IfMore : Framing → (ℕ → Type 0) → Type 0
IfMore (Framing.More least) P = P least
IfMore (Framing.Fault refusal) P = ⊤
IfMore (Framing.Framed framed) P = ⊤

-- P of the refusal, where there is one
abbrev pub IfFault : Framing → (Refusal → Type 0) → Type 0
IfFault (Framing.More least) P = ⊤
IfFault (Framing.Fault refusal) P = P refusal
IfFault (Framing.Framed framed) P = ⊤

-- P of the borrowed parts, where a message is there
abbrev pub IfFramed : Framing → (Framed → Type 0) → Type 0
IfFramed (Framing.More least) P = ⊤
IfFramed (Framing.Fault refusal) P = ⊤
IfFramed (Framing.Framed framed) P = P framed

-- more has to come
abbrev pub IsMore : Framing → Type 0
IsMore (Framing.More least) = ⊤
IsMore (Framing.Fault refusal) = ⊥
IsMore (Framing.Framed framed) = ⊥

-- a message is there, and P of its borrowed parts
abbrev pub IsFramedAnd : Framing → (Framed → Type 0) → Type 0
IsFramedAnd (Framing.More least) P = ⊥
IsFramedAnd (Framing.Fault refusal) P = ⊥
IsFramedAnd (Framing.Framed framed) P = P framed
