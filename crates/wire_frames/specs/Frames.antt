-- How some bytes begin: less than a message, a head that is refused, or the frame of a message (RFC 9112, sections 2.2, 3, 5 and 6).
use Rattle.std.specs.Prelude.{◌≡◌, ℕ, ◌+◌, ◌<◌, ◌≤◌, ◌⊎◌, Bool, List, [], length, take, drop, Some, None}
use Rattle.httparse.specs.Grammar.{RequestHead, ReadsRequest}
use Rattle.wire_frames.specs.declared.heads.Extent.{Extent}
use Rattle.wire_frames.specs.declared.refusals.Refusal.{Refusal}
use Rattle.wire_frames.specs.declared.refusals.Refusal.TheVariants.{HeadTooLarge, BadHead, TransferCoding, BodyTooLarge, NoPath, Method, NotStaff, BadBody, BadQuery}
use Rattle.wire_frames.specs.Heads.{head_extent}
use Rattle.wire_frames.specs.Fields.{fields_of, body_length, HasOneHost, HasCoding, closes}

-- the head at the front ends within the first 16,384 bytes, and has this extent
abbrev pub HasEnd : List ℕ → Extent → Type 0
HasEnd bytes extent = head_extent (take 16384 bytes) ≡ Some extent

-- no head at the front ends within the first 16,384 bytes
abbrev pub HasNoEnd : List ℕ → Type 0
HasNoEnd bytes = head_extent (take 16384 bytes) ≡ None

-- the grammar reads the whole head, version 1.1 has exactly one host, and the fields give the body's length, 0 where none does
pub record IsGoodHead (head : List ℕ) (h : RequestHead) (body : ℕ) : Type 0 where
  pub reads : ReadsRequest head h []
  pub host : h.minor ≡ 1 → HasOneHost h
  pub length : body_length (fields_of h) ≡ Some body

-- the head has at most 64 lines behind its request line, is good, has no transfer coding, and frames at most 65,536 bytes of body
pub record IsPlainHead (head : List ℕ) (lines : ℕ) (h : RequestHead) (body : ℕ) : Type 0 where
  pub few : lines ≤ 65
  pub good : IsGoodHead head h body
  pub plain : ¬ HasCoding h
  pub small : body ≤ 65536

-- why a head of so many lines is refused, the first cause that holds
abbrev pub RefusesHead : List ℕ → ℕ → Refusal → Type 0
RefusesHead head lines HeadTooLarge = 65 < lines
RefusesHead head lines BadHead = (lines ≤ 65) × ((h : RequestHead) (body : ℕ) → ¬ IsGoodHead head h body)
RefusesHead head lines TransferCoding =
    (lines ≤ 65) × ((h : RequestHead) × (body : ℕ) × IsGoodHead head h body × HasCoding h)
RefusesHead head lines BodyTooLarge =
    (lines ≤ 65) × ((h : RequestHead) × (body : ℕ) × IsGoodHead head h body × (¬ HasCoding h) × (65536 < body))
RefusesHead head lines NoPath = ⊥
RefusesHead head lines (Method methods) = ⊥
RefusesHead head lines NotStaff = ⊥
RefusesHead head lines BadBody = ⊥
RefusesHead head lines BadQuery = ⊥

-- a head that isn't refused stands at the front
pub record HasHead (bytes : List ℕ) (extent : Extent) (h : RequestHead) (body : ℕ) : Type 0 where
  pub ends : HasEnd bytes extent
  pub head : IsPlainHead (take extent.length bytes) extent.lines h body

-- a head without its end and fewer than 16,384 bytes, or a head that isn't refused and less than its body
abbrev pub IsShort : List ℕ → Type 0
IsShort bytes =
    (HasNoEnd bytes × (length bytes < 16384))
    ⊎ ((extent : Extent) × (h : RequestHead) × (body : ℕ) × HasHead bytes extent h body × (length bytes < extent.length + body))

-- the head has no end within the first 16,384 bytes, which are there; or it has, and is refused
abbrev pub IsRefused : List ℕ → Refusal → Type 0
IsRefused bytes refusal =
    (HasNoEnd bytes × (16384 ≤ length bytes) × (refusal ≡ HeadTooLarge))
    ⊎ ((extent : Extent) × HasEnd bytes extent × RefusesHead (take extent.length bytes) extent.lines refusal)

-- what a message is, before its method, path and body are asked
pub record PlainFrame : Type 0 where
  pub method : List ℕ
  pub target : List ℕ
  pub fields : List (List ℕ × List ℕ)
  pub body : List ℕ
  pub length : ℕ
  pub close : Bool

-- a head that isn't refused stands at the front with its whole body, and the frame has their parts
pub record HasFrame (bytes : List ℕ) (frame : PlainFrame) : Type 0 where
  pub extent : Extent
  pub h : RequestHead
  pub size : ℕ
  pub head : HasHead bytes extent h size
  pub whole : extent.length + size ≤ length bytes
  pub method : frame.method ≡ h.method
  pub target : frame.target ≡ h.target
  pub fields : frame.fields ≡ fields_of h
  pub body : frame.body ≡ take size (drop extent.length bytes)
  pub length : frame.length ≡ extent.length + size
  pub close : frame.close ≡ closes h
