-- The reader's own words: what of a record stands at a place, piece by piece, or that it can't.
use Rattle.std.specs.Prelude.{◌≡◌, ℕ, ◌+◌, ◌^◌, ◌≤◌, ◌<◌, List, [], ◌∷◌, ◌++◌, All, Option, Some, None, Bool, true, false, flat_map, length, drop}
use Rattle.std.specs.Int.{bytes_high_first}
use Rattle.venue_ports.specs.Moments.{Moment}
use Rattle.venue_types.specs.declared.files.Slot.{Slot}
use Rattle.venue_hall.specs.Records.{Logged, LoggedAct, IsWithinLimit, closed, reopened}
use Rattle.change_journal.specs.Texts.{record_body, slot_text, IsRecord}
use Rattle.change_journal.specs.Readers.{IsFoundAt, IsRecordWithin}
use Rattle.change_journal.specs.Looks.{Gives, Spans}
use Rattle.change_journal.specs.declared.slots.SlotForm.{SlotForm}
use Rattle.change_journal.specs.declared.slots.SlotForm.TheVariants as form
use Rattle.change_journal.specs.declared.slots.KeptSlot.{KeptSlot}
use Rattle.change_journal.specs.declared.heads.Head.{Head}
use Rattle.change_journal.specs.declared.heads.Head.TheVariants as head
use Rattle.change_journal.specs.declared.heads.Mark.{Mark}
use Rattle.change_journal.specs.declared.heads.Lead.{Lead}
use Rattle.change_journal.specs.declared.heads.Lead.TheVariants as lead

-- no file within the limit, and no slot, slots or body of a record stand in front
abbrev pub HasNoFile : List ℕ → Type 0
HasNoFile text = (file behind : List ℕ) → length file ≤ 33554432 → text ≡ bytes_high_first 8 (length file) ++ (file ++ behind) → ⊥

abbrev pub HasNoSlot : List ℕ → Type 0
HasNoSlot text = (slot : Slot) (behind : List ℕ) → IsWithinLimit slot → text ≡ slot_text slot ++ behind → ⊥

abbrev pub HasNoSlots : ℕ → List ℕ → Type 0
HasNoSlots count text = (slots : List Slot) (behind : List ℕ) → length slots ≡ count → All IsWithinLimit slots → text ≡ flat_map slot_text slots ++ behind → ⊥

abbrev pub HasNoBody : List ℕ → Type 0
HasNoBody text = (entry : Logged) (behind : List ℕ) → IsRecord entry → text ≡ record_body entry ++ behind → ⊥

-- where the body of a record stands in front, nothing follows it
abbrev pub HasNoMore : List ℕ → Type 0
HasNoMore text = (entry : Logged) (behind : List ℕ) → IsRecord entry → text ≡ record_body entry ++ behind → behind ≡ []

-- a file's length, or that none stands here
abbrev pub IsFileLength : ℕ → Option ℕ → List ℕ → Type 0
IsFileLength place (Some count) bytes = Spans place (place + 8) (bytes_high_first 8 count) bytes
IsFileLength place None bytes = HasNoFile (drop place bytes)

abbrev pub IsFileWithin : ℕ → ℕ → Option ℕ → Type 0
IsFileWithin place end (Some count) = (count ≤ 33554432) × (place + 8 + count ≤ end)
IsFileWithin place end None = Unit {0}

-- how a slot begins
abbrev pub IsSlotForm : ℕ → SlotForm → List ℕ → Type 0
IsSlotForm place form.Absent bytes = Spans place (place + 1) (0 ∷ []) bytes
IsSlotForm place (form.Held count) bytes = Spans place (place + 9) (1 ∷ bytes_high_first 8 count) bytes
IsSlotForm place form.Neither bytes = HasNoSlot (drop place bytes)

abbrev pub IsFormWithin : ℕ → ℕ → SlotForm → Type 0
IsFormWithin place end form.Absent = place + 1 ≤ end
IsFormWithin place end (form.Held count) = (count ≤ 33554432) × (place + 9 + count ≤ end)
IsFormWithin place end form.Neither = Unit {0}

-- a slot from a place to the next
pub record IsSlotTo (place next : ℕ) (bytes : List ℕ) : Type 0 where
  pub slot : Slot
  pub within : IsWithinLimit slot
  pub text : Spans place next (slot_text slot) bytes

abbrev pub IsSlotEnd : ℕ → Option ℕ → List ℕ → Type 0
IsSlotEnd place (Some next) bytes = IsSlotTo place next bytes
IsSlotEnd place None bytes = HasNoSlot (drop place bytes)

-- slots, one after the other
pub record AreSlotsTo (count place next : ℕ) (bytes : List ℕ) : Type 0 where
  pub slots : List Slot
  pub so_many : length slots ≡ count
  pub within : All IsWithinLimit slots
  pub text : Spans place next (flat_map slot_text slots) bytes

abbrev pub IsSlotsEnd : ℕ → ℕ → Option ℕ → List ℕ → Type 0
IsSlotsEnd count place (Some next) bytes = AreSlotsTo count place next bytes
IsSlotsEnd count place None bytes = HasNoSlots count (drop place bytes)

-- the end is behind the place or there, not past the disk's, and so far at most
pub record IsEndWithin (place most end next : ℕ) : Type 0 where
  pub behind : place ≤ next
  pub within : next ≤ end
  pub near : next ≤ place + most

-- a slot that was read
abbrev pub IsKeptSlot : ℕ → Option KeptSlot → List ℕ → Type 0
IsKeptSlot place (Some kept) bytes = Spans place kept.next (slot_text kept.slot) bytes
IsKeptSlot place None bytes = HasNoSlot (drop place bytes)

-- slots that were read, behind earlier ones
pub record AreKeptTo (count place : ℕ) (earlier slots : List Slot) (moments : List Moment) (next : ℕ) : Type 0 where
  pub added : List Slot
  pub longer : slots ≡ earlier ++ added
  pub so_many : length added ≡ count
  pub within : All IsWithinLimit added
  pub text : Gives moments (Spans place next (flat_map slot_text added))

abbrev pub AreKeptSlots : ℕ → ℕ → List Slot → List Slot → List Moment → Option ℕ → Type 0
AreKeptSlots count place earlier slots moments (Some next) = AreKeptTo count place earlier slots moments next
AreKeptSlots count place earlier slots moments None = Gives moments (λ bytes. HasNoSlots count (drop place bytes))

-- a kind and a worker, or that none of a record stand here
abbrev pub head_text : Head → List ℕ
head_text (head.Published worker) = 1 ∷ worker ∷ []
head_text (head.Closed worker) = 2 ∷ worker ∷ []
head_text (head.Reopened worker) = 3 ∷ worker ∷ []

abbrev pub head_worker : Head → ℕ
head_worker (head.Published worker) = worker
head_worker (head.Closed worker) = worker
head_worker (head.Reopened worker) = worker

abbrev pub IsHeadAt : ℕ → Option Head → List ℕ → Type 0
IsHeadAt place (Some it) bytes = Spans place (place + 2) (head_text it) bytes
IsHeadAt place None bytes = HasNoBody (drop place bytes)

abbrev pub IsHeadWithin : ℕ → ℕ → Option Head → Type 0
IsHeadWithin place end (Some it) = (head_worker it ≤ 16) × (place + 2 ≤ end)
IsHeadWithin place end None = Unit {0}

-- an identifier and a set, behind which there is a byte
abbrev pub mark_text : Mark → List ℕ
mark_text mark = bytes_high_first 16 mark.feature.0 ++ bytes_high_first 2 mark.profiles.0

abbrev pub IsMarkAt : ℕ → Option Mark → List ℕ → Type 0
IsMarkAt place (Some mark) bytes = Spans place (place + 18) (mark_text mark) bytes
IsMarkAt place None bytes = length bytes ≤ place + 18

abbrev pub IsMarkWithin : ℕ → ℕ → Option Mark → Type 0
IsMarkWithin place end (Some mark) = (place + 18 < end) × (mark.feature.0 < 2 ^ 128) × (mark.profiles.0 < 2 ^ 16)
IsMarkWithin place end None = Unit {0}

-- the head that a kind and a worker are, or that no record begins with these
abbrev pub IsHeadOf : ℕ → ℕ → Option Head → Type 0
IsHeadOf kind worker (Some it) = (kind ∷ worker ∷ [] ≡ head_text it) × (head_worker it ≤ 16)
IsHeadOf kind worker None = (behind : List ℕ) → HasNoBody (kind ∷ (worker ∷ behind))

-- what is done to a feature: it is closed, or open again
abbrev pub act_of : Bool → Mark → LoggedAct
act_of true mark = reopened mark.feature mark.profiles.0
act_of false mark = closed mark.feature mark.profiles.0

-- a closure's kind, or a reopening's
abbrev pub kind_of : Bool → ℕ
kind_of true = 3
kind_of false = 2

-- what is known at a gate before slots are read
abbrev pub IsLead : ℕ → Lead → List ℕ → Type 0
IsLead gate (lead.Found found) bytes = IsFoundAt gate found bytes
IsLead gate (lead.Published worker) bytes = Spans gate (gate + 3) (1 ∷ 1 ∷ worker ∷ []) bytes

abbrev pub IsLeadWithin : ℕ → ℕ → Lead → Type 0
IsLeadWithin gate end (lead.Found found) = IsRecordWithin gate end found
IsLeadWithin gate end (lead.Published worker) = (worker ≤ 16) × (gate + 3 ≤ end)
