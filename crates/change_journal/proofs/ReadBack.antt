-- What is read from the front of a text: a number, a slot, a record, and a journal's records.
use Rattle.std.proofs.Common.{◌≡◌, ℕ, zero, suc, ◌+◌, ◌*◌, ◌/◌, ◌^◌, ◌<◌, ◌≤◌, List, [], ◌∷◌, ◌++◌, All, length, take, drop}
use Rattle.std.proofs.Common.{fold, refl, sym, ◌∙◌, ap, arith, append_assoc, pow-suc}
use Rattle.std.proofs.Math.Nat.{div-eq_of_lt, div-div-eq-div-mul}
use Rattle.std.proofs.lemmas.List.{take_at, drop_at}
use Rattle.std.proofs.lemmas.List.Elements.{All-head, All-tail}
use Rattle.std.specs.Int.{byte_at, bytes_high_first}
use Rattle.std.specs.List.{flat_map}
use Rattle.venue_types.specs.declared.feature_id.FeatureId.{FeatureId}
use Rattle.venue_types.specs.declared.files.Slot.{Slot}
use Rattle.venue_types.specs.declared.files.Slot.TheVariants.{Absent, Held}
use Rattle.venue_hall.specs.Records.{Logged, LoggedAct, published, closed, reopened, IsWithinLimit, IsAct}
use Rattle.change_journal.specs.Texts.{slot_text, act_text, record_text, journal_text, HasRanges, IsRecord}
use Rattle.change_journal.specs.Reading.{number_of, SlotRead, read_slot, SlotsRead, read_slots, RecordRead, read_record, records_in}

-- the number above one byte more, and that byte
above_byte : (k n : ℕ) → n / 256 ^ suc k * 256 + byte_at k n ≡ n / 256 ^ k
above_byte zero n = omega arith
above_byte (suc k) n =
    let above : n / 256 ^ suc (suc k) ≡ n / 256 ^ suc k / 256 = ap (λ (m : ℕ). n / m) (pow-suc 256 (suc k)) ∙ sym (div-div-eq-div-mul n (256 ^ suc k) 256) in
    omega (arith, above)

-- a number is read from its last bytes, behind what stands above them
read_on : (k n : ℕ) → fold (λ high byte. high * 256 + byte) (n / 256 ^ k) (bytes_high_first k n) ≡ n
read_on zero n = omega arith
read_on (suc k) n = ap (λ (start : ℕ). fold (λ high byte. high * 256 + byte) start (bytes_high_first k n)) (above_byte k n) ∙ read_on k n

-- a number that k bytes hold is read from them
pub number_back : (k n : ℕ) → n < 256 ^ k → number_of (bytes_high_first k n) ≡ n
number_back k n small = ap (λ (start : ℕ). fold (λ high byte. high * 256 + byte) start (bytes_high_first k n)) (sym (div-eq_of_lt small)) ∙ read_on k n

-- a slot of so many bytes
held_of : ℕ → List ℕ → SlotRead
held_of n text = record { slot = Held (take n text); rest = drop n text }

held_as : List ℕ → List ℕ → SlotRead
held_as bytes rest = record { slot = Held bytes; rest = rest }

held_back : (bytes rest : List ℕ) → length bytes ≤ 33554432 → read_slot (slot_text (Held bytes) ++ rest) ≡ record { slot = Held bytes; rest = rest }
unfolding held_of held_as
held_back bytes rest within =
    let small : length bytes < 256 ^ 8 = omega (arith, within) in
    ap (λ (n : ℕ). held_of n (bytes ++ rest)) (number_back 8 (length bytes) small)
    ∙ ap (λ (front : List ℕ). held_as front (drop (length bytes) (bytes ++ rest))) (take_at bytes rest (length bytes) refl)
    ∙ ap (held_as bytes) (drop_at bytes rest (length bytes) refl)

pub slot_back : (slot : Slot) (rest : List ℕ) → IsWithinLimit slot → read_slot (slot_text slot ++ rest) ≡ record { slot = slot; rest = rest }
slot_back Absent rest within = refl
slot_back (Held bytes) rest within = held_back bytes rest within

-- what one slot more makes of what is read
slots_on : ℕ → SlotRead → SlotsRead
slots_on n one = record { slots = one.slot ∷ (read_slots n one.rest).slots; rest = (read_slots n one.rest).rest }

with_slot : Slot → SlotsRead → SlotsRead
with_slot slot read = record { slots = slot ∷ read.slots; rest = read.rest }

slots_back : (slots : List Slot) (rest : List ℕ) → All IsWithinLimit slots
    → read_slots (length slots) (flat_map slot_text slots ++ rest) ≡ record { slots = slots; rest = rest }
unfolding slots_on with_slot
slots_back [] rest within = refl
slots_back (slot ∷ slots) rest within =
    let first : read_slot (flat_map slot_text (slot ∷ slots) ++ rest) ≡ record { slot = slot; rest = flat_map slot_text slots ++ rest } =
    ap read_slot (append_assoc (slot_text slot) (flat_map slot_text slots) rest) ∙ slot_back slot _ (All-head IsWithinLimit slot slots within) in
    ap (slots_on (length slots)) first ∙ ap (with_slot slot) (slots_back slots rest (All-tail IsWithinLimit slot slots within))

-- an identifier and a set of profiles in front of anything
read_as : ℕ → (FeatureId → ℕ → LoggedAct) → List ℕ → ℕ → ℕ → RecordRead
read_as worker act rest feature profiles = record { entry = record { worker = worker; act = act (record { 0 = feature }) profiles }; rest = rest }

pair_back : (worker : ℕ) (act : FeatureId → ℕ → LoggedAct) (rest : List ℕ) (feature profiles : ℕ) → feature < 2 ^ 128 → profiles < 2 ^ 16
    → read_as worker act rest (number_of (bytes_high_first 16 feature)) (number_of (bytes_high_first 2 profiles))
    ≡ read_as worker act rest feature profiles
pair_back worker act rest feature profiles f p =
    ap (λ (n : ℕ). read_as worker act rest n (number_of (bytes_high_first 2 profiles))) (number_back 16 feature f)
    ∙ ap (read_as worker act rest feature) (number_back 2 profiles p)

published_as : ℕ → SlotsRead → RecordRead
published_as worker read = record { entry = record { worker = worker; act = published read.slots }; rest = read.rest }

act_back : (worker : ℕ) (act : LoggedAct) (rest : List ℕ) → IsAct act → HasRanges act
    → read_record (1 ∷ (act_text worker act ++ rest)) ≡ record { entry = record { worker = worker; act = act }; rest = rest }
unfolding read_as published_as
act_back worker (published slots) rest are ranges =
    ap (λ (n : ℕ). published_as worker (read_slots n (flat_map slot_text slots ++ rest))) (sym are.seventeen)
    ∙ ap (published_as worker) (slots_back slots rest are.within)
act_back worker (closed feature profiles) rest are ranges = pair_back worker closed rest feature.0 profiles ranges.0 ranges.1
act_back worker (reopened feature profiles) rest are ranges = pair_back worker reopened rest feature.0 profiles ranges.0 ranges.1

-- a record in front of anything
pub record_back : (entry : Logged) (rest : List ℕ) → IsRecord entry → read_record (record_text entry ++ rest) ≡ record { entry = entry; rest = rest }
record_back entry rest is = act_back entry.worker entry.act rest is.loggable.act is.ranges

-- what one record more makes of what is read
records_on : ℕ → RecordRead → List Logged
records_on n one = one.entry ∷ records_in n one.rest

-- the records in front of anything
pub read_back : (records : List Logged) (rest : List ℕ) → All IsRecord records → records_in (length records) (journal_text records ++ rest) ≡ records
unfolding records_on
read_back [] rest all = refl
read_back (entry ∷ records) rest all =
    let first : read_record (journal_text (entry ∷ records) ++ rest) ≡ record { entry = entry; rest = journal_text records ++ rest } =
    ap read_record (append_assoc (record_text entry) (journal_text records) rest) ∙ record_back entry _ (All-head IsRecord entry records all) in
    ap (records_on (length records)) first ∙ ap (λ (others : List Logged). entry ∷ others) (read_back records rest (All-tail IsRecord entry records all))
