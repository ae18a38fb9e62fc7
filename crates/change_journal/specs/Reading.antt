-- The records in front of a place in a text, read back.
use Rattle.std.specs.Prelude.{ℕ, zero, suc, ◌+◌, ◌*◌, List, [], ◌∷◌, take, drop, fold}
use Rattle.venue_types.specs.declared.files.Slot.{Slot}
use Rattle.venue_types.specs.declared.files.Slot.TheVariants.{Absent, Held}
use Rattle.venue_hall.specs.Records.{Logged, published, closed, reopened}

-- the number of bytes that stand with the most significant first
abbrev pub number_of : List ℕ → ℕ
number_of bytes = fold (λ high byte. high * 256 + byte) 0 bytes

-- a slot read from the front, and what stands behind it
pub record SlotRead : Type 0 where
  pub slot : Slot
  pub rest : List ℕ

abbrev pub read_slot : List ℕ → SlotRead
read_slot [] = record { slot = Absent; rest = [] }
read_slot (zero ∷ rest) = record { slot = Absent; rest = rest }
read_slot (suc n ∷ rest) = record { slot = Held (take (number_of (take 8 rest)) (drop 8 rest)); rest = drop (number_of (take 8 rest)) (drop 8 rest) }

pub record SlotsRead : Type 0 where
  pub slots : List Slot
  pub rest : List ℕ

abbrev pub read_slots : ℕ → List ℕ → SlotsRead
read_slots zero bytes = record { slots = []; rest = bytes }
read_slots (suc n) bytes = record { slots = (read_slot bytes).slot ∷ (read_slots n (read_slot bytes).rest).slots; rest = (read_slots n (read_slot bytes).rest).rest }

pub record RecordRead : Type 0 where
  pub entry : Logged
  pub rest : List ℕ

-- what stands behind a kind and a worker, by the kind
abbrev pub read_act : ℕ → ℕ → List ℕ → RecordRead
read_act (suc zero) worker rest = record { entry = record { worker = worker; act = published (read_slots 17 rest).slots }; rest = (read_slots 17 rest).rest }
read_act (suc (suc zero)) worker rest =
    record { entry = record { worker = worker; act = closed (record { 0 = number_of (take 16 rest) }) (number_of (take 2 (drop 16 rest))) }; rest = drop 18 rest }
read_act kind worker rest =
    record { entry = record { worker = worker; act = reopened (record { 0 = number_of (take 16 rest) }) (number_of (take 2 (drop 16 rest))) }; rest = drop 18 rest }

-- a record of this gate read, and what stands behind it
abbrev pub read_record : List ℕ → RecordRead
read_record (gate ∷ kind ∷ worker ∷ rest) = read_act kind worker rest
read_record bytes = record { entry = record { worker = 0; act = published [] }; rest = [] }

-- the first so many records
abbrev pub records_in : ℕ → List ℕ → List Logged
records_in zero bytes = []
records_in (suc n) bytes = (read_record bytes).entry ∷ records_in n (read_record bytes).rest
