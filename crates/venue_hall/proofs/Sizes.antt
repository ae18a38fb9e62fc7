-- The files of a venue are within a log's limit.
use Rattle.std.proofs.Common.{◌≡◌, ℕ, suc, ◌^◌, ◌<◌, ◌≤◌, List, [], ◌∷◌, length, slice_get, Some, All, refl, arith}
use Rattle.std.proofs.lemmas.List.Elements.{All-nil, All-cons}
use Rattle.venue_types.specs.declared.files.Slot.{Slot}
use Rattle.venue_types.specs.declared.files.Slot.TheVariants.{Absent, Held}
use Rattle.venue_hall.specs.Records.{IsWithinLimit}

abbrev pub AreShort : List Slot → Type 0
AreShort slots = (k : ℕ) (bytes : List ℕ) → k < length slots → slice_get slots k ≡ Some (Held bytes) → length bytes ≤ 2 ^ 25

one_within : (slot : Slot) → ((bytes : List ℕ) → Some slot ≡ Some (Held bytes) → length bytes ≤ 2 ^ 25) → IsWithinLimit slot
one_within Absent short = tt
one_within (Held bytes) short = short bytes refl

pub all_within : (slots : List Slot) → AreShort slots → All IsWithinLimit slots
all_within [] short = All-nil IsWithinLimit
all_within (slot ∷ slots) short =
    All-cons IsWithinLimit slot slots (one_within slot (λ bytes is. short 0 bytes (omega arith) is))
    (all_within slots (λ k bytes less there. short (suc k) bytes (omega (arith, less)) there))
