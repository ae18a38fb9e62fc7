-- From the one pass of a hall to what comes of its seat.
use Rattle.std.proofs.Common.{◌≡◌, ℕ, ◌≤◌, List, [], ◌∷◌, ◌++◌, All, Option, length, length-append, sym, subst, ap, ◌∙◌, arith}
use Rattle.std.proofs.lemmas.List.Elements.{All-head, All-tail}
use mathlib.Core.List.{IsPrefix}
use Rattle.journal_start.specs.Shelves.{Shelf}
use Rattle.shared_hall.specs.Entry.{Entry}
use Rattle.shared_hall.specs.Facts.{Facts}
use Rattle.shared_hall.specs.Offices.{AreNumbered, Begins, IsNew, IsOneHistory}
use Rattle.shared_hall.specs.Records.{Logged}
use Rattle.shared_hall.specs.Standing.{AreRecordsOf}
use Rattle.venue_program.specs.Kept.{IsFirstSeat, IsLogOf}

-- where a list has one item at most, its last is the one
pub one_alone : (all xs : List Facts) (p : Facts) → all ≡ xs ++ p ∷ [] → length all ≤ 1 → all ≡ p ∷ []
one_alone all [] p is few = is
one_alone all (x ∷ xs) p is few =
    let many : length all ≡ length (x ∷ (xs ++ p ∷ [])) = ap (λ (l : List Facts). length l) is in absurd (omega (arith, few, many, length-append xs (p ∷ [])))

last_of : (P : Facts → Type 0) (xs : List Facts) (p : Facts) → All P (xs ++ p ∷ []) → P p
last_of P [] p all = All-head P p [] all
last_of P (x ∷ xs) p all = last_of P xs p (All-tail P x (xs ++ p ∷ []) all)

-- the pass is that of the first worker, and has seen the entries
pub first_seat : (shelf : Option Shelf) (entries : List Entry) (all : List Facts) (p seat : Facts) → all ≡ p ∷ [] → All (IsNew entries) all → AreNumbered 1 all → seat ≡ p
    → seat.files ≡ shelf → IsFirstSeat shelf entries seat
first_seat shelf entries all p seat is new numbered same files =
    let fresh : IsNew entries p = All-head (IsNew entries) p [] (subst (All (IsNew entries)) is new) in
    let number : AreNumbered 1 (p ∷ []) = subst (AreNumbered 1) is numbered in
    record {
      worker = ap (λ (f : Facts). f.worker) same ∙ number.0;
      shelf_is = files;
      seen = ap (λ (f : Facts). f.seen) same ∙ fresh.seen_is;
      made = ap (λ (f : Facts). f.made) same ∙ fresh.made_none;
      faults = ap (λ (f : Facts). f.faults) same ∙ fresh.faultless;
      looks = ap (λ (f : Facts). f.looks) same ∙ fresh.looked_never;
    }

-- what was seen from the seat that was left begins the history
pub left_begins : (opening : List Entry) (passes xs : List Facts) (left closing : Facts) (records : Option (List Logged)) (number changes : ℕ)
    → (h : IsOneHistory opening passes records number changes) → passes ≡ xs ++ left ∷ [] → left ≡ closing → IsPrefix closing.seen h.entries
left_begins opening passes xs left closing records number changes h is same =
    let begins : Begins h.entries left = last_of (Begins h.entries) xs left (subst (All (Begins h.entries)) is h.begun) in
    subst (λ (f : Facts). IsPrefix f.seen h.entries) same begins

pub log_of : (opening : List Entry) (passes : List Facts) (records : Option (List Logged)) (number changes count : ℕ)
    → (h : IsOneHistory opening passes records number changes) → count ≡ number → IsLogOf records count h.entries
log_of opening passes records number changes count h same = record { stand = h.kept; counted = same ∙ h.number_is }

-- a log that came back as it was
pub log_as : {J : Type 0} (R : J → Option (List Logged)) (L : J → ℕ) (old new : J) (opening entries : List Entry) → new ≡ old → entries ≡ opening → L old ≡ length entries
    → AreRecordsOf (R old) entries → IsLogOf (R new) (L new) opening
log_as {J} R L old new opening entries same is counted given = record {
  stand = subst (AreRecordsOf (R new)) is (subst (λ (j : J). AreRecordsOf (R j) entries) (sym same) given);
  counted = ap L same ∙ counted ∙ ap (λ (h : List Entry). length h) is;
}
