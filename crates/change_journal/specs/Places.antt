-- What stands at a place of a text: a gate that isn't open, a whole record, or neither.
use Rattle.std.specs.Prelude.{◌≡◌, ◌≢◌, ℕ, ◌+◌, ◌≤◌, List, [], ◌∷◌, ◌++◌, All, length, drop}
use Rattle.venue_hall.specs.Records.{Logged}
use Rattle.change_journal.specs.Texts.{record_body, record_text, journal_text, IsRecord}

-- a gate that isn't open
pub record IsClosedAt (place : ℕ) (bytes : List ℕ) : Type 0 where
  pub gate : ℕ
  pub rest : List ℕ
  pub text : drop place bytes ≡ gate ∷ rest
  pub shut : gate ≡ 1 → ⊥

-- an open gate and a record of the form; the next gate stands behind it, and has a byte: so the record is whole
pub record IsRecordAt (place next : ℕ) (entry : Logged) (bytes : List ℕ) : Type 0 where
  pub text : drop place bytes ≡ record_text entry ++ drop next bytes
  pub next_is : next ≡ place + length (record_text entry)
  pub followed : drop next bytes ≢ []
  pub is_record : IsRecord entry

-- an open gate, behind which no record is whole: where one is of the form, no byte follows it
pub record IsBrokenAt (place : ℕ) (bytes : List ℕ) : Type 0 where
  pub rest : List ℕ
  pub text : drop place bytes ≡ 1 ∷ rest
  pub broken : (entry : Logged) (behind : List ℕ) → IsRecord entry → rest ≡ record_body entry ++ behind → behind ≡ []

-- what stands in front of the place is the text of these records
pub record AreRecordsTo (place : ℕ) (records : List Logged) (bytes : List ℕ) : Type 0 where
  pub text : bytes ≡ journal_text records ++ drop place bytes
  pub place_is : place ≡ length (journal_text records)
  pub all : All IsRecord records

-- two bytes or more of which a beginning is the text of records, and behind these an open gate whose record isn't whole: the bytes are damaged there
pub record IsDamagedAt (place : ℕ) (bytes : List ℕ) : Type 0 where
  pub more : 2 ≤ length bytes
  pub records : List Logged
  pub before : AreRecordsTo place records bytes
  pub broken : IsBrokenAt place bytes
