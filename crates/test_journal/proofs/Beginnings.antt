-- How a journal begins on a disk in memory without calls.
use Rattle.std.proofs.Common.{◌≡◌, ℕ, List, [], ◌∷◌, ◌++◌, All, length, Bool, true, false, if◌then◌else◌, sym, ap, subst, ◌∙◌, arith}
use Rattle.std.proofs.lemmas.List.{append-nil}
use Rattle.std.proofs.lemmas.List.Elements.{All-cons, All-nil}
use Rattle.venue_ports.specs.DiskCalls.{DiskRecord, record_moments, moments_of, first_moment}
use Rattle.venue_ports.specs.Moments.{Moment, Now}
use Rattle.venue_ports.specs.declared.disk_calls.DiskCall.{DiskCall}
use Rattle.venue_hall.specs.Records.{Logged}
use Rattle.change_journal.specs.Reading.{records_in}
use Rattle.change_journal.specs.States.{IsReady}
use Rattle.change_journal.specs.Texts.{IsClosed, IsRecord, journal_text, record_text}
use Rattle.change_journal.specs.Told.{recorded}

no_calls : (call : DiskCall) (calls : List DiskCall) → length (call ∷ calls) ≡ 0 → ⊥
no_calls call calls none = omega (arith, none)

-- what the first moment has, the newest has where there was no call
at_first : (P : List Moment → Type 0) → P [] → (ended : Bool) (first put : List ℕ) (calls : List DiskCall) → length calls ≡ 0
    → P (first_moment first ∷ []) → P (if ended then [] else moments_of first calls put)
at_first P none true first put calls zero some = none
at_first P none false first put [] zero some = some
at_first P none false first put (call ∷ calls) zero some = absurd (no_calls call calls zero)

-- the journal of so many records with its gate there
abbrev IsAt : ℕ → ℕ → Bool → List Moment → Type 0
IsAt count gate is_shut moments = Now (IsReady (recorded count moments) gate is_shut) moments

-- the text of one record
one_text : (entry : Logged) → journal_text (entry ∷ []) ≡ record_text entry
one_text entry = append-nil (record_text entry)

all_one : (entry : Logged) → IsRecord entry → All IsRecord (entry ∷ [])
all_one entry is = All-cons IsRecord entry [] is (All-nil IsRecord)

one_closed : (entry : Logged) (bytes : List ℕ) → IsRecord entry → bytes ≡ record_text entry ++ 0 ∷ [] → IsClosed (entry ∷ []) bytes
one_closed entry bytes is text = record {
  gate = 0;
  rest = [];
  text = text ∙ ap (λ (front : List ℕ). front ++ 0 ∷ []) (sym (one_text entry));
  shut = λ same. omega (arith, same);
  all = all_one entry is;
}

-- the journal of one record, on a disk that holds its text and a closed gate
pub one_ready : ((records : List Logged) (bytes : List ℕ) → IsClosed records bytes → IsReady records (length (journal_text records)) true (first_moment bytes))
    → ((records : List Logged) (rest : List ℕ) → All IsRecord records → records_in (length records) (journal_text records ++ rest) ≡ records)
    → (r : DiskRecord) (entry : Logged) (gate : ℕ) → length r.calls ≡ 0 → IsRecord entry → r.first ≡ record_text entry ++ 0 ∷ [] → gate ≡ length (record_text entry)
    → Now (IsReady (recorded 1 (record_moments r)) gate true) (record_moments r)
one_ready law read r entry gate zero is text at_gate =
    let closed = one_closed entry r.first is text in
    let told : records_in 1 r.first ≡ entry ∷ [] =
    ap (records_in 1) (text ∙ ap (λ (front : List ℕ). front ++ 0 ∷ []) (sym (one_text entry))) ∙ read (entry ∷ []) (0 ∷ []) (all_one entry is) in
    let here : gate ≡ length (journal_text (entry ∷ [])) = at_gate ∙ ap length (sym (one_text entry)) in
    let ready : IsReady (records_in 1 r.first) gate true (first_moment r.first) =
    subst (λ (records : List Logged). IsReady records gate true (first_moment r.first)) (sym told)
    (subst (λ (place : ℕ). IsReady (entry ∷ []) place true (first_moment r.first)) (sym here) (law (entry ∷ []) r.first closed)) in
    at_first (IsAt 1 gate true) tt r.ended r.first r.put r.calls zero ready
