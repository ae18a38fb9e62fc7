-- What the writes behind the closed gate, and the sync behind them, make of the journal's moment.
use Rattle.std.proofs.Common.{◌≡◌, inr, ℕ, ◌+◌, ◌≤◌, List, [], ◌∷◌, ◌++◌, length, drop, sym, ◌∙◌, ap, subst, arith, append_assoc, length-append}
use Rattle.venue_ports.specs.Moments.{Moment, Leaves, IsTorn, HasWritten, MayHaveWritten, HasSynced, HasStayed, with_piece}
use Rattle.venue_hall.specs.Records.{Logged}
use Rattle.change_journal.specs.Texts.{record_body, journal_text, IsClosed, IsJournal}
use Rattle.change_journal.specs.States.{IsShut, IsWriting, IsStaged}
use Rattle.change_journal.proofs.Tears.{torn_behind, written_on}
use Rattle.change_journal.proofs.Steps.{left_after, left_synced, left_stayed}

module _ (records : List Logged) (gate : ℕ) where
  pub starts : (m : Moment) → IsShut records gate m → IsWriting records gate [] m
  starts m s =
      record { at_gate = s.at_gate; value = s.reads.gate; rest = s.reads.rest; text = s.reads.text; shut = s.reads.shut; all = s.reads.all; images = s.images }

  closed_torn : (at n : ℕ) (d c : List ℕ) → gate ≡ length (journal_text records) → gate + 1 ≤ at → IsClosed records d
      → IsTorn (record { at = at; count = n }) d c → IsClosed records c
  closed_torn at n d c at_gate le closed torn =
      let it = subst (λ (x : List ℕ). IsTorn (record { at = at; count = n }) x c) closed.text torn in
      record {
        gate = closed.gate;
        rest = _;
        shut = closed.shut;
        all = closed.all;
        text = torn_behind (journal_text records) closed.rest closed.gate at n c (omega (arith, le, at_gate)) it;
      }

  behind_left : (at : ℕ) (piece : List ℕ) (m next : Moment) → gate ≡ length (journal_text records) → gate + 1 ≤ at
      → ((c : List ℕ) → Leaves m c → IsClosed records c) → next.synced ≡ m.synced → next.loose ≡ record { at = at; count = length piece } ∷ m.loose
      → (c : List ℕ) → Leaves next c → IsClosed records c
  behind_left at piece m next at_gate le images synced loose c left =
      let from = left_after m next (record { at = at; count = length piece }) synced loose c left in
      closed_torn at (length piece) from.0 c at_gate le (images from.0 from.1) from.2

  -- a write that answered Ok
  pub writes : (written piece : List ℕ) (at : ℕ) (m next : Moment) → at ≡ gate + 1 + length written → IsWriting records gate written m
      → HasWritten at piece m next → IsWriting records gate (written ++ piece) next × ((c : List ℕ) → Leaves next c → IsJournal records c)
  writes written piece at m next is w has =
      let front = journal_text records ++ w.value ∷ written in
      let text : m.reads ≡ front ++ w.rest = w.text ∙ sym (append_assoc (journal_text records) (w.value ∷ written) w.rest) in
      let long : length front ≡ at = omega (arith, is, w.at_gate, length-append (journal_text records) (w.value ∷ written)) in
      let reads : next.reads ≡ front ++ (piece ++ drop (length piece) w.rest) =
      has.reads ∙ ap (λ (l : List ℕ). with_piece l at piece) text ∙ written_on front w.rest piece at long in
      let all = behind_left at piece m next w.at_gate (omega (arith, is)) w.images has.synced has.loose in (
        record {
          at_gate = w.at_gate;
          value = w.value;
          rest = drop (length piece) w.rest;
          shut = w.shut;
          all = w.all;
          images = all;
          text = reads ∙ append_assoc (journal_text records) (w.value ∷ written) (piece ++ drop (length piece) w.rest)
              ∙ ap (λ (l : List ℕ). journal_text records ++ w.value ∷ l) (sym (append_assoc written piece (drop (length piece) w.rest)));
        },
        λ c left. inr (all c left),
      )

  -- a write that failed
  pub write_failed : (written piece : List ℕ) (at : ℕ) (m next : Moment) → at ≡ gate + 1 + length written → IsWriting records gate written m
      → MayHaveWritten at piece m next → IsShut records gate next × ((c : List ℕ) → Leaves next c → IsJournal records c)
  write_failed written piece at m next is w may =
      let all = behind_left at piece m next w.at_gate (omega (arith, is)) w.images may.synced may.loose in
      let closed : IsClosed records m.reads = record { gate = w.value; rest = written ++ w.rest; text = w.text; shut = w.shut; all = w.all } in
      let reads = closed_torn at (length piece) m.reads next.reads w.at_gate (omega (arith, is)) closed may.reads in (
        record { at_gate = w.at_gate; reads = reads; images = all },
        λ c left. inr (all c left),
      )

  -- a sync that failed
  pub write_stayed : (written : List ℕ) (m next : Moment) → IsWriting records gate written m → HasStayed m next
      → IsShut records gate next × ((c : List ℕ) → Leaves next c → IsJournal records c)
  write_stayed written m next w stayed =
      let all : (c : List ℕ) → Leaves next c → IsClosed records c = λ c left. w.images c (left_stayed m next stayed c left) in
      let reads : IsClosed records next.reads = record { gate = w.value; rest = written ++ w.rest; text = stayed.reads ∙ w.text; shut = w.shut; all = w.all } in (
        record { at_gate = w.at_gate; reads = reads; images = all },
        λ c left. inr (all c left),
      )

  -- a sync that answered Ok, where the whole body and the gate 0 are written
  pub stages : (entry : Logged) (written : List ℕ) (m next : Moment) → written ≡ record_body entry ++ 0 ∷ [] → IsWriting records gate written m
      → HasSynced m next → IsStaged records gate entry next × ((c : List ℕ) → Leaves next c → IsJournal records c)
  stages entry written m next is w synced =
      let text : next.reads ≡ journal_text records ++ w.value ∷ (record_body entry ++ 0 ∷ w.rest) =
      synced.reads ∙ w.text ∙ ap (λ (l : List ℕ). journal_text records ++ w.value ∷ (l ++ w.rest)) is
      ∙ ap (λ (l : List ℕ). journal_text records ++ w.value ∷ l) (append_assoc (record_body entry) (0 ∷ []) w.rest) in
      let all = left_synced m next synced in (
        record { at_gate = w.at_gate; value = w.value; rest = w.rest; text = text; shut = w.shut; all = w.all; images = all },
        λ c left. inr (record { gate = w.value; rest = record_body entry ++ 0 ∷ w.rest; text = all c left ∙ text; shut = w.shut; all = w.all }),
      )
