-- What the disk of a journal holds between two appends.
use Rattle.std.proofs.Common.{◌≡◌, ◌⊎◌, inl, inr, ℕ, List, ◌∷◌, ◌++◌, Bool, true, false, sym, ◌∙◌, ap}
use Rattle.venue_ports.specs.Moments.{Moment, Leaves}
use Rattle.venue_hall.specs.Records.{Logged}
use Rattle.change_journal.specs.States.{HasLast, IsReady}
use Rattle.change_journal.specs.Texts.{record_body, journal_text}
use Rattle.change_journal.specs.Told.{IsWithinOne}
use Rattle.change_journal.proofs.Steps.{text_push, all_push, is_one}

-- the last record counts where its gate is open
last_way : (records : List Logged) (bytes : List ℕ) (l : HasLast records bytes) → (l.gate ≡ 1) ⊎ (l.gate ≡ 1 → ⊥) → IsWithinOne records bytes
last_way records bytes l (inl open_) =
    let behind = record_body l.last ++ l.next ∷ l.rest in
    inr (
      l.last,
      inr (record {
        gate = l.next;
        rest = l.rest;
        text = l.text ∙ ap (λ g. journal_text records ++ g ∷ behind) open_ ∙ sym (text_push records l.last (l.next ∷ l.rest));
        shut = l.shut;
        all = all_push records l.last l.all l.is_record;
      }),
    )
last_way records bytes l (inr closed) =
    inl (inr (record { gate = l.gate; rest = record_body l.last ++ l.next ∷ l.rest; text = l.text; shut = closed; all = l.all }))

pub ready_holds : (records : List Logged) (gate : ℕ) (is_shut : Bool) (m : Moment) → IsReady records gate is_shut m
    → IsWithinOne records m.reads × ((image : List ℕ) → Leaves m image → IsWithinOne records image)
ready_holds records gate true m s = (inl (inr s.reads), λ image left. inl (inr (s.images image left)))
ready_holds records gate false m (inl n) =
    (inl (inl (record { none = n.none; short = n.reads })), λ image left. inl (inl (record { none = n.none; short = n.images image left })))
ready_holds records gate false m (inr u) =
    (last_way records m.reads u.reads (is_one u.reads.gate), λ image left. let l = u.images image left in last_way records image l (is_one l.gate))
