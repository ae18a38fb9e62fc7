-- What the calls that open a gate make of the journal's moment.
use Rattle.std.proofs.Common.{◌≡◌, ◌⊎◌, inl, inr, ℕ, ◌+◌, List, [], ◌∷◌, ◌++◌, length, refl, sym, ◌∙◌, ap, subst, arith}
use Rattle.std.specs.List.{All}
use Rattle.venue_ports.specs.Moments.{Moment, Leaves, IsTorn, HasWritten, MayHaveWritten, HasSynced, HasStayed, with_piece}
use Rattle.venue_hall.specs.Records.{Logged}
use Rattle.change_journal.specs.Texts.{record_body, journal_text, IsRecord, IsClosed}
use Rattle.change_journal.specs.States.{HasLast, IsShut, IsUnsure, IsStaged, IsEither}
use Rattle.change_journal.proofs.Tears.{torn_gate, written_gate}
use Rattle.change_journal.proofs.Steps.{gate_range, left_after, left_synced, left_stayed, text_push, length_push, all_push, is_one}
use Rattle.change_journal.proofs.Closing.{unsure_stayed}

-- the text of records, a gate of this value, and a last record behind it with a closed gate
record Ends (records : List Logged) (entry : Logged) (bytes : List ℕ) : Type 0 where
  value : ℕ
  rest : List ℕ
  text : bytes ≡ journal_text records ++ value ∷ (record_body entry ++ 0 ∷ rest)

module _ (records : List Logged) (gate : ℕ) (entry : Logged) (is : IsRecord entry) where
  zero_shut : ◌≡◌ {A = ℕ} 0 1 → ⊥
  zero_shut e = omega (arith, e)

  -- the record counts where its gate is open
  either_way : All IsRecord records → (c : List ℕ) (ends : Ends records entry c) → (ends.value ≡ 1) ⊎ (ends.value ≡ 1 → ⊥) → IsEither records entry c
  either_way all c ends (inl open_) =
      inr (inr (record {
        gate = 0;
        rest = ends.rest;
        shut = zero_shut;
        all = all_push records entry all is;
        text = ends.text ∙ ap (λ g. journal_text records ++ g ∷ (record_body entry ++ 0 ∷ ends.rest)) open_ ∙ sym (text_push records entry (0 ∷ ends.rest));
      }))
  either_way all c ends (inr closed) =
      inl (inr (record { gate = ends.value; rest = record_body entry ++ 0 ∷ ends.rest; text = ends.text; shut = closed; all = all }))

  pub record Opening (m : Moment) : Type 0 where
    pub unsure : IsUnsure records gate m
    pub left : (c : List ℕ) → Leaves m c → IsEither records entry c

  gate_torn : (d c : List ℕ) (m : Moment) → IsStaged records gate entry m → d ≡ m.reads → IsTorn (gate_range gate) d c → Ends records entry c
  gate_torn d c m s same torn =
      let at = subst (λ g. IsTorn (gate_range g) d c) s.at_gate torn in
      let it = subst (λ (x : List ℕ). IsTorn (gate_range (length (journal_text records))) x c) (same ∙ s.text) at in
      record { value = _; rest = s.rest; text = torn_gate (journal_text records) (record_body entry ++ 0 ∷ s.rest) s.value c it }

  last_of : All IsRecord records → (c : List ℕ) → Ends records entry c → HasLast records c
  last_of all c ends = record { gate = ends.value; last = entry; next = 0; rest = ends.rest; text = ends.text; shut = zero_shut; is_record = is; all = all }

  opens : (m next : Moment) → IsStaged records gate entry m → next.synced ≡ m.synced → next.loose ≡ gate_range gate ∷ m.loose
      → Ends records entry next.reads → Opening next
  opens m next s synced loose reads =
      let all : (c : List ℕ) → Leaves next c → Ends records entry c =
      λ c left. let from = left_after m next (gate_range gate) synced loose c left in gate_torn from.0 c m s (s.images from.0 from.1) from.2 in
      record {
        unsure = record {
          at_gate = s.at_gate;
          reads = last_of s.all next.reads reads;
          images = λ c left. last_of s.all c (all c left);
          earlier = m.loose;
          loose = loose;
        };
        left = λ c left. let ends = all c left in either_way s.all c ends (is_one ends.value);
      }

  pub open_failed : (m next : Moment) → IsStaged records gate entry m → MayHaveWritten gate (1 ∷ []) m next → Opening next
  open_failed m next s may = opens m next s may.synced may.loose (gate_torn m.reads next.reads m s refl may.reads)

  pub record Opened (m : Moment) : Type 0 where
    pub opening : Opening m
    pub rest : List ℕ
    pub text : m.reads ≡ journal_text records ++ 1 ∷ (record_body entry ++ 0 ∷ rest)
    pub all : All IsRecord records

  pub open_written : (m next : Moment) → IsStaged records gate entry m → HasWritten gate (1 ∷ []) m next → Opened next
  open_written m next s has =
      let text : next.reads ≡ journal_text records ++ 1 ∷ (record_body entry ++ 0 ∷ s.rest) =
      has.reads ∙ ap (λ g. with_piece m.reads g (1 ∷ [])) s.at_gate ∙ ap (λ (l : List ℕ). with_piece l (length (journal_text records)) (1 ∷ [])) s.text
      ∙ written_gate (journal_text records) (record_body entry ++ 0 ∷ s.rest) s.value 1 in
      record { opening = opens m next s has.synced has.loose (record { value = 1; rest = s.rest; text = text }); rest = s.rest; text = text; all = s.all }

  pub opened_synced : (m next : Moment) → Opened m → HasSynced m next
      → IsShut (records ++ entry ∷ []) (gate + 1 + length (record_body entry)) next × ((c : List ℕ) → Leaves next c → IsEither records entry c)
  opened_synced m next o synced =
      let reads : IsClosed (records ++ entry ∷ []) next.reads = record {
        gate = 0;
        rest = o.rest;
        text = synced.reads ∙ o.text ∙ sym (text_push records entry (0 ∷ o.rest));
        shut = zero_shut;
        all = all_push records entry o.all is;
      } in
      let all : (c : List ℕ) → Leaves next c → IsClosed (records ++ entry ∷ []) c =
      λ c left. subst (IsClosed (records ++ entry ∷ [])) (sym (left_synced m next synced c left)) reads in (
        record { at_gate = omega (arith, o.opening.unsure.at_gate, length_push records entry); reads = reads; images = all },
        λ c left. inr (inr (all c left)),
      )

  pub opening_stayed : (m next : Moment) → Opened m → HasStayed m next → Opening next
  opening_stayed m next o stayed = record {
    unsure = unsure_stayed records gate m next o.opening.unsure stayed;
    left = λ c left. o.opening.left c (left_stayed m next stayed c left);
  }
