-- What the calls that close a gate make of the journal's moment.
use Rattle.std.proofs.Common.{◌≡◌, inl, inr, ⊎_elim, ℕ, ◌+◌, ◌≤◌, List, [], ◌∷◌, ◌++◌, length, max, false, sym, ◌∙◌, ap, subst, arith}
use Rattle.std.specs.List.{All}
use Rattle.std.proofs.lemmas.List.Elements.{All-nil}
use Rattle.venue_ports.specs.Moments.{Moment, Range, Leaves, IsLeft, IsTorn, Now, HasWritten, MayHaveWritten, HasSynced, HasStayed, with_piece}
use Rattle.venue_hall.specs.Records.{Logged}
use Rattle.change_journal.specs.Texts.{record_body, journal_text, IsRecord, IsClosed, IsJournal}
use Rattle.change_journal.specs.States.{HasLast, IsShut, IsNew, IsUnsure, IsReady, IsAsBefore}
use Rattle.change_journal.proofs.Tears.{torn_gate, written_gate, written_first, torn_again}
use Rattle.change_journal.proofs.Steps.{gate_range, left_after, left_synced, left_stayed}

module _ (records : List Logged) (gate : ℕ) where
  -- a gate that may be open, torn
  torn_last : (d c : List ℕ) → gate ≡ length (journal_text records) → HasLast records d → IsTorn (gate_range gate) d c → HasLast records c
  torn_last d c at_gate h torn =
      let at = subst (λ g. IsTorn (gate_range g) d c) at_gate torn in
      let it = subst (λ (x : List ℕ). IsTorn (gate_range (length (journal_text records))) x c) h.text at in
      record {
        gate = _;
        last = h.last;
        next = h.next;
        rest = h.rest;
        shut = h.shut;
        is_record = h.is_record;
        all = h.all;
        text = torn_gate (journal_text records) (record_body h.last ++ h.next ∷ h.rest) h.gate c it;
      }

  -- the gate of an unsure journal written or torn: a stop leaves what it might have left before
  unsure_left : (m next : Moment) → IsUnsure records gate m → next.synced ≡ m.synced → next.loose ≡ gate_range gate ∷ m.loose → (c : List ℕ)
      → Leaves next c → HasLast records c × Leaves m c
  unsure_left m next u synced loose c left =
      let from = left_after m next (gate_range gate) synced loose c left in
      let d = from.0 in
      let inner = subst (λ (l : List Range). IsLeft m.synced l d) u.loose from.1 in
      let once = torn_again (gate_range gate) inner.0 d c inner.2 from.2 in
      (torn_last d c u.at_gate (u.images d from.1) from.2, subst (λ (l : List Range). IsLeft m.synced l c) (sym u.loose) (inner.0, inner.1, once))

  unsure_on : (m next : Moment) → IsUnsure records gate m → next.synced ≡ m.synced → next.loose ≡ gate_range gate ∷ m.loose
      → HasLast records next.reads → IsUnsure records gate next
  unsure_on m next u synced loose reads = record {
    at_gate = u.at_gate;
    reads = reads;
    images = λ c left. (unsure_left m next u synced loose c left).0;
    earlier = m.loose;
    loose = loose;
  }

  short_torn : (d c : List ℕ) → gate ≡ 0 → length d ≤ 1 → IsTorn (gate_range gate) d c → length c ≤ 1
  short_torn d c none short torn = let long : length c ≤ max (length d) (gate + 1) = torn.no_longer in omega (arith, none, short, long)

  new_on : (m next : Moment) → IsNew records gate m → next.synced ≡ m.synced → next.loose ≡ gate_range gate ∷ m.loose → length next.reads ≤ 1 → IsNew records gate next
  new_on m next n synced loose reads = record {
    none = n.none;
    at_gate = n.at_gate;
    reads = reads;
    images = λ c left. let from = left_after m next (gate_range gate) synced loose c left in short_torn from.0 c n.at_gate (n.images from.0 from.1) from.2;
  }

  -- what is known in closing a gate: the state, and that a stop leaves nothing new
  pub record Closing (old : List Moment) (m : Moment) : Type 0 where
    pub state : IsReady records gate false m
    pub left : (c : List ℕ) → Leaves m c → IsAsBefore records old c

  pub closes : (old : List Moment) → Now (IsReady records gate false) old → Now (Closing old) old
  closes [] ready = tt
  closes (m ∷ past) ready = record { state = ready; left = λ c left. inl left }

  new_fresh : (m : Moment) → IsNew records gate m → (c : List ℕ) → Leaves m c → IsJournal records c
  new_fresh m n c left = inl (record { none = n.none; short = n.images c left })

  closing_on : (old : List Moment) (m next : Moment) → Closing old m → next.synced ≡ m.synced → next.loose ≡ gate_range gate ∷ m.loose
      → (IsNew records gate m → length next.reads ≤ 1) → (IsUnsure records gate m → HasLast records next.reads) → Closing old next
  closing_on old m next closing synced loose if_new if_unsure = ⊎_elim
      (λ n. let on = new_on m next n synced loose (if_new n) in record { state = inl on; left = λ c left. inr (new_fresh next on c left) })
      (λ u. record { state = inr (unsure_on m next u synced loose (if_unsure u)); left = λ c left. closing.left c (unsure_left m next u synced loose c left).1 })
      closing.state

  pub closing_torn : (old : List Moment) (m next : Moment) → Closing old m → MayHaveWritten gate (0 ∷ []) m next → Closing old next
  closing_torn old m next closing may = closing_on old m next closing may.synced may.loose
      (λ n. short_torn m.reads next.reads n.at_gate n.reads may.reads)
      (λ u. torn_last m.reads next.reads u.at_gate u.reads may.reads)

  -- the gate written: closed in what a read gives
  pub record Closed (old : List Moment) (m : Moment) : Type 0 where
    pub closing : Closing old m
    pub at_gate : gate ≡ length (journal_text records)
    pub reads : IsClosed records m.reads

  new_closed : (m next : Moment) → IsNew records gate m → HasWritten gate (0 ∷ []) m next → next.reads ≡ 0 ∷ []
  new_closed m next n has = has.reads ∙ ap (λ g. with_piece m.reads g (0 ∷ [])) n.at_gate ∙ written_first m.reads 0 n.reads

  unsure_text : (m next : Moment) (u : IsUnsure records gate m) → HasWritten gate (0 ∷ []) m next
      → next.reads ≡ journal_text records ++ 0 ∷ (record_body u.reads.last ++ u.reads.next ∷ u.reads.rest)
  unsure_text m next u has =
      has.reads ∙ ap (λ g. with_piece m.reads g (0 ∷ [])) u.at_gate ∙ ap (λ (l : List ℕ). with_piece l (length (journal_text records)) (0 ∷ [])) u.reads.text
      ∙ written_gate (journal_text records) (record_body u.reads.last ++ u.reads.next ∷ u.reads.rest) u.reads.gate 0

  unsure_last : (m next : Moment) (u : IsUnsure records gate m) → HasWritten gate (0 ∷ []) m next → HasLast records next.reads
  unsure_last m next u has = record {
    gate = 0;
    last = u.reads.last;
    next = u.reads.next;
    rest = u.reads.rest;
    shut = u.reads.shut;
    is_record = u.reads.is_record;
    all = u.reads.all;
    text = unsure_text m next u has;
  }

  zero_shut : ◌≡◌ {A = ℕ} 0 1 → ⊥
  zero_shut e = omega (arith, e)

  new_reads : (m next : Moment) → IsNew records gate m → HasWritten gate (0 ∷ []) m next → IsClosed records next.reads
  new_reads m next n has = record {
    gate = 0;
    rest = [];
    text = new_closed m next n has ∙ ap (λ (rs : List Logged). journal_text rs ++ 0 ∷ []) (sym n.none);
    shut = zero_shut;
    all = subst (λ (rs : List Logged). All IsRecord rs) (sym n.none) (All-nil IsRecord);
  }

  unsure_reads : (m next : Moment) → IsUnsure records gate m → HasWritten gate (0 ∷ []) m next → IsClosed records next.reads
  unsure_reads m next u has = record {
    gate = 0;
    rest = record_body u.reads.last ++ u.reads.next ∷ u.reads.rest;
    text = unsure_text m next u has;
    shut = zero_shut;
    all = u.reads.all;
  }

  pub closing_written : (old : List Moment) (m next : Moment) → Closing old m → HasWritten gate (0 ∷ []) m next → Closed old next
  closing_written old m next closing has =
      let on = closing_on old m next closing has.synced has.loose
      (λ n. omega (arith, ap length (new_closed m next n has)))
      (λ u. unsure_last m next u has) in
      ⊎_elim
      (λ (n : IsNew records gate m). record {
        closing = on;
        at_gate = n.at_gate ∙ ap (λ (rs : List Logged). length (journal_text rs)) (sym n.none);
        reads = new_reads m next n has;
      })
      (λ (u : IsUnsure records gate m). record { closing = on; at_gate = u.at_gate; reads = unsure_reads m next u has })
      closing.state

  pub closed_synced : (old : List Moment) (m next : Moment) → Closed old m → HasSynced m next
      → IsShut records gate next × ((c : List ℕ) → Leaves next c → IsAsBefore records old c)
  closed_synced old m next closed synced =
      let reads = subst (IsClosed records) (sym synced.reads) closed.reads in
      let all : (c : List ℕ) → Leaves next c → IsClosed records c = λ c left. subst (IsClosed records) (sym (left_synced m next synced c left)) reads in (
        record { at_gate = closed.at_gate; reads = reads; images = all },
        λ c left. inr (inr (all c left)),
      )

  new_stayed : (m next : Moment) → IsNew records gate m → HasStayed m next → IsNew records gate next
  new_stayed m next n stayed = record {
    none = n.none;
    at_gate = n.at_gate;
    reads = subst (λ (l : List ℕ). length l ≤ 1) (sym stayed.reads) n.reads;
    images = λ c left. n.images c (left_stayed m next stayed c left);
  }

  pub unsure_stayed : (m next : Moment) → IsUnsure records gate m → HasStayed m next → IsUnsure records gate next
  unsure_stayed m next u stayed = record {
    at_gate = u.at_gate;
    reads = subst (HasLast records) (sym stayed.reads) u.reads;
    images = λ c left. u.images c (left_stayed m next stayed c left);
    earlier = u.earlier;
    loose = stayed.loose ∙ u.loose;
  }

  pub closing_stayed : (old : List Moment) (m next : Moment) → Closing old m → HasStayed m next → Closing old next
  closing_stayed old m next closing stayed = record {
    state = ⊎_elim (λ n. inl (new_stayed m next n stayed)) (λ u. inr (unsure_stayed m next u stayed)) closing.state;
    left = λ c left. closing.left c (left_stayed m next stayed c left);
  }
