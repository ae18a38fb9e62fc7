-- What a stop leaves behind a call, and what a record more makes of a text.
use Rattle.std.proofs.Common.{◌≡◌, ◌⊎◌, inl, inr, ℕ, zero, suc, ◌+◌, ◌≤◌, List, [], ◌∷◌, ◌++◌, length, Bool}
use Rattle.std.proofs.Common.{true, false, refl, sym, ◌∙◌, ap, subst, arith, append_assoc, length-append}
use Rattle.std.specs.List.{All}
use Rattle.std.proofs.lemmas.List.{append-nil}
use Rattle.std.proofs.lemmas.List.Elements.{All-nil, All-cons, All-append}
use Rattle.venue_ports.specs.Moments.{Moment, Range, Leaves, IsLeft, IsTorn, HasSynced, HasStayed}
use Rattle.venue_hall.specs.Records.{Logged}
use Rattle.change_journal.specs.Texts.{record_body, record_text, journal_text, IsRecord}
use Rattle.change_journal.specs.States.{IsShut, IsReady, IsStaged}

abbrev pub gate_range : ℕ → Range
gate_range gate = record { at = gate; count = 1 }

-- what a stop leaves after one write more
pub left_after : (m next : Moment) (range : Range) → next.synced ≡ m.synced → next.loose ≡ range ∷ m.loose → (c : List ℕ) → Leaves next c
    → (d : List ℕ) × Leaves m d × IsTorn range d c
left_after m next range synced loose c left = subst (λ (l : List Range). IsLeft m.synced l c) loose (subst (λ (s : List ℕ). IsLeft s next.loose c) synced left)

-- after a sync a stop leaves what a read gives
pub left_synced : (m next : Moment) → HasSynced m next → (c : List ℕ) → Leaves next c → c ≡ next.reads
left_synced m next synced c left =
    subst (λ (l : List Range). IsLeft next.synced l c) synced.loose left ∙ synced.synced ∙ sym synced.reads

pub left_stayed : (m next : Moment) → HasStayed m next → (c : List ℕ) → Leaves next c → Leaves m c
left_stayed m next stayed c left = subst (λ (l : List Range). IsLeft m.synced l c) stayed.loose (subst (λ (s : List ℕ). IsLeft s next.loose c) stayed.synced left)

-- the text with one record more
pub text_push : (records : List Logged) (entry : Logged) (rest : List ℕ)
    → journal_text (records ++ entry ∷ []) ++ rest ≡ journal_text records ++ 1 ∷ (record_body entry ++ rest)
text_push [] entry rest = ap (λ (l : List ℕ). 1 ∷ (l ++ rest)) (append-nil (record_body entry))
text_push (x ∷ xs) entry rest =
    append_assoc (record_text x) (journal_text (xs ++ entry ∷ [])) rest ∙ ap (λ (l : List ℕ). record_text x ++ l) (text_push xs entry rest)
    ∙ sym (append_assoc (record_text x) (journal_text xs) (1 ∷ (record_body entry ++ rest)))

pub length_push : (records : List Logged) (entry : Logged)
    → length (journal_text (records ++ entry ∷ [])) ≡ length (journal_text records) + 1 + length (record_body entry)
length_push records entry =
    let whole = ap length (sym (append-nil (journal_text (records ++ entry ∷ []))) ∙ text_push records entry []) in
    omega (arith, whole, length-append (journal_text records) (1 ∷ (record_body entry ++ [])), ap length (append-nil (record_body entry)))

pub all_push : (records : List Logged) (entry : Logged) → All IsRecord records → IsRecord entry → All IsRecord (records ++ entry ∷ [])
all_push records entry all is = All-append IsRecord records (entry ∷ []) all (All-cons IsRecord entry [] is (All-nil IsRecord))

pub is_one : (n : ℕ) → (n ≡ 1) ⊎ (n ≡ 1 → ⊥)
is_one zero = inr (λ e. omega (arith, e))
is_one (suc zero) = inl refl
is_one (suc (suc n)) = inr (λ e. omega (arith, e))

-- the gate stands within what a read gives
pub ready_long : (records : List Logged) (gate : ℕ) (is_shut : Bool) (m : Moment) → IsReady records gate is_shut m → gate ≤ length m.reads
ready_long records gate true m s = omega (arith, s.at_gate, ap length s.reads.text, length-append (journal_text records) (s.reads.gate ∷ s.reads.rest))
ready_long records gate false m (inl n) = omega (arith, n.at_gate)
ready_long records gate false m (inr u) =
    omega (arith, u.at_gate, ap length u.reads.text, length-append (journal_text records) (u.reads.gate ∷ (record_body u.reads.last ++ u.reads.next ∷ u.reads.rest)))

pub shut_long : (records : List Logged) (gate : ℕ) (m : Moment) → IsShut records gate m → gate + 1 ≤ length m.reads
shut_long records gate m s = omega (arith, s.at_gate, ap length s.reads.text, length-append (journal_text records) (s.reads.gate ∷ s.reads.rest))

pub staged_long : (records : List Logged) (gate : ℕ) (entry : Logged) (m : Moment) → IsStaged records gate entry m → gate ≤ length m.reads
staged_long records gate entry m s = omega (arith, s.at_gate, ap length s.text, length-append (journal_text records) (s.value ∷ (record_body entry ++ 0 ∷ s.rest)))
