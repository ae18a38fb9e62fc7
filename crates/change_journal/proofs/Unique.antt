-- No bytes are a journal of two lists of records.
use Rattle.std.proofs.Common.{◌≡◌, inl, inr, ℕ, ◌≤◌, List, [], ◌∷◌, ◌++◌, All, length, get_or}
use Rattle.std.proofs.Common.{refl, sym, ◌∙◌, ap, arith, append_assoc, length-append}
use Rattle.std.proofs.lemmas.List.Elements.{All-head, All-tail}
use Rattle.venue_hall.specs.Records.{Logged}
use Rattle.change_journal.specs.Texts.{record_body, record_text, journal_text, IsRecord, IsJournal}
use Rattle.change_journal.specs.Reading.{RecordRead, read_record}
use Rattle.change_journal.proofs.ReadBack.{record_back}

-- a record first
pub opened : (entry : Logged) (records : List Logged) (rest : List ℕ) → journal_text (entry ∷ records) ++ rest ≡ record_text entry ++ (journal_text records ++ rest)
opened entry records rest = append_assoc (record_text entry) (journal_text records) rest

abbrev pub head_of : List ℕ → ℕ
head_of bytes = get_or bytes 0 0

same_records : (rs qs : List Logged) (x y : ℕ) (a b : List ℕ) → All IsRecord rs → All IsRecord qs → (x ≡ 1 → ⊥) → (y ≡ 1 → ⊥)
    → journal_text rs ++ x ∷ a ≡ journal_text qs ++ y ∷ b → rs ≡ qs
same_records [] [] x y a b all each nx ny same = refl
same_records [] (q ∷ qs) x y a b all each nx ny same = absurd (nx (ap head_of (same ∙ opened q qs (y ∷ b))))
same_records (r ∷ rs) [] x y a b all each nx ny same = absurd (ny (ap head_of (sym same ∙ opened r rs (x ∷ a))))
same_records (r ∷ rs) (q ∷ qs) x y a b all each nx ny same =
    let mine : read_record (record_text r ++ (journal_text rs ++ x ∷ a)) ≡ record { entry = r; rest = journal_text rs ++ x ∷ a } =
    record_back r _ (All-head IsRecord r rs all) in
    let theirs : read_record (record_text q ++ (journal_text qs ++ y ∷ b)) ≡ record { entry = q; rest = journal_text qs ++ y ∷ b } =
    record_back q _ (All-head IsRecord q qs each) in
    let both = sym mine ∙ ap read_record (sym (opened r rs (x ∷ a)) ∙ same ∙ opened q qs (y ∷ b)) ∙ theirs in
    let first : r ≡ q = ap (λ (read : RecordRead). read.entry) both in
    let others : rs ≡ qs = same_records rs qs x y a b (All-tail IsRecord r rs all) (All-tail IsRecord q qs each) nx ny (ap (λ (read : RecordRead). read.rest) both) in
    ap (λ (p : Logged). p ∷ rs) first ∙ ap (λ (ps : List Logged). q ∷ ps) others

-- at most one byte leaves no room for a record
none_fits : (records : List Logged) (gate : ℕ) (rest bytes : List ℕ) → length bytes ≤ 1 → bytes ≡ journal_text records ++ gate ∷ rest → records ≡ []
none_fits [] gate rest bytes short is = refl
none_fits (entry ∷ records) gate rest bytes short is =
    let behind = journal_text records ++ gate ∷ rest in
    let long = ap length (is ∙ opened entry records (gate ∷ rest)) in
    absurd (omega (arith, short, long, length-append (record_body entry) behind, length-append (journal_text records) (gate ∷ rest)))

pub one_journal : (records others : List Logged) (bytes : List ℕ) → IsJournal records bytes → IsJournal others bytes → records ≡ others
one_journal records others bytes (inl f) (inl g) = f.none ∙ sym g.none
one_journal records others bytes (inl f) (inr c) = f.none ∙ sym (none_fits others c.gate c.rest bytes f.short c.text)
one_journal records others bytes (inr c) (inl g) = none_fits records c.gate c.rest bytes g.short c.text ∙ sym g.none
one_journal records others bytes (inr c) (inr d) = same_records records others c.gate d.gate c.rest d.rest c.all d.all c.shut d.shut (sym c.text ∙ d.text)
