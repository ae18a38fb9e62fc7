-- Bytes that are damaged are no journal, and are damaged at one place.
use Rattle.std.proofs.Common.{◌≡◌, inl, inr, ℕ, List, [], ◌∷◌, ◌++◌, length, drop, refl, sym, ◌∙◌, ap, arith, length-append}
use Rattle.std.specs.List.{All}
use Rattle.std.proofs.lemmas.List.Elements.{All-nil, All-head, All-tail}
use Rattle.venue_hall.specs.Records.{Logged}
use Rattle.change_journal.specs.Forms.{HasNoMore}
use Rattle.change_journal.specs.Places.{AreRecordsTo, IsClosedAt, IsDamagedAt, IsRecordAt}
use Rattle.change_journal.specs.Reading.{RecordRead, read_record, records_in}
use Rattle.change_journal.specs.Texts.{record_body, record_text, journal_text, IsRecord, IsClosed, IsJournal}
use Rattle.change_journal.proofs.ReadBack.{record_back, read_back}
use Rattle.change_journal.proofs.Steps.{text_push, length_push, all_push}
use Rattle.change_journal.proofs.Unique.{head_of, opened}

tail_of : List ℕ → List ℕ
tail_of bytes = drop 1 bytes

-- behind one record of two texts that begin with one
pub record Behind (r q : Logged) (a b : List ℕ) : Type 0 where
  pub first : r ≡ q
  pub rest : a ≡ b

pub both_read : (r q : Logged) (a b : List ℕ) → IsRecord r → IsRecord q → record_text r ++ a ≡ record_text q ++ b → Behind r q a b
both_read r q a b is it same =
    let both : ◌≡◌ {A = RecordRead} (record { entry = r; rest = a }) (record { entry = q; rest = b }) =
    sym (record_back r a is) ∙ ap read_record same ∙ record_back q b it in
    record { first = ap (λ (read : RecordRead). read.entry) both; rest = ap (λ (read : RecordRead). read.rest) both }

-- a record in front of more doesn't stand behind a broken gate
no_more : (q : Logged) (qs : List Logged) (y : ℕ) (b rest : List ℕ) → IsRecord q → HasNoMore rest → 1 ∷ rest ≡ journal_text (q ∷ qs) ++ y ∷ b → ⊥
unfolding tail_of
no_more q qs y b rest is broken same =
    let behind = journal_text qs ++ y ∷ b in
    let here : rest ≡ record_body q ++ behind = ap tail_of (same ∙ opened q qs (y ∷ b)) in
    let none = ap length (broken q behind is here) in
    omega (arith, none, length-append (journal_text qs) (y ∷ b))

no_journal : (rs qs : List Logged) (y : ℕ) (b rest : List ℕ) → All IsRecord rs → All IsRecord qs → (y ≡ 1 → ⊥) → HasNoMore rest
    → journal_text rs ++ 1 ∷ rest ≡ journal_text qs ++ y ∷ b → ⊥
no_journal [] [] y b rest all each shut broken same = shut (sym (ap head_of same))
no_journal [] (q ∷ qs) y b rest all each shut broken same = no_more q qs y b rest (All-head IsRecord q qs each) broken same
no_journal (r ∷ rs) [] y b rest all each shut broken same = shut (ap head_of (sym same ∙ opened r rs (1 ∷ rest)))
no_journal (r ∷ rs) (q ∷ qs) y b rest all each shut broken same =
    let both = both_read r q _ _ (All-head IsRecord r rs all) (All-head IsRecord q qs each) (sym (opened r rs (1 ∷ rest)) ∙ same ∙ opened q qs (y ∷ b)) in
    no_journal rs qs y b rest (All-tail IsRecord r rs all) (All-tail IsRecord q qs each) shut broken both.rest

same_broken : (rs qs : List Logged) (a b : List ℕ) → All IsRecord rs → All IsRecord qs → HasNoMore a → HasNoMore b
    → journal_text rs ++ 1 ∷ a ≡ journal_text qs ++ 1 ∷ b → length (journal_text rs) ≡ length (journal_text qs)
same_broken [] [] a b all each broken other same = refl
same_broken [] (q ∷ qs) a b all each broken other same = absurd (no_more q qs 1 b a (All-head IsRecord q qs each) broken same)
same_broken (r ∷ rs) [] a b all each broken other same = absurd (no_more r rs 1 a b (All-head IsRecord r rs all) other (sym same))
same_broken (r ∷ rs) (q ∷ qs) a b all each broken other same =
    let both = both_read r q _ _ (All-head IsRecord r rs all) (All-head IsRecord q qs each) (sym (opened r rs (1 ∷ a)) ∙ same ∙ opened q qs (1 ∷ b)) in
    let others = same_broken rs qs a b (All-tail IsRecord r rs all) (All-tail IsRecord q qs each) broken other both.rest in
    let first = ap (λ (p : Logged). length (record_text p)) both.first in
    omega (arith, first, others, length-append (record_text r) (journal_text rs), length-append (record_text q) (journal_text qs))

-- the text of damaged bytes
damaged_text : (place : ℕ) (bytes : List ℕ) (d : IsDamagedAt place bytes) → bytes ≡ journal_text d.records ++ 1 ∷ d.broken.rest
damaged_text place bytes d = d.before.text ∙ ap (λ (l : List ℕ). journal_text d.records ++ l) d.broken.text

pub none : (place : ℕ) (records : List Logged) (bytes : List ℕ) → IsDamagedAt place bytes → IsJournal records bytes → ⊥
none place records bytes d (inl f) = let more = d.more in let short = f.short in omega (arith, more, short)
none place records bytes d (inr c) =
    no_journal d.records records c.gate c.rest d.broken.rest d.before.all c.all c.shut d.broken.broken (sym (damaged_text place bytes d) ∙ c.text)

pub one : (place other : ℕ) (bytes : List ℕ) → IsDamagedAt place bytes → IsDamagedAt other bytes → place ≡ other
one place other bytes d e =
    d.before.place_is
    ∙ same_broken d.records e.records d.broken.rest e.broken.rest d.before.all e.before.all d.broken.broken e.broken.broken
    (sym (damaged_text place bytes d) ∙ damaged_text other bytes e)
    ∙ sym e.before.place_is

pub begins : (bytes : List ℕ) → AreRecordsTo 0 [] bytes
begins bytes = record { text = refl; place_is = refl; all = All-nil IsRecord }

pub closed : (place : ℕ) (records : List Logged) (bytes : List ℕ) → AreRecordsTo place records bytes → IsClosedAt place bytes → IsClosed records bytes
closed place records bytes to at =
    record { gate = at.gate; rest = at.rest; text = to.text ∙ ap (λ (l : List ℕ). journal_text records ++ l) at.text; shut = at.shut; all = to.all }

pub longer : (place next : ℕ) (records : List Logged) (entry : Logged) (bytes : List ℕ) → AreRecordsTo place records bytes
    → IsRecordAt place next entry bytes → AreRecordsTo next (records ++ entry ∷ []) bytes
longer place next records entry bytes to at = record {
  text = to.text ∙ ap (λ (l : List ℕ). journal_text records ++ l) at.text ∙ sym (text_push records entry (drop next bytes));
  place_is = let p = to.place_is in let n = at.next_is in omega (arith, p, n, length_push records entry);
  all = all_push records entry to.all at.is_record;
}

pub read : (place : ℕ) (records : List Logged) (bytes : List ℕ) → AreRecordsTo place records bytes → records_in (length records) bytes ≡ records
read place records bytes to = ap (records_in (length records)) to.text ∙ read_back records (drop place bytes) to.all
