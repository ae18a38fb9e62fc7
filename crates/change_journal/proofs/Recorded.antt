-- What a journal tells of its records, and what an append makes of it.
use Rattle.std.proofs.Common.{◌≡◌, inl, inr, ℕ, zero, suc, ◌+◌, List, [], ◌∷◌, ◌++◌, length, Some}
use Rattle.std.proofs.Common.{Bool, true, false, refl, sym, ◌∙◌, ap, subst, arith, length-append}
use Rattle.std.specs.Option.{option_map}
use Rattle.venue_ports.specs.Moments.{Moment, Now}
use Rattle.venue_hall.specs.Records.{Logged, AreCounted, AreKept}
use Rattle.change_journal.specs.Appends.{IsAppend}
use Rattle.change_journal.specs.Reading.{records_in, read_record}
use Rattle.change_journal.specs.Runs.{Run}
use Rattle.change_journal.specs.States.{IsShut, IsReady, IsAsBefore, IsEither, IsBetween}
use Rattle.change_journal.specs.Texts.{IsJournal, record_body}
use Rattle.change_journal.specs.Told.{recorded, told_records}
use Rattle.change_journal.proofs.ReadBack.{read_back}
use Rattle.change_journal.proofs.Runs.{then, weaker, now_maps}

length-records_in : (count : ℕ) (bytes : List ℕ) → length (records_in count bytes) ≡ count
length-records_in zero bytes = refl
length-records_in (suc n) bytes = ap suc (length-records_in n (read_record bytes).rest)

pub told_counted : (count : ℕ) (moments : List Moment) → AreCounted (told_records count moments) count
told_counted count [] = tt
told_counted count (now ∷ past) = length-records_in count now.reads

-- what a journal of these records reads
ready_reads : (records : List Logged) (gate : ℕ) (is_shut : Bool) (m : Moment) → IsReady records gate is_shut m → records_in (length records) m.reads ≡ records
ready_reads records gate true m s = ap (records_in (length records)) s.reads.text ∙ read_back records (s.reads.gate ∷ s.reads.rest) s.reads.all
ready_reads records gate false m (inl n) = ap (λ (rs : List Logged). records_in (length rs) m.reads) n.none ∙ sym n.none
ready_reads records gate false m (inr u) =
    ap (records_in (length records)) u.reads.text ∙ read_back records (u.reads.gate ∷ (record_body u.reads.last ++ u.reads.next ∷ u.reads.rest)) u.reads.all

same_reads : (count gate : ℕ) (is_shut : Bool) (was m : Moment) → IsReady (records_in count was.reads) gate is_shut m
    → records_in count m.reads ≡ records_in count was.reads
same_reads count gate is_shut was m ready =
    ap (λ n. records_in n m.reads) (sym (length-records_in count was.reads)) ∙ ready_reads (records_in count was.reads) gate is_shut m ready

more_reads : (count gate : ℕ) (entry : Logged) (was m : Moment) → IsShut (records_in count was.reads ++ entry ∷ []) gate m
    → records_in (count + 1) m.reads ≡ records_in count was.reads ++ entry ∷ []
more_reads count gate entry was m s =
    let long : count + 1 ≡ length (records_in count was.reads ++ entry ∷ []) =
    omega (arith, length-records_in count was.reads, length-append (records_in count was.reads) (entry ∷ [])) in
    ap (λ n. records_in n m.reads) long ∙ ready_reads (records_in count was.reads ++ entry ∷ []) gate true m s

-- an append that failed
module _ (count gate : ℕ) (is_shut : Bool) where
  pub ready_again : (old new : List Moment) → (old ≡ [] → new ≡ []) → Now (IsReady (recorded count old) gate is_shut) new
      → Now (IsReady (recorded count new) gate is_shut) new
  ready_again old [] untold ready = tt
  ready_again [] (n ∷ ns) untold ready = let none = untold refl in cc
  ready_again (m ∷ past) (n ∷ ns) untold ready =
      subst (λ (rs : List Logged). IsReady rs gate is_shut n) (sym (same_reads count gate is_shut m n ready)) ready

  pub told_kept : (old new : List Moment) → (old ≡ [] → new ≡ []) → Now (IsReady (recorded count old) gate is_shut) new
      → AreKept (told_records count old) (told_records count new)
  told_kept old [] untold ready = tt
  told_kept [] (n ∷ ns) untold ready = let none = untold refl in cc
  told_kept (m ∷ past) (n ∷ ns) untold ready = ap Some (sym (same_reads count gate is_shut m n ready))

-- an append that answered Ok
module _ (count gate : ℕ) (entry : Logged) where
  pub ready_more : (old new : List Moment) → (old ≡ [] → new ≡ []) → Now (IsReady (recorded count old ++ entry ∷ []) gate true) new
      → Now (IsReady (recorded (count + 1) new) gate true) new
  ready_more old [] untold ready = tt
  ready_more [] (n ∷ ns) untold ready = let none = untold refl in cc
  ready_more (m ∷ past) (n ∷ ns) untold ready = subst (λ (rs : List Logged). IsShut rs gate n) (sym (more_reads count gate entry m n ready)) ready

  pub told_more : (old new : List Moment) → (old ≡ [] → new ≡ []) → (new ≡ [] → old ≡ []) → Now (IsReady (recorded count old ++ entry ∷ []) gate true) new
      → told_records (count + 1) new ≡ option_map (λ (front : List Logged). front ++ entry ∷ []) (told_records count old)
  told_more [] [] untold told ready = refl
  told_more (m ∷ past) [] untold told ready = let none = told refl in cc
  told_more [] (n ∷ ns) untold told ready = let none = untold refl in cc
  told_more (m ∷ past) (n ∷ ns) untold told ready = ap Some (more_reads count gate entry m n ready)

-- what a run says of an append that it is
pub failed_append : (records : List Logged) (entry : Logged) (S : Moment → Type 0) (old new : List Moment) → Run (IsBetween records entry old) S old new
    → IsAppend records old (record { entry = entry; is_ok = false; moments = new })
failed_append records entry S old new run = record { only = run.only; kept = λ e. cc; untold = run.untold }

pub ended_append : (records : List Logged) (entry : Logged) (gate : ℕ) (old new : List Moment)
    → Run (IsBetween records entry old) (IsReady (records ++ entry ∷ []) gate true) old new
    → IsAppend records old (record { entry = entry; is_ok = true; moments = new })
ended_append records entry gate old new run = record {
  only = run.only;
  kept = λ e. now_maps new (λ m s. λ image left. inr (s.images image left)) run.now;
  untold = run.untold;
}

-- the calls of an append, one after the other
module _ (records : List Logged) (entry : Logged) (old : List Moment) where
  as_between : (image : List ℕ) → IsAsBefore records old image → IsBetween records entry old image
  as_between image (inl left) = inl left
  as_between image (inr is) = inr (inl is)

  journal_between : (image : List ℕ) → IsJournal records image → IsBetween records entry old image
  journal_between image is = inr (inl is)

  either_between : (image : List ℕ) → IsEither records entry image → IsBetween records entry old image
  either_between image is = inr is

  pub closed_run : (S : Moment → Type 0) (new : List Moment) → Run (IsAsBefore records old) S old new → Run (IsBetween records entry old) S old new
  closed_run S new run = weaker (IsAsBefore records old) (IsBetween records entry old) S S old new as_between (λ m s. s) run

  pub put_run : (S T : Moment → Type 0) (mid new : List Moment) → Run (IsAsBefore records old) S old mid → Run (IsJournal records) T mid new
      → Run (IsBetween records entry old) T old new
  put_run S T mid new one two = then (IsAsBefore records old) (IsJournal records) (IsBetween records entry old) S T old mid new as_between journal_between one two

  pub opened_run : (S T : Moment → Type 0) (mid new : List Moment) → Run (IsBetween records entry old) S old mid
      → Run (IsEither records entry) T mid new → Run (IsBetween records entry old) T old new
  opened_run S T mid new one two =
      then (IsBetween records entry old) (IsEither records entry) (IsBetween records entry old) S T old mid new (λ image b. b) either_between one two
