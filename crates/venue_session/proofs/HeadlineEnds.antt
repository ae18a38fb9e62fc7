-- What is written last, and what was taken and written in all.
use Rattle.std.proofs.Common.{◌≡◌, ◌∙◌, ◌⊎◌, ℕ, inl, inr, List, [], ◌++◌, refl, sym, ap, subst, Option, Some, append-nil}
use Rattle.std.proofs.lemmas.List.{append_cancel_left}
use Rattle.std.specs.Io.KnownBytes.{Appends, Consumes, IsAtEnd}
use Rattle.venue_hall.specs.Facts.{Facts}
use mathlib.Core.List.{IsPrefix}
use Rattle.venue_hall.specs.Shelves.{Shelf}
use Rattle.venue_hall.specs.Entry.{Entry}
use Rattle.venue_hall.specs.Facts.{IsSameHall}
use Rattle.venue_session.specs.Acting.{Acted, text_of, IsActed, AreOpen, ClosesLast}
use Rattle.venue_session.specs.Ends.{Measured, Run, Wrote, IsDone, IsBroken, Ended, refused_text}
use Rattle.venue_session.specs.Sessions.{IsSession}
use Rattle.venue_session.specs.declared.ends.End.{End}
use Rattle.venue_session.specs.Headline.{Exchange, Closes, NoneIsLeft, IsLastText, IsWhole, Headline, IsExchange, IsBrokenText, BrokenHeadline}
use Rattle.venue_session.proofs.Exchanges.{acts_told, exchange_of, exchange_is}
use Rattle.venue_session.proofs.Keeping.{acts_same}

-- what was written behind the answers
record HasLast (run : Run) (connection : Measured) (xs : List Exchange) (left : List ℕ) : Type 0 where
  last : List ℕ
  is : IsLastText xs run.bytes left run.rest last
  wrote : Wrote connection (run.out ++ last)

none_last : (run : Run) (connection : Measured) (xs : List Exchange) (left : List ℕ) → Wrote connection run.out → Closes xs ⊎ NoneIsLeft run.bytes left run.rest → HasLast run connection xs left
none_last run connection xs left wrote why = record {
  last = [];
  is = inl (refl, why);
  wrote = subst (λ (text : List ℕ). Wrote connection text) (sym (append-nil run.out)) wrote;
}

at_end : (after : Option (List ℕ)) (left : List ℕ) → after ≡ Some left → IsAtEnd after → left ≡ []
at_end after left now end = subst (λ (a : Option (List ℕ)). IsAtEnd a) now end

done_why : (run : Run) (connection : Measured) (xs : List Exchange) (left : List ℕ) → (ClosesLast run.acted → Closes xs) → connection.left_after ≡ Some left
    → IsDone run connection → Closes xs ⊎ NoneIsLeft run.bytes left run.rest
done_why run connection xs left closes now (inl all) = inr (inl (at_end connection.left_after left now all.2), inl all.1)
done_why run connection xs left closes now (inr close) = inl (closes close)

last_of : (keys : List (List ℕ)) (end : End) (run : Run) (connection : Measured) (new : Facts) (xs : List Exchange) (left : List ℕ)
    → (ClosesLast run.acted → Closes xs) → (AreOpen run.acted → Closes xs → ⊥) → connection.left_after ≡ Some left → IsWhole end → Ended keys end run connection new → HasLast run connection xs left
last_of keys End.Done run connection new xs left closes opens now whole is = none_last run connection xs left is.1 (done_why run connection xs left closes now is.3)
last_of keys (End.Cut count) run connection new xs left closes opens now whole is =
    none_last run connection xs left is.1 (inr (inl (at_end connection.left_after left now is.3.3), inr is.3.0.1))
last_of keys (End.Refused status) run connection new xs left closes opens now whole is = record { last = refused_text is.2; is = inr (opens is.3.0, is.2, is.3.1, refl); wrote = is.5 }
last_of keys End.Worn run connection new xs left closes opens now whole is = none_last run connection xs left is.1 (inr (inr is.4, inr is.3.1))
last_of keys End.LinkFault run connection new xs left closes opens now whole is = absurd whole
last_of keys End.OutOfMemory run connection new xs left closes opens now whole is = absurd whole

taken_of : (before after : Option (List ℕ)) (came left taken : List ℕ) → before ≡ Some came → after ≡ Some left → Consumes before after taken → came ≡ taken ++ left
taken_of before after came left taken was now took =
    subst (λ (b : Option (List ℕ)). Consumes b (Some left) taken) was (subst (λ (a : Option (List ℕ)). Consumes before a taken) now took)

written_of : (old new : Option (List ℕ)) (before written text : List ℕ) → old ≡ Some before → new ≡ Some (before ++ written) → Appends old new text → written ≡ text
written_of old new before written text was now wrote =
    append_cancel_left before written text
    (subst (λ (b : Option (List ℕ)). Appends b (Some (before ++ written)) text) was (subst (λ (a : Option (List ℕ)). Appends old a text) now wrote))

pub headline : (keys : List (List ℕ)) (old new : Facts) (connection : Measured) (end : End) (came left before written : List ℕ)
    → IsSession keys old new connection end → IsWhole end
    → connection.left_before ≡ Some came → connection.left_after ≡ Some left → connection.written_before ≡ Some before → connection.written_after ≡ Some (before ++ written)
    → Headline keys old.files old.worker old.seen came left written
headline keys old new connection end came left before written session whole came_is left_is before_is written_is =
    let run = session.run in
    let told = acts_told keys old run.facts run.bytes run.out run.rest run.acted session.acts in
    let behind = last_of keys end run connection new told.exchanges left told.closes told.goes_on left_is whole session.ended in
    let all = written_of connection.written_before connection.written_after before written (run.out ++ behind.last) before_is written_is behind.wrote in
    record {
      taken = run.bytes;
      took = taken_of connection.left_before connection.left_after came left run.bytes came_is left_is session.took;
      exchanges = told.exchanges;
      rest = run.rest;
      answered = told.answered;
      last = behind.last;
      last_is = behind.is;
      wrote = all ∙ ap (λ (text : List ℕ). text ++ behind.last) told.wrote;
    }

-- ---- a session that broke off

-- what was written behind the answers of a session that broke off, in which none of the messages closes
record HasBrokenLast (keys : List (List ℕ)) (shelf : Option Shelf) (worker : ℕ) (run : Run) (connection : Measured) : Type 0 where
  last : List ℕ
  are_open : AreOpen run.acted
  is : IsBrokenText keys shelf worker run.facts.seen run.rest last
  wrote : Wrote connection (run.out ++ last)

one_more_told : (keys : List (List ℕ)) (old mid new : Facts) (rest part : List ℕ) (m : Acted) → IsSameHall old mid → IsActed keys mid rest m new
    → IsPrefix part (text_of m) → IsBrokenText keys old.files old.worker mid.seen rest part
unfolding exchange_of
one_more_told keys old mid new rest part m same acted within =
    let here = exchange_is keys mid new rest m acted in
    let there : IsExchange keys old.files mid.worker mid.seen rest (exchange_of m new)
    = subst (λ (shelf : Option Shelf). IsExchange keys shelf mid.worker mid.seen rest (exchange_of m new)) same.files here in
    inr (inl (exchange_of m new, subst (λ (worker : ℕ). IsExchange keys old.files worker mid.seen rest (exchange_of m new)) same.worker there, within))

broken_text : (keys : List (List ℕ)) (old new : Facts) (run : Run) (part : List ℕ) → IsSameHall old run.facts → IsBroken keys run new part
    → AreOpen run.acted × IsBrokenText keys old.files old.worker run.facts.seen run.rest part
broken_text keys old new run part same (inl waiting) = (waiting.0.0, inl waiting.2)
broken_text keys old new run part same (inr (inl message)) =
    (message.0, one_more_told keys old run.facts new run.rest part message.1 same message.2 message.3)
broken_text keys old new run part same (inr (inr refused)) = (refused.1.0, inr (inr (refused.0, refused.1.1, refused.3)))

broken_of : (keys : List (List ℕ)) (end : End) (old new : Facts) (run : Run) (connection : Measured) → IsSameHall old run.facts → (IsWhole end → ⊥)
    → Ended keys end run connection new → HasBrokenLast keys old.files old.worker run connection
broken_of keys End.Done old new run connection same broken is = absurd (broken tt)
broken_of keys (End.Cut count) old new run connection same broken is = absurd (broken tt)
broken_of keys (End.Refused status) old new run connection same broken is = absurd (broken tt)
broken_of keys End.Worn old new run connection same broken is = absurd (broken tt)
broken_of keys End.LinkFault old new run connection same broken is =
    let text = broken_text keys old new run is.1 same is.3 in
    record { last = is.1; are_open = text.0; is = text.1; wrote = is.2 }
broken_of keys End.OutOfMemory old new run connection same broken is =
    record { last = []; are_open = is.2; is = inl refl; wrote = subst (λ (text : List ℕ). Wrote connection text) (sym (append-nil run.out)) is.1 }

pub broken_headline : (keys : List (List ℕ)) (old new : Facts) (connection : Measured) (end : End) (came left before written : List ℕ)
    → IsSession keys old new connection end → (IsWhole end → ⊥)
    → connection.left_before ≡ Some came → connection.left_after ≡ Some left → connection.written_before ≡ Some before → connection.written_after ≡ Some (before ++ written)
    → BrokenHeadline keys old.files old.worker old.seen came left written
broken_headline keys old new connection end came left before written session broken came_is left_is before_is written_is =
    let run = session.run in
    let told = acts_told keys old run.facts run.bytes run.out run.rest run.acted session.acts in
    let same = acts_same keys old run.facts run.bytes run.out run.rest run.acted session.acts in
    let behind = broken_of keys end old new run connection same broken session.ended in
    let all = written_of connection.written_before connection.written_after before written (run.out ++ behind.last) before_is written_is behind.wrote in
    record {
      taken = run.bytes;
      took = taken_of connection.left_before connection.left_after came left run.bytes came_is left_is session.took;
      exchanges = told.exchanges;
      rest = run.rest;
      answered = told.answered;
      goes_on = told.goes_on behind.are_open;
      last = behind.last;
      last_is = subst (λ (seen : List Entry). IsBrokenText keys old.files old.worker seen run.rest behind.last) (sym told.seen) behind.is;
      wrote = all ∙ ap (λ (text : List ℕ). text ++ behind.last) told.wrote;
    }
