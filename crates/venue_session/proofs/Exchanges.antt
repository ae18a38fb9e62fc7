-- The messages that were acted on, told again as exchanges.
use Rattle.std.proofs.Common.{◌≡◌, ◌∙◌, ◌⊎◌, ℕ, inl, inr, false, List, [], ◌∷◌, ◌++◌, length, drop, refl, sym, ap, subst, arith, length-append, Option}
use Rattle.std.specs.List.{flat_map}
use Rattle.venue_hall.specs.Shelves.{Shelf}
use Rattle.venue_hall.specs.Entry.{Entry}
use Rattle.venue_hall.specs.Facts.{Facts}
use Rattle.venue_wire.specs.declared.messages.Message.{Message}
use Rattle.wire_replies.specs.declared.response.Response.{Response}
use Rattle.wire_replies.specs.declared.response.Response.TheVariants.{Of, No, Bare}
use Rattle.venue_session.specs.Acting.{Acted, IsActed, AreOpen, ClosesLast, Acts}
use Rattle.venue_session.specs.Acting as acting
use Rattle.venue_session.specs.Steps as steps
use Rattle.venue_session.specs.Headline.{Exchange, text_of, IsRight, IsExchange, AreExchanges, Closes, last_seen}
use Rattle.venue_session.proofs.Joining.{first_open, others_open}
use Rattle.venue_session.proofs.Ways.{way_told}

-- a right answer to a message is right as it is said here
right_told : (old new : Facts) (message : Message) (answer : Response) → steps.IsRight old message answer new
    → IsRight old.files old.worker old.seen message answer new.seen
right_told old new (Message.Ask query) (Of r) is = is
right_told old new (Message.Do asked) (Of r) is = is
right_told old new (Message.Refused refusal) (No given) is = is.0
right_told old new (Message.Bare refusal) (Bare given) is = is.0
right_told old new Message.Unread (Of r) is = is.0
right_told old new _ _ is = absurd is

unfoldable pub exchange_of : Acted → Facts → Exchange
exchange_of m new = record { message = m.message; length = m.length; close = m.close; answer = m.answer; seen = new.seen }

pub exchange_is : (keys : List (List ℕ)) (old new : Facts) (bytes : List ℕ) (m : Acted) → IsActed keys old bytes m new
    → IsExchange keys old.files old.worker old.seen bytes (exchange_of m new)
unfolding exchange_of
exchange_is keys old new bytes m acted = record {
  stands = acted.stands;
  grows = acted.step.grows;
  legal = acted.step.legal;
  right = right_told old new m.message m.answer acted.step.right;
  way = way_told old new m.message m.answer acted.step.right;
}

-- exchanges for these messages, from the front of the bytes, whose texts are these
pub record AreTold (keys : List (List ℕ)) (shelf : Option Shelf) (worker : ℕ) (before after : List Entry) (bytes out rest : List ℕ) (ms : List Acted) : Type 0 where
  pub exchanges : List Exchange
  pub answered : AreExchanges keys shelf worker before bytes exchanges rest
  pub wrote : out ≡ flat_map text_of exchanges
  pub empty : ms ≡ [] → exchanges ≡ []
  pub closes : ClosesLast ms → Closes exchanges
  pub goes_on : AreOpen ms → Closes exchanges → ⊥
  pub seen : last_seen before exchanges ≡ after

never_none : (front : List Acted) (last : Acted) → [] ≡ front ++ last ∷ [] → ⊥
never_none front last none = omega (arith, length-append front (last ∷ []), ap (λ (ms : List Acted). length ms) none)

never_closes : (xs : List Exchange) → ClosesLast [] → Closes xs
never_closes xs last = absurd (never_none last.0 last.1 last.2)

not_empty : (m : Acted) (ms : List Acted) (xs : List Exchange) → m ∷ ms ≡ [] → xs ≡ []
not_empty m ms xs none = cc none

first_is : (m k : Acted) (ms others : List Acted) → m ∷ ms ≡ k ∷ others → m ≡ k
first_is m k ms others e = cc e

others_are : (m k : Acted) (ms others : List Acted) → m ∷ ms ≡ k ∷ others → ms ≡ others
others_are m k ms others e = cc e

-- where the last of the messages closes one of the exchanges does
closes_behind : (m : Acted) (new : Facts) (ms : List Acted) (xs : List Exchange) → (ClosesLast ms → Closes xs) → ClosesLast (m ∷ ms) → Closes (exchange_of m new ∷ xs)
unfolding exchange_of
closes_behind m new ms xs closes ([], last, is, close) = inl (ap (λ (k : Acted). k.close) (first_is m last ms [] is) ∙ close)
closes_behind m new ms xs closes (k ∷ front, last, is, close) = inr (closes (front, last, others_are m k ms (front ++ last ∷ []) is, close))

-- where none of the messages closes none of the exchanges does
open_behind : (m : Acted) (new : Facts) (ms : List Acted) (xs : List Exchange) → (AreOpen ms → Closes xs → ⊥) → AreOpen (m ∷ ms) → Closes (exchange_of m new ∷ xs) → ⊥
unfolding exchange_of
open_behind m new ms xs behind are (inl close) = cc (first_open m ms are, close)
open_behind m new ms xs behind are (inr later) = behind (others_open m ms are) later

goes_on : (m : Acted) (ms : List Acted) (xs : List Exchange) → (ms ≡ [] → xs ≡ []) → (m.close ≡ false) ⊎ (ms ≡ []) → (m.close ≡ false) ⊎ (xs ≡ [])
goes_on m ms xs none (inl goes) = inl goes
goes_on m ms xs none (inr last) = inr (none last)

told_behind : (keys : List (List ℕ)) (old new : Facts) (after : List Entry) (bytes out more rest : List ℕ) (m : Acted) (ms : List Acted) → IsActed keys old bytes m new
    → (m.close ≡ false) ⊎ (ms ≡ []) → out ≡ acting.text_of m ++ more → AreTold keys old.files old.worker new.seen after (drop m.length bytes) more rest ms
    → AreTold keys old.files old.worker old.seen after bytes out rest (m ∷ ms)
unfolding exchange_of
told_behind keys old new after bytes out more rest m ms acted goes text behind = record {
  exchanges = exchange_of m new ∷ behind.exchanges;
  answered = (exchange_is keys old new bytes m acted, goes_on m ms behind.exchanges behind.empty goes, behind.answered);
  wrote = text ∙ ap (λ (o : List ℕ). acting.text_of m ++ o) behind.wrote;
  empty = not_empty m ms (exchange_of m new ∷ behind.exchanges);
  closes = closes_behind m new ms behind.exchanges behind.closes;
  goes_on = open_behind m new ms behind.exchanges behind.goes_on;
  seen = behind.seen;
}

pub acts_told : (keys : List (List ℕ)) (old new : Facts) (bytes out rest : List ℕ) (ms : List Acted)
    → Acts keys old bytes ms out new rest → AreTold keys old.files old.worker old.seen new.seen bytes out rest ms
acts_told keys old new bytes out rest [] (same, none, left) =
    record { exchanges = []; answered = left; wrote = none; empty = λ e. refl; closes = never_closes []; goes_on = λ are close. close; seen = sym (ap (λ (f : Facts). f.seen) same) }
acts_told keys old new bytes out rest (m ∷ ms) (via, more, first, goes, text, later) =
    told_behind keys old via new.seen bytes out more rest m ms first goes text
    (subst (λ (shelf : Option Shelf). AreTold keys shelf old.worker via.seen new.seen (drop m.length bytes) more rest ms) first.step.same.files
    (subst (λ (worker : ℕ). AreTold keys via.files worker via.seen new.seen (drop m.length bytes) more rest ms) first.step.same.worker
    (acts_told keys via new (drop m.length bytes) more rest ms later)))
