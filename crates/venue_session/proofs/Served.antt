-- What a session makes of the hall.
use Rattle.std.proofs.Common.{◌≡◌, ◌⊎◌, ℕ, ◌∙◌, inl, inr, List, [], ◌∷◌, drop, sym, ap, subst, arith}
use Rattle.venue_hall.specs.Histories.{IsLegal}
use Rattle.venue_ports.specs.Causes.{Rose}
use Rattle.venue_hall.specs.Facts.{Facts}
use Rattle.venue_wire.specs.declared.messages.Message.{Message}
use Rattle.wire_replies.specs.declared.response.Response.{Response}
use Rattle.venue_session.specs.Acting.{Acted, IsActed, Acts}
use Rattle.venue_session.specs.Ends.{Run, Measured, IsBroken, IsStarved, Ended}
use Rattle.venue_session.specs.Sessions.{IsSession, HasServed}
use Rattle.venue_session.specs.Steps.{IsStep, StaysOrRose}
use Rattle.venue_session.specs.declared.ends.End.{End}
use Rattle.venue_session.specs.declared.ends.End.TheVariants as end
use Rattle.venue_session.proofs.Keeping.{grown, acts_faults, acts_grows, acts_legal, acts_made, acts_same}

rose_twice : (a b c : ℕ) → Rose a b → Rose b c → Rose a c
rose_twice a b c first second = omega (arith, first, second)

pub looks_on : (a b c : ℕ) → StaysOrRose a b → StaysOrRose b c → StaysOrRose a c
looks_on a b c (inl first) second = subst (λ (n : ℕ). StaysOrRose n c) first second
looks_on a b c (inr first) (inl second) = inr (subst (λ (n : ℕ). Rose a n) (sym second) first)
looks_on a b c (inr first) (inr second) = inr (rose_twice a b c first second)

acts_looks : (keys : List (List ℕ)) (old new : Facts) (bytes out rest : List ℕ) (ms : List Acted)
    → Acts keys old bytes ms out new rest → StaysOrRose old.looks new.looks
acts_looks keys old new bytes out rest [] (same, none, left) = inl (ap (λ (f : Facts). f.looks) same)
acts_looks keys old new bytes out rest (m ∷ ms) (via, more, first, goes, text, later) =
    looks_on old.looks via.looks new.looks first.step.looks (acts_looks keys via new (drop m.length bytes) more rest ms later)

acts_serve : (keys : List (List ℕ)) (old new : Facts) (bytes out rest : List ℕ) (ms : List Acted)
    → Acts keys old bytes ms out new rest → IsLegal old.seen → HasServed old new
acts_serve keys old new bytes out rest ms acts legal = record {
  same = acts_same keys old new bytes out rest ms acts;
  grows = acts_grows keys old new bytes out rest ms acts;
  legal = acts_legal keys old new bytes out rest ms acts legal;
  made = omega (arith, acts_made keys old new bytes out rest ms acts);
  faults = acts_faults keys old new bytes out rest ms acts;
  looks = acts_looks keys old new bytes out rest ms acts;
}

step_serves : (old mid new : Facts) (message : Message) (answer : Response) → HasServed old mid → IsStep mid message answer new → HasServed old new
step_serves old mid new message answer served step = record {
  same = record {
    worker = step.same.worker ∙ served.same.worker;
    parts = step.same.parts ∙ served.same.parts;
    files = step.same.files ∙ served.same.files;
  };
  grows = grown old.seen mid.seen new.seen served.grows step.grows;
  legal = step.legal;
  made = omega (arith, served.made, step.made);
  faults = omega (arith, served.faults, step.faults);
  looks = looks_on old.looks mid.looks new.looks served.looks step.looks;
}

-- at its end the hall is as the run left it, or has acted on one message more
IsLast : List (List ℕ) → Run → Facts → Type 0
IsLast keys run new = (new ≡ run.facts) ⊎ ((m : Acted) × IsActed keys run.facts run.rest m new)

broken_last : (keys : List (List ℕ)) (run : Run) (new : Facts) (part : List ℕ) → IsBroken keys run new part → IsLast keys run new
unfolding IsLast
broken_last keys run new part (inl waiting) = inl waiting.1
broken_last keys run new part (inr (inl message)) = inr (message.1, message.2)
broken_last keys run new part (inr (inr refused)) = inl refused.2

starved_last : (keys : List (List ℕ)) (run : Run) (new : Facts) → IsStarved keys run new → IsLast keys run new
unfolding IsLast
starved_last keys run new (inl same) = inl same.0
starved_last keys run new (inr message) = inr (message.0, message.1)

ended_last : (keys : List (List ℕ)) (e : End) (run : Run) (connection : Measured) (new : Facts) → Ended keys e run connection new → IsLast keys run new
unfolding IsLast
ended_last keys end.Done run connection new how = inl how.2
ended_last keys (end.Cut count) run connection new how = inl how.2
ended_last keys (end.Refused status) run connection new how = inl how.1
ended_last keys end.Worn run connection new how = inl how.2
ended_last keys end.LinkFault run connection new how = broken_last keys run new how.1 how.3
ended_last keys end.OutOfMemory run connection new how = starved_last keys run new how.3

last_serves : (keys : List (List ℕ)) (old new : Facts) (run : Run) → HasServed old run.facts → IsLast keys run new → HasServed old new
unfolding IsLast
last_serves keys old new run served (inl same) = subst (λ (f : Facts). HasServed old f) (sym same) served
last_serves keys old new run served (inr message) =
    step_serves old run.facts new message.0.message message.0.answer served message.1.step

pub session_serves : (keys : List (List ℕ)) (old new : Facts) (connection : Measured) (e : End) → IsSession keys old new connection e → HasServed old new
session_serves keys old new connection e session =
    let run = session.run in
    last_serves keys old new run
    (acts_serve keys old run.facts run.bytes run.out run.rest run.acted session.acts session.legal)
    (ended_last keys e run connection new session.ended)
