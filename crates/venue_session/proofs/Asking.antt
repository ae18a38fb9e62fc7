-- A question that comes too early is asked once more.
use Rattle.std.proofs.Common.{◌≡◌, ◌∙◌, ℕ, ◌+◌, ◌<◌, ◌≤◌, List, length, sym, ap, subst, arith, length-append, Option, Some}
use mathlib.Core.List.{IsPrefix}
use Rattle.venue_types.specs.declared.query.Query.{Query}
use Rattle.venue_types.specs.declared.reply.Reply.{Reply}
use Rattle.venue_types.specs.declared.reply.Reply.TheVariants as reply
use Rattle.venue_ports.specs.Causes.{Rose}
use Rattle.venue_hall.specs.Entry.{Entry}
use Rattle.venue_hall.specs.Closed.{Version}
use Rattle.venue_hall.specs.Histories.{Replays}
use Rattle.venue_hall.specs.Facts.{Facts, IsAnswered}
use Rattle.venue_wire.specs.declared.messages.Message.{Message}
use Rattle.wire_replies.specs.declared.response.Response.TheVariants.{Of}
use Rattle.venue_session.specs.Steps.{told_by, IsPast, NeedsNoLook, StaysOrRose, IsStep}
use Rattle.venue_session.proofs.Keeping.{grown}

-- the number of a version is the length of its history
abbrev pub Numbers : Type 0
Numbers = (h : List Entry) (v : Version) → Replays h v → v.number ≡ length h

longer : (a b : List Entry) → IsPrefix a b → length a ≤ length b
longer a b (more, whole) = omega (arith, length-append a more, ap (λ (l : List Entry). length l) whole)

past : (n : ℕ) (since : Option ℕ) (s : ℕ) → since ≡ Some s → n < s → IsPast n since
past n since s is less = subst (IsPast n) (sym is) less

past_before : (n k : ℕ) (since : Option ℕ) → k ≤ n → IsPast n since → IsPast k since
past_before n k (Some s) less is = omega (arith, less, is)
past_before n k _ less is = absurd is

-- a reply that a version isn't there yet says that it comes after what is seen
pub ahead_past : Numbers → (seen : List Entry) (query : Query) (since number : ℕ) → IsAnswered seen query (reply.Ahead since number) → IsPast (length seen) query.since
ahead_past law seen query since number (v, stands, told) =
    past (length seen) query.since since told.0 (omega (arith, law seen v stands, told.1))

-- the first reply came at a history that had grown alone, and said that the version isn't there yet
pub asked_again : Numbers → (old mid new : Facts) (query : Query) (since number : ℕ) (second : Reply)
    → IsAnswered mid.seen query (reply.Ahead since number) → IsPrefix old.seen mid.seen → mid ≡ record old { seen = mid.seen }
    → ((¬ NeedsNoLook mid.seen (Message.Ask query)) → IsStep mid (Message.Ask query) (Of second) new)
    → IsStep old (Message.Ask query) (Of second) new
asked_again law old mid new query since number second ahead grows kept again =
    let is_past = ahead_past law mid.seen query since number ahead in
    let step = again (λ none. none is_past) in
    record {
      right = step.right;
      grows = grown old.seen mid.seen new.seen grows step.grows;
      legal = step.legal;
      same = record {
        worker = step.same.worker ∙ ap (λ (f : Facts). f.worker) kept;
        parts = step.same.parts ∙ ap (λ (f : Facts). f.parts) kept;
        files = step.same.files ∙ ap (λ (f : Facts). f.files) kept;
      };
      made = subst (λ (n : ℕ). new.made ≡ n + told_by (Of second)) (ap (λ (f : Facts). f.made) kept) step.made;
      faults = subst (λ (n : ℕ). n ≤ new.faults) (ap (λ (f : Facts). f.faults) kept) step.faults;
      fault = λ tells. subst (λ (n : ℕ). Rose n new.faults) (ap (λ (f : Facts). f.faults) kept) (step.fault tells);
      looks = subst (λ (n : ℕ). StaysOrRose n new.looks) (ap (λ (f : Facts). f.looks) kept) step.looks;
      look = λ looked. subst (λ (n : ℕ). Rose n new.looks) (ap (λ (f : Facts). f.looks) kept) (step.look looked);
      quiet = λ none. absurd (none (past_before (length mid.seen) (length old.seen) query.since (longer old.seen mid.seen grows) is_past));
    }
