-- Want of memory may stand for every answer that tells no accepted change.
use Rattle.std.proofs.Common.{◌≡◌, ℕ, ◌+◌, refl, ap, ◌∙◌}
use mathlib.Core.List.{IsPrefix}
use Rattle.venue_types.specs.declared.reply.Reply.{Reply}
use Rattle.venue_types.specs.declared.reply.Reply.TheVariants as reply
use Rattle.venue_hall.specs.Facts.{Facts}
use Rattle.venue_wire.specs.declared.messages.Message.{Message}
use Rattle.wire_replies.specs.declared.response.Response.TheVariants.{Of}
use Rattle.venue_session.specs.Steps.{told_by, IsRight, ComesOfLook, IsStep}

right_wants : (old new : Facts) (message : Message) (r : Reply) → IsPrefix old.seen new.seen → IsRight old message (Of r) new
    → IsRight old message (Of reply.OutOfMemory) new
right_wants old new (Message.Ask query) r grows (version, replays, answers) = (version, replays, tt)
right_wants old new (Message.Do change) r grows right = (new.seen, grows, refl)
right_wants old new Message.Unread r grows (wants, same) = (refl, same)
right_wants old new (Message.Refused refusal) r grows right = absurd right
right_wants old new (Message.Bare refusal) r grows right = absurd right

look_wants : (message : Message) → ComesOfLook message (Of reply.OutOfMemory) → ⊥
look_wants (Message.Ask query) early = early
look_wants (Message.Do change) other = other refl
look_wants (Message.Refused refusal) none = none
look_wants (Message.Bare refusal) none = none
look_wants Message.Unread none = none

pub step_wants : (old new : Facts) (message : Message) (r : Reply) → told_by (Of r) ≡ 0 → IsStep old message (Of r) new
    → IsStep old message (Of reply.OutOfMemory) new
step_wants old new message r untold step = record {
  right = right_wants old new message r step.grows step.right;
  grows = step.grows;
  legal = step.legal;
  same = step.same;
  made = step.made ∙ ap (λ (n : ℕ). old.made + n) untold;
  faults = step.faults;
  fault = λ outside. absurd outside;
  looks = step.looks;
  look = λ looked. absurd (look_wants message looked);
  quiet = step.quiet;
}
