-- What publishing all that is queued gives.
use Rattle.std.proofs.Common.{◌≡◌, List, [], ◌∷◌, ◌++◌, fold, refl, ◌∙◌, ap}
use Rattle.std.specs.Arc.{arc_value}
use Rattle.board_copies.specs.declared.held.Held.{Held}
use Rattle.board_copies.specs.declared.held.Ready.{Ready}
use Rattle.board_copies.specs.Queues.{EndsWith}

pub fold_last : (before : List Ready) (r : Ready) (h : Held) → fold (λ (k : Held) (q : Ready). arc_value q.held) h (before ++ r ∷ []) ≡ arc_value r.held
fold_last [] r h = refl
fold_last (q ∷ before) r h = fold_last before r (arc_value q.held)

pub fold_ends : (queued : List Ready) (h held : Held) → EndsWith queued held → fold (λ (k : Held) (q : Ready). arc_value q.held) h queued ≡ held
fold_ends queued h held ends = ap (fold (λ (k : Held) (q : Ready). arc_value q.held) h) ends.is ∙ fold_last ends.before ends.last h ∙ ends.board

-- with nothing queued what was published stays
pub stays : (queued : List Ready) (was now : Held) → now ≡ fold (λ (k : Held) (q : Ready). arc_value q.held) was queued → queued ≡ [] → now ≡ was
stays queued was now is none = is ∙ ap (fold (λ (k : Held) (q : Ready). arc_value q.held) was) none
