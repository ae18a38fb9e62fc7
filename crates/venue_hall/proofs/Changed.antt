-- What a change leaves behind.
use Rattle.std.proofs.Common.{◌≡◌, ℕ, Bool, true, false, inl, inr, List, ◌++◌, sym, ap, ◌∙◌, arith, append_assoc}
use Rattle.std.specs.Prelude.{Option, if◌then◌else◌}
use mathlib.Core.List.{IsPrefix}
use Rattle.venue_types.specs.declared.query.Change.{Change}
use Rattle.venue_types.specs.declared.reply.Reply.{Reply}
use Rattle.venue_types.specs.declared.reply.Reply.TheVariants as reply
use Rattle.venue_history.specs.Shelves.{Shelf}
use Rattle.venue_history.specs.declared.entry.Entry.{Entry}
use Rattle.venue_history.specs.Changes.{Changes, IsAccepted}
use Rattle.venue_history.proofs.Changing.{closure_way}
use Rattle.venue_history.specs.Replies.{told}
use Rattle.venue_hall.specs.Facts.{IsLastBy}

-- what begins with what begins with a list begins with it
pub grown : (a b c : List Entry) → IsPrefix a b → IsPrefix b c → IsPrefix a c
grown a b c (x, first) (y, second) = (x ++ y, sym (append_assoc a x y) ∙ ap (λ (l : List Entry). l ++ y) first ∙ second)

abbrev counted : Bool → ℕ
counted changed = if changed then 1 else 0

not_counted : (changed : Bool) → changed ≡ false → counted changed ≡ 1 → ⊥
not_counted true is one = cc is
not_counted false is one = omega (arith, one)

-- a reply that tells an accepted change belongs to one
accepted : (shelf : Option Shelf) (worker : ℕ) (asked : Change) (h k : List Entry) (r : Reply) → told r ≡ 1 → Changes shelf worker asked h r k → IsAccepted shelf worker asked h r k
accepted shelf worker asked h k (reply.ClosureDone done) one changes = elim (closure_way shelf worker asked h k done changes) [
  | inl made ↦ made.1
  | inr left ↦ absurd (not_counted done.changed left.0 one)
]
accepted shelf worker asked h k (reply.Published number dropped) one changes = changes
accepted shelf worker asked h k r one changes = absurd (omega (arith, one))

pub last_by : (shelf : Option Shelf) (worker : ℕ) (asked : Change) (h k : List Entry) (r : Reply) → told r ≡ 1 → Changes shelf worker asked h r k → IsLastBy worker k
last_by shelf worker asked h k r one changes =
    let done = accepted shelf worker asked h k r one changes in
    (h, done.entry, done.grown, done.by_worker)
