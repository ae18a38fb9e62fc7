-- What a change does to the history.
use Rattle.std.proofs.Common.{◌≡◌, ℕ, ◌+◌, List, [], ◌∷◌, ◌++◌, length, refl, sym, ap, subst, arith, ◌⊎◌, inl, inr, Option, Bool, true, false, length-append}
use Rattle.std.specs.Prelude.{if◌then◌else◌}
use mathlib.Core.List.{IsPrefix}
use Rattle.venue_types.specs.declared.query.Change.{Change}
use Rattle.venue_types.specs.declared.reply.ClosureDone.{ClosureDone}
use Rattle.venue_types.specs.declared.reply.Reply.{Reply}
use Rattle.venue_types.specs.declared.reply.Reply.TheVariants as reply
use Rattle.venue_folder.specs.Shelves.{Shelf}
use Rattle.venue_history.specs.declared.entry.Entry.{Entry}
use Rattle.venue_history.specs.Histories.{IsLegal}
use Rattle.venue_history.specs.Replies.{told}
use Rattle.venue_history.specs.Changes.{IsRefused, IsAccepted, IsAcceptedIf, Changes}
use Rattle.venue_history.proofs.Beginnings.{replay_push}

-- the history stays, or is one entry longer and legal
pub data Result (h : List Entry) (k : List Entry) (r : Reply) : Type 0 where
  kept : told r ≡ 0 → k ≡ h → Result h k r
  grown : (e : Entry) → told r ≡ 1 → k ≡ h ++ e ∷ [] → IsLegal k → Result h k r

accepted : (shelf : Option Shelf) (worker : ℕ) (asked : Change) (h k : List Entry) (r : Reply) → told r ≡ 1 → IsAccepted shelf worker asked h r k → Result h k r
accepted shelf worker asked h k r one a =
    grown a.entry one a.grown (subst IsLegal (sym a.grown) (replay_push h a.version a.entry a.stands a.may).legal)

closure_by : (shelf : Option Shelf) (worker : ℕ) (asked : Change) (h k : List Entry) (done : ClosureDone) (changed : Bool) → done.changed ≡ changed
    → IsAcceptedIf changed shelf worker asked h (reply.ClosureDone done) k
    → ((done.changed ≡ true) × IsAccepted shelf worker asked h (reply.ClosureDone done) k) ⊎ ((done.changed ≡ false) × IsRefused shelf asked h (reply.ClosureDone done) k)
closure_by shelf worker asked h k done true is c = inl (is, c)
closure_by shelf worker asked h k done false is c = inr (is, c)

-- a reply that tells of a closure belongs to an accepted change, or to one that leaves the history
pub closure_way : (shelf : Option Shelf) (worker : ℕ) (asked : Change) (h k : List Entry) (done : ClosureDone) → Changes shelf worker asked h (reply.ClosureDone done) k
    → ((done.changed ≡ true) × IsAccepted shelf worker asked h (reply.ClosureDone done) k) ⊎ ((done.changed ≡ false) × IsRefused shelf asked h (reply.ClosureDone done) k)
closure_way shelf worker asked h k done c = closure_by shelf worker asked h k done done.changed refl c

pub result_of : (shelf : Option Shelf) (worker : ℕ) (asked : Change) (h k : List Entry) (r : Reply) → Changes shelf worker asked h r k → Result h k r
result_of shelf worker asked h k (reply.ClosureDone done) c = elim (closure_way shelf worker asked h k done c) [
  | inl made ↦ accepted shelf worker asked h k (reply.ClosureDone done) (ap (λ (b : Bool). if b then 1 else 0) made.0) made.1
  | inr left ↦ kept (ap (λ (b : Bool). if b then 1 else 0) left.0) left.1.kept
]
result_of shelf worker asked h k (reply.Published number dropped) c = accepted shelf worker asked h k _ refl c
result_of shelf worker asked h k reply.OutOfMemory c = kept refl c
result_of shelf worker asked h k _ c = kept refl c.kept

pub result_length : (h k : List Entry) (r : Reply) → Result h k r → length k ≡ length h + told r
result_length h k r (kept none same) = omega (arith, ap length same)
result_length h k r (grown e one same legal) = omega (arith, ap length same, length-append h (e ∷ []))

pub result_kept : (h k : List Entry) (r : Reply) → Result h k r → told r ≡ 0 → k ≡ h
result_kept h k r (kept none same) zero = same
result_kept h k r (grown e one same legal) zero = absurd (omega arith)

begins_itself : (xs : List Entry) → IsPrefix xs xs
begins_itself [] = ([], refl)
begins_itself (x ∷ xs) = ([], ap (λ (ys : List Entry). x ∷ ys) (append_none xs))
  where
    append_none : (ys : List Entry) → ys ++ [] ≡ ys
    append_none [] = refl
    append_none (y ∷ ys) = ap (λ (zs : List Entry). y ∷ zs) (append_none ys)

pub result_grows : (h k : List Entry) (r : Reply) → Result h k r → IsPrefix h k
result_grows h k r (kept none same) = subst (IsPrefix h) (sym same) (begins_itself h)
result_grows h k r (grown e one same legal) = (e ∷ [], sym same)

pub result_legal : (h k : List Entry) (r : Reply) → Result h k r → IsLegal h → IsLegal k
result_legal h k r (kept none same) legal = subst IsLegal (sym same) legal
result_legal h k r (grown e one same longer) legal = longer
