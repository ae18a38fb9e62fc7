-- Entries that are replayed, and the lists behind which they stand.
use Rattle.std.proofs.Common.{◌≡◌, ℕ, ◌+◌, ◌∙◌, Bool, true, false, List, [], ◌∷◌, ◌++◌, Some, None, sym, ap, subst}
use Rattle.std.proofs.Math.Logic.{∥∥₁_elim}
use Rattle.std.proofs.Props.{props}
use Rattle.std.specs.Arc.{arc_value}
use Rattle.std.specs.declared.alloc.Global.{Global}
use Rattle.std.specs.declared.sync.Arc.{Arc}
use mathlib.Core.HLevel.{⊥_prop}
use Rattle.venue_state.specs.Act.TheVariants.{Published}
use Rattle.venue_state.specs.Entry.{Entry}
use Rattle.venue_state.specs.Closed.{Version}
use Rattle.venue_state.specs.Histories.{IsLegal, Replays}
use Rattle.venue_state.specs.Replaying.{IsEntered, IsEnteredBehind}
use Rattle.venue_state.specs.Report.{AreValid}
use Rattle.venue_state.specs.Venues.{SeenVenue as Venue}
use Rattle.venue_state.specs.Versions.{MayFollow, after, still_closed}
use Rattle.venue_state.specs.declared.outgoing.Outgoing.{Outgoing}
use Rattle.board_copies.specs.Leading.{LeadsTo}
use Rattle.board_copies.proofs.Standing.{replays_so}

-- what the answer tells of the version
pub was_made : (old new : Version) (e : Entry) (is_made : Bool) → is_made ≡ true → IsEntered old e is_made new → MayFollow old e × (new ≡ after old e.act)
was_made old new e true is entered = entered
was_made old new e false is entered = absurd (cc is)

pub was_refused : (old new : Version) (e : Entry) (is_made : Bool) → is_made ≡ false → IsEntered old e is_made new → (¬ MayFollow old e) × (new ≡ old)
was_refused old new e true is entered = absurd (cc is)
was_refused old new e false is entered = entered

-- what an entry that may follow does to a history, and that one that may not makes none
abbrev pub Follows : Type 0
Follows = (h : List Entry) (v : Version) (e : Entry) → Replays h v → MayFollow v e → Replays (h ++ e ∷ []) (after v e.act)

abbrev pub Precedes : Type 0
Precedes = (h k : List Entry) (e : Entry) (v : Version) → Replays h v → IsLegal (h ++ e ∷ k) → ∥ MayFollow v e ∥₁

pub longer : Follows → (h k : List Entry) (v w : Version) (e : Entry) → Replays h v → MayFollow v e → k ≡ h ++ e ∷ [] → w ≡ after v e.act → Replays k w
longer law h k v w e stands may list version = replays_so (h ++ e ∷ []) k (after v e.act) w (law h v e stands may) list version

pub illegal : Precedes → (h : List Entry) (v : Version) (e : Entry) → Replays h v → ¬ MayFollow v e → IsLegal (h ++ e ∷ []) → ⊥
illegal law h v e stands refused legal = ∥∥₁_elim (law h [] e v stands legal) ⊥_prop refused

-- one venue by two handles
pub same_may : (v : Version) (worker : ℕ) (one other : Arc Venue Global) → arc_value one ≡ arc_value other
    → MayFollow v (record { worker = worker; act = Published one }) → MayFollow v (record { worker = worker; act = Published other })
same_may v worker one other same may = record {
  room = may.room;
  worker_some = may.worker_some;
  worker_range = may.worker_range;
  fits = subst (λ (u : Venue). (u.settings ≡ v.settings) × AreValid u.features v.settings) same may.fits;
}

pub same_after : (v : Version) (one other : Arc Venue Global) → arc_value one ≡ arc_value other → after v (Published one) ≡ after v (Published other)
same_after v one other same = ap (λ (u : Venue). record v { number = v.number + 1; features = u.features; closed = still_closed v u.features }) same

-- behind a history of which the last version's rows aren't known
pub illegal_behind : Precedes → (h : List Entry) (left : Outgoing) (worker : ℕ) (one other : Arc Venue Global) → arc_value one ≡ arc_value other → ∥ LeadsTo h left ∥₁
    → IsEnteredBehind left (record { worker = worker; act = Published other }) None → IsLegal (h ++ record { worker = worker; act = Published one } ∷ []) → ⊥
illegal_behind law h left worker one other same leads none legal =
    ∥∥₁_elim leads ⊥_prop (λ (l : LeadsTo h left).
    illegal law h l.version (record { worker = worker; act = Published one }) l.replays
    (λ may. none l.version l.left_is (same_may l.version worker one other same may)) legal)

pub longer_behind : Follows → (h k : List Entry) (left : Outgoing) (worker : ℕ) (one other : Arc Venue Global) (new : Version) → arc_value other ≡ arc_value one
    → ∥ LeadsTo h left ∥₁ → IsEnteredBehind left (record { worker = worker; act = Published other }) (Some new)
    → k ≡ h ++ record { worker = worker; act = Published one } ∷ [] → Replays k new
longer_behind law h k left worker one other new same leads entered list =
    ∥∥₁_elim leads (hlevel props) (λ (l : LeadsTo h left).
    let made = entered l.version l.left_is in
    longer law h k l.version new (record { worker = worker; act = Published one }) l.replays (same_may l.version worker other one same made.0) list
    (made.1 ∙ same_after l.version other one same))

pub settings_behind : (h : List Entry) (left : Outgoing) (worker : ℕ) (other : Arc Venue Global) (new : Version)
    → ∥ LeadsTo h left ∥₁ → IsEnteredBehind left (record { worker = worker; act = Published other }) (Some new) → new.settings ≡ arc_value left.settings
settings_behind h left worker other new leads entered =
    ∥∥₁_elim leads (hlevel props) (λ (l : LeadsTo h left).
    ap (λ (v : Version). v.settings) (entered l.version l.left_is).1 ∙ sym l.left_is.settings_are)
