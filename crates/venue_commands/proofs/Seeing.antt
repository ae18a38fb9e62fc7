-- What is seen of a history that nobody else changes.
use Rattle.std.proofs.Common.{◌≡◌, ◌∙◌, sym, ap, refl, ◌+◌, ◌-◌, ◌≤◌, arith, List, [], ◌∷◌, ◌++◌, length, length-append, Some}
use mathlib.Core.List.{IsPrefix}
use Rattle.std.specs.Arc.{arc_value}
use Rattle.std.specs.declared.alloc.Global.{Global}
use Rattle.std.specs.declared.sync.Arc.{Arc}
use Rattle.version_board.specs.Venues.{SeenVenue as Venue}
use Rattle.version_board.specs.Entry.{Entry}
use Rattle.version_board.specs.Closed.{Version}
use Rattle.version_board.specs.Histories.{Replays, replay, opening_of}
use Rattle.version_board.specs.Openings.{opening_history}

none_behind : (xs : List Entry) → xs ++ [] ≡ xs
none_behind [] = refl
none_behind (x ∷ xs) = ap (λ (ys : List Entry). x ∷ ys) (none_behind xs)

-- where as many were made, nothing more is seen
pub none_more : (h k : List Entry) → 1 ≤ length h → IsPrefix h k → length k - 1 ≡ length h - 1 → k ≡ h
none_more h k some ([], whole) made = sym whole ∙ none_behind h
none_more h k some (x ∷ xs, whole) made =
    let long : length k ≡ length h + length (x ∷ xs) = sym (ap (λ (es : List Entry). length es) whole) ∙ length-append h (x ∷ xs) in
    absurd (omega (arith, some, made, long))

some_version : (u v : Version) → Some u ≡ Some v → u ≡ v
some_version u v e = cc e

-- a history leads to one version
pub one_version : (h : List Entry) (u v : Version) → Replays h u → Replays h v → u ≡ v
one_version h u v one other = some_version u v (sym one.leads ∙ other.leads)

-- the history that a venue opens leads to its first version
pub opens : (h : List Entry) (venue : Arc Venue Global) (v : Version) → h ≡ opening_history venue → Replays h v → Replays h (opening_of (arc_value venue))
opens h venue v is stands = record { leads = ap replay is; legal = stands.legal }
