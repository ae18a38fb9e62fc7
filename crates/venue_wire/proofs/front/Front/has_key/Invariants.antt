use Rattle.std.proofs.Common.{◌≡◌, ◌||◌, drop, bytes_eq}
use Rattle.std.specs.List.{list_any}
use Rattle.venue_wire.proofs.front.Front.has_key.Given as goal

-- a key was found or is among those that are left, where it is among all
abbrev pub invariant-loop-key : goal.invariant-loop-key
invariant-loop-key l = (l.found || list_any (λ key. bytes_eq key l.value) (drop l.key-index l.key-items)) ≡ list_any (λ key. bytes_eq key l.value) l.key-items
