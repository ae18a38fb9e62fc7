-- What waits in a buffer from a start to an end.
use Rattle.std.proofs.Common.{◌≡◌, ℕ, ◌+◌, List, ◌++◌, take, drop, sym, ap, ◌∙◌, slice_range}
use Rattle.std.proofs.Math.Seq.{take-add}
use Rattle.std.proofs.lemmas.List.{drop-drop}
use Rattle.std.proofs.lemmas.Slice.{between_is, between_from_start}

-- behind its first bytes the rest waits
pub waits_behind : (bytes : List ℕ) (start end count : ℕ) → slice_range bytes (start + count) end ≡ drop count (slice_range bytes start end)
waits_behind bytes start end count =
    between_is bytes (start + count) end ∙ sym (drop-drop count start (take end bytes)) ∙ ap (drop count) (sym (between_is bytes start end))

-- what was read stands behind what waited
pub waits_more : (bytes waiting : List ℕ) (size count : ℕ) → take size bytes ≡ waiting
    → slice_range bytes 0 (size + count) ≡ waiting ++ take count (drop size bytes)
waits_more bytes waiting size count front =
    between_from_start bytes (size + count) ∙ take-add size count bytes ∙ ap (λ (t : List ℕ). t ++ take count (drop size bytes)) front
