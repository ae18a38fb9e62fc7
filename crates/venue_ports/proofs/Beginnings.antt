-- Reads that began, and what is written behind them.
use Rattle.std.proofs.Common.{◌≡◌, ℕ, zero, suc, List, [], ◌∷◌, ◌++◌, Option, Some, None, Bool, true, false, map, refl, ap, ◌∙◌}
use Rattle.std.specs.List.{AllByRecursion}
use Rattle.std.proofs.lemmas.List.{take-append-le, map-append}
use Rattle.venue_ports.specs.Begun.{Start, noted_start, noted_starts, IsWithin, add_start, read_start, read_starts}
use Rattle.venue_ports.specs.Starts.{ReadStart, TellsStart}
use Rattle.venue_ports.specs.declared.output.StartNote.{StartNote}

notes_stay : (notes : List StartNote) (written more : List ℕ) → AllByRecursion (IsWithin written) notes → map (noted_start (written ++ more)) notes ≡ map (noted_start written) notes
notes_stay [] written more within = refl
notes_stay (note ∷ notes) written more (is, rest) =
    ap (λ (l : List ℕ). record { read = note.read; written = l } ∷ map (noted_start (written ++ more)) notes) (take-append-le note.written written more is)
    ∙ ap (λ (l : List Start). noted_start written note ∷ l) (notes_stay notes written more rest)

pub starts_stay : (ended : Bool) (notes : List StartNote) (written more : List ℕ) → AllByRecursion (IsWithin written) notes
    → noted_starts ended notes (written ++ more) ≡ noted_starts ended notes written
starts_stay true notes written more within = refl
starts_stay false notes written more within = ap Some (notes_stay notes written more within)

pub tells_start : (input : List ℕ) (spare : ℕ) (before : Option (List Start)) (start : Start)
    → TellsStart (read_starts input before) (read_starts input (add_start spare before start)) (read_start input start)
tells_start input zero before start = by_before before
  where
    by_before : (before : Option (List Start)) → TellsStart (read_starts input before) None (read_start input start)
    by_before None = tt
    by_before (Some earlier) = tt
tells_start input (suc spare) None start = tt
tells_start input (suc spare) (Some earlier) start = map-append (read_start input) earlier (start ∷ [])
