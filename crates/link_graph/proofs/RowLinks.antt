-- The links across units, row by row.
use Rattle.std.proofs.Common.{◌≡◌, ◌<◌, ◌++◌, length, get_or, drop, ℕ, ◌+◌, List, ◌∷◌, Some, sym, ap, ◌∙◌}
use Rattle.std.specs.Prelude.{slice_get}
use Rattle.std.proofs.lemmas.List.{drop_more}
use Rattle.std.proofs.lemmas.Option.{slice_get_within, get_or_from_slice_get}
use Rattle.link_graph.specs.declared.parts.Core.{Core}
use Rattle.link_graph.specs.declared.parts.Crossing.{Crossing}
use Rattle.link_graph.specs.Cores.{links_across, links_across_all}

-- the links across the units of what is left, from a row on
pub next_row : (core : Core) (w : ℕ) (crossings : List Crossing) (rows : List (List ℕ)) (crossing : Crossing) (row : List ℕ) → w < length crossings → crossing ≡ get_or crossings w crossing → slice_get rows w ≡ Some row
    → links_across_all core (drop w crossings) (drop w rows) ≡ links_across core crossing row ++ links_across_all core (drop (w + 1) crossings) (drop (w + 1) rows)
next_row core w crossings rows crossing row within read there =
    let one : drop w crossings ≡ crossing ∷ drop (w + 1) crossings = drop_more crossings w crossing within ∙ ap (λ (x : Crossing). x ∷ drop (w + 1) crossings) (sym read) in
    let two : drop w rows ≡ row ∷ drop (w + 1) rows = drop_more rows w row (slice_get_within rows w row there) ∙ ap (λ (r : List ℕ). r ∷ drop (w + 1) rows) (get_or_from_slice_get rows w row row there) in
    ap (λ (xs : List Crossing). links_across_all core xs (drop w rows)) one ∙ ap (λ (rs : List (List ℕ)). links_across_all core (crossing ∷ drop (w + 1) crossings) rs) two
