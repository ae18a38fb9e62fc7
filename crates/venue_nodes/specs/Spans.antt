-- Lists that lie in one vector, each from a start to an end: the code's own machinery, which no public contract cites.
use Rattle.std.specs.Prelude.{◌-◌, ◌≤◌, List, All, length, take, drop}
use Rattle.venue_nodes.specs.declared.lists.Span.{Span}

-- the items from the start to the end
abbrev pub within : {A : Type 0} → List A → Span → List A
within items span = take (span.end - span.start) (drop span.start items)

-- each ends where it starts or behind, and within the items
abbrev pub AreSpans : {A : Type 0} → List A → List Span → Type 0
AreSpans items spans = All (λ (span : Span). (span.start ≤ span.end) × (span.end ≤ length items)) spans
