-- Lists in one vector: what is added behind changes none of them.
use Rattle.std.proofs.Common.{◌≡◌, ℕ, ◌+◌, ◌-◌, ◌≤◌, List, [], ◌∷◌, ◌++◌, length, map, take, drop, refl, sym, ap, ◌∙◌, arith, length-append}
use Rattle.std.proofs.lemmas.List.{map_push, drop-append-le, take-append-le, drop_at, take_all, length-drop}
use Rattle.std.proofs.lemmas.List.Elements.{All-head, All-tail}
use Rattle.venue_nodes.specs.declared.lists.Span.{Span}
use Rattle.venue_nodes.specs.Spans.{within, AreSpans}

one_kept : {A : Type 0} (items more : List A) (s : Span) → s.start ≤ s.end → s.end ≤ length items → within (items ++ more) s ≡ within items s
one_kept items more s rises inside =
    let long : length (drop s.start items) ≡ length items - s.start = length-drop s.start items in
    ap (take (s.end - s.start)) (drop-append-le s.start items more (omega arith))
    ∙ take-append-le (s.end - s.start) (drop s.start items) more (omega arith)

pub all_kept : {A : Type 0} (items more : List A) (spans : List Span) → AreSpans items spans → map (within (items ++ more)) spans ≡ map (within items) spans
all_kept items more [] are = refl
all_kept {A} items more (s ∷ spans) are =
    let P = λ (span : Span). (span.start ≤ span.end) × (span.end ≤ length items) in
    let here = All-head P s spans are in
    ap (λ (x : List A). x ∷ map (within (items ++ more)) spans) (one_kept items more s here.0 here.1)
    ∙ ap (λ (xs : List (List A)). within items s ∷ xs) (all_kept items more spans (All-tail P s spans are))

one_new : {A : Type 0} (items new : List A) (s : Span) → s.start ≡ length items → s.end ≡ length items + length new → within (items ++ new) s ≡ new
one_new items new s from to =
    let size : s.end - s.start ≡ length new = omega arith in
    ap (λ (n : ℕ). take n (drop s.start (items ++ new))) size
    ∙ ap (take (length new)) (drop_at items new s.start (sym from))
    ∙ take_all (length new) new (omega arith)

pub added : {A : Type 0} (items new : List A) (spans : List Span) (s : Span) → AreSpans items spans → s.start ≡ length items → s.end ≡ length items + length new
    → map (within (items ++ new)) (spans ++ s ∷ []) ≡ map (within items) spans ++ new ∷ []
added {A} items new spans s are from to =
    map_push (within (items ++ new)) spans s
    ∙ ap (λ (xs : List (List A)). xs ++ within (items ++ new) s ∷ []) (all_kept items new spans are)
    ∙ ap (λ (x : List A). map (within items) spans ++ x ∷ []) (one_new items new s from to)

pub added_as : {A : Type 0} (items new items' : List A) (spans spans' : List Span) (s : Span) (before : List (List A)) → AreSpans items spans → before ≡ map (within items) spans
    → items' ≡ items ++ new → spans' ≡ spans ++ s ∷ [] → s.start ≡ length items → s.end ≡ length items' → map (within items') spans' ≡ before ++ new ∷ []
added_as {A} items new items' spans spans' s before are is grown more from to =
    let end_is : s.end ≡ length items + length new = to ∙ ap length grown ∙ length-append items new in
    ap (λ (xs : List A). map (within xs) spans') grown
    ∙ ap (map (within (items ++ new))) more
    ∙ added items new spans s are from end_is
    ∙ ap (λ (xs : List (List A)). xs ++ new ∷ []) (sym is)
