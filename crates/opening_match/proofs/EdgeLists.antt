-- Edges are added line by line, ring by ring and polygon by polygon.
use Rattle.std.proofs.Common.{◌≡◌, ℕ, zero, suc, ◌+◌, ◌<◌, ◌≤◌, List, [], ◌∷◌, ◌++◌, length, get_or, drop, refl, sym, ap, subst, ◌∙◌, arith, inl, inr, flat_map}
use Rattle.std.specs.Prelude.{Contains}
use Rattle.std.proofs.lemmas.List.{drop_more, drop_all}
use Rattle.std.proofs.lemmas.List.Elements.{Contains-append_left, Contains-append_right, Contains-append_cases}
use Rattle.venue_types.proofs.Items.{Contains-nil}
use Rattle.venue_types.specs.declared.point.Point.{Point}
use Rattle.plane_exact.specs.Figure as figure
use Rattle.opening_match.specs.declared.edges.Edge.{Edge}
use Rattle.opening_match.specs.Edges.{AddsEdges, kept_edge}

-- ---- joined

pub adds_none : (points : List Point) (a : List Edge) → AddsEdges [] points a a
adds_none points a = record { stay = λ e h. h; has = λ e h. absurd (Contains-nil e h); only = λ e h. inl h }

pub adds_then : (list more : List figure.Edge) (points others : List Point) (a b c : List Edge) → AddsEdges list points a b → AddsEdges more others b c → AddsEdges (list ++ more) (points ++ others) a c
adds_then list more points others a b c one two = record {
  stay = λ e h. two.stay e (one.stay e h);
  has = λ e h. elim (Contains-append_cases list more e h) [ inl first ↦ two.stay (kept_edge e) (one.has e first) | inr second ↦ two.has e second ];
  only = λ e h. elim (two.only e h) [
    | inl before ↦ elim (one.only e before) [
      | inl old ↦ inl old
      | inr here ↦ inr (Contains-append_left points others e.from here.0, Contains-append_left points others e.to here.1)
    ]
    | inr here ↦ inr (Contains-append_right points others e.from here.0, Contains-append_right points others e.to here.1)
  ];
}

-- ---- what is left to add

-- once these are added as well, those are added to the list of the start
abbrev pub Leads : (old : List Edge) (list : List figure.Edge) (points : List Point) (now : List Edge) (left : List figure.Edge) (others : List Point) → Type 0
Leads old list points now left others = (new : List Edge) → AddsEdges left others now new → AddsEdges list points old new

pub leads_item : {X : Type 0} (f : X → List figure.Edge) (g : X → List Point) (xs : List X) (i : ℕ) (x : X) (old : List Edge) (list : List figure.Edge) (points : List Point) (a b : List Edge) → i < length xs → x ≡ get_or xs i x → Leads old list points a (flat_map f (drop i xs)) (flat_map g (drop i xs)) → AddsEdges (f x) (g x) a b → Leads old list points b (flat_map f (drop (i + 1) xs)) (flat_map g (drop (i + 1) xs))
leads_item {X} f g xs i x old list points a b within is leads here = λ new rest.
    leads new (subst (λ (ys : List X). AddsEdges (flat_map f ys) (flat_map g ys) a new) (sym (drop_more xs i x within ∙ ap (λ (y : X). y ∷ drop (i + 1) xs) (sym is))) (adds_then (f x) (flat_map f (drop (i + 1) xs)) (g x) (flat_map g (drop (i + 1) xs)) a b new here rest))

pub leads_all : {X : Type 0} (f : X → List figure.Edge) (g : X → List Point) (xs : List X) (i : ℕ) (old : List Edge) (list : List figure.Edge) (points : List Point) (a : List Edge) → length xs ≤ i → Leads old list points a (flat_map f (drop i xs)) (flat_map g (drop i xs)) → AddsEdges list points old a
leads_all {X} f g xs i old list points a past leads =
    leads a (subst (λ (ys : List X). AddsEdges (flat_map f ys) (flat_map g ys) a a) (sym (drop_all i xs past)) (adds_none [] a))

-- ---- a line

-- an edge at the end of the list
one_edge : (from to : Point) (a : List Edge) → AddsEdges (record { from = from; to = to } ∷ []) (from ∷ to ∷ []) a (a ++ record { from = from; to = to } ∷ [])
one_edge from to a =
    let kept : Edge = record { from = from; to = to } in
    record {
      stay = λ e h. Contains-append_left a (kept ∷ []) e h;
      has = λ e h. subst (λ (z : figure.Edge). Contains (a ++ kept ∷ []) (kept_edge z)) (only_one (record { from = from; to = to }) e h) (Contains-append_right a (kept ∷ []) kept (0, omega arith, refl));
      only = λ e h. elim (Contains-append_cases a (kept ∷ []) e h) [
        | inl old ↦ inl old
        | inr here ↦ inr (
          subst (λ (z : Edge). Contains (from ∷ to ∷ []) z.from) (only_one kept e here) (0, omega arith, refl),
          subst (λ (z : Edge). Contains (from ∷ to ∷ []) z.to) (only_one kept e here) (1, omega arith, refl),
        )
      ];
    } where
      only_one : {X : Type 0} (x y : X) → Contains (x ∷ []) y → x ≡ y
      only_one x y (zero, within, at) = at
      only_one x y (suc k, within, at) = absurd (omega (arith, within))

-- the same edges between more points
adds_between : (list : List figure.Edge) (points others : List Point) (a b : List Edge) → AddsEdges list points a b → ((q : Point) → Contains points q → Contains others q) → AddsEdges list others a b
adds_between list points others a b adds more = record {
  stay = adds.stay;
  has = adds.has;
  only = λ e h. elim (adds.only e h) [ inl old ↦ inl old | inr here ↦ inr (more e.from here.0, more e.to here.1) ];
}

-- the second point stands there once more
once_more : (from to : Point) (rest : List Point) (q : Point) → Contains (from ∷ to ∷ to ∷ rest) q → Contains (from ∷ to ∷ rest) q
once_more from to rest q (zero, within, at) = (zero, omega arith, at)
once_more from to rest q (suc zero, within, at) = (suc zero, omega arith, at)
once_more from to rest q (suc (suc k), within, at) = (suc k, omega (arith, within), at)

pub leads_edge : (start from : Point) (rest : List Point) (i : ℕ) (d : Point) (old a : List Edge) → i < length rest
    → Leads old (figure.edges_from start rest) (start ∷ rest) a (figure.edges_from from (drop i rest)) (from ∷ drop i rest)
    → Leads old (figure.edges_from start rest) (start ∷ rest) (a ++ record { from = from; to = get_or rest i d } ∷ []) (figure.edges_from (get_or rest i d) (drop (i + 1) rest)) (get_or rest i d ∷ drop (i + 1) rest)
leads_edge start from rest i d old a within leads = λ new later.
    let to = get_or rest i d in
    let left = drop (i + 1) rest in
    let edge : figure.Edge = record { from = from; to = to } in
    let both = adds_then (edge ∷ []) (figure.edges_from to left) (from ∷ to ∷ []) (to ∷ left) a (a ++ record { from = from; to = to } ∷ []) new (one_edge from to a) later in
    leads new (subst (λ (ys : List Point). AddsEdges (figure.edges_from from ys) (from ∷ ys) a new) (sym (drop_more rest i d within)) (adds_between (edge ∷ figure.edges_from to left) (from ∷ to ∷ to ∷ left) (from ∷ to ∷ left) a new both (once_more from to left)))

pub leads_line : (start from : Point) (rest : List Point) (i : ℕ) (old a : List Edge) → length rest ≤ i
    → Leads old (figure.edges_from start rest) (start ∷ rest) a (figure.edges_from from (drop i rest)) (from ∷ drop i rest)
    → AddsEdges (figure.edges_from start rest) (start ∷ rest) old a
leads_line start from rest i old a past leads =
    leads a (subst (λ (ys : List Point). AddsEdges (figure.edges_from from ys) (from ∷ ys) a a) (sym (drop_all i rest past)) (adds_none (from ∷ []) a))
