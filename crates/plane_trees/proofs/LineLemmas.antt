-- Where the ends of a line's edges lie, from where its points lie.
use Rattle.std.proofs.Common.{◌≡◌, ℕ, zero, suc, ◌<◌, List, [], ◌∷◌, All, Any, Contains, length, ◌⊎◌, inl, inr, refl, sym, subst, arith}
use Rattle.std.proofs.lemmas.List.Elements.{All-head, All-tail}
use Rattle.venue_types.specs.declared.point.Point.{Point}
use Rattle.plane_exact.specs.Figure.{Edge, edges_from}
use Rattle.plane_exact.proofs.ListLemmas.{any_of_cons}

-- some edge has a property, so what follows from it and from where its ends lie
pub edge_among : (P : Point → Type 0) (Q : Point → Point → Type 0) (C : Type 0) → ((x y : Point) → P x → P y → Q x y → C) → (a : Point) (rest : List Point) → All P (a ∷ rest) → Any (λ (edge : Edge). Q edge.from edge.to) (edges_from a rest) → C
edge_among P Q C step a [] all (k, y, within, at, h) = absurd (omega (arith, within))
edge_among P Q C step a (b ∷ rest) all some =
    let tail = All-tail P a (b ∷ rest) all in
    elim (any_of_cons (λ (edge : Edge). Q edge.from edge.to) (record { from = a; to = b }) (edges_from b rest) some) [
      | inl here ↦ step a b (All-head P a (b ∷ rest) all) (All-head P b rest tail) here
      | inr later ↦ edge_among P Q C step b rest tail later
    ]

pub ends_of_edge : (P : Point → Type 0) (a : Point) (rest : List Point) (edge : Edge) → All P (a ∷ rest) → Contains (edges_from a rest) edge → P edge.from × P edge.to
ends_of_edge P a [] edge all (k, within, at) = absurd (omega (arith, within))
ends_of_edge P a (b ∷ rest) edge all (zero, within, at) =
    let tail = All-tail P a (b ∷ rest) all in
    subst (λ (e : Edge). P e.from × P e.to) at (All-head P a (b ∷ rest) all, All-head P b rest tail)
ends_of_edge P a (b ∷ rest) edge all (suc k, within, at) = ends_of_edge P b rest edge (All-tail P a (b ∷ rest) all) (k, omega arith, at)
