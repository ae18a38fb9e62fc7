-- Steps of the loops of `near`: what lies behind is not near, so what lies ahead decides.
use Rattle.std.proofs.Common.{◌≡◌, ℕ, ◌+◌, ◌<◌, List, length, drop, get_or, ◌↔◌, flat_map, refl}
use Rattle.venue_types.specs.declared.point.Point.{Point}
use Rattle.plane_exact.specs.Segment.{IsNearEdge}
use Rattle.plane_exact.specs.Figure.{Edge, edges_from, IsNearSome}
use Rattle.plane_exact.proofs.ListLemmas.{drop_at, any_here, any_past, any_left, any_past_all}

pub chain_here : (p a : Point) (t : ℕ) (rest : List Point) (i : ℕ) (d : Point) → i < length rest → IsNearEdge p a (get_or rest i d) t → IsNearSome p t (edges_from a (drop i rest))
chain_here p a t rest i d within h = rw (drop_at rest i (get_or rest i d) d within refl) (any_here (λ (edge : Edge). IsNearEdge p edge.from edge.to t) (record { from = a; to = get_or rest i d }) _ h)

pub chain_past : (p a : Point) (t : ℕ) (rest : List Point) (i : ℕ) (d : Point) → i < length rest → ¬ IsNearEdge p a (get_or rest i d) t → IsNearSome p t (edges_from (get_or rest i d) (drop (i + 1) rest)) ↔ IsNearSome p t (edges_from a (drop i rest))
chain_past p a t rest i d within none = rw (drop_at rest i (get_or rest i d) d within refl) (any_past (λ (edge : Edge). IsNearEdge p edge.from edge.to t) (record { from = a; to = get_or rest i d }) _ none)

-- the same of items that have some edges each
pub items_here : {X : Type 0} (f : X → List Edge) (p : Point) (t : ℕ) (xs : List X) (i : ℕ) (x d : X) → i < length xs → get_or xs i d ≡ x → IsNearSome p t (f x) → IsNearSome p t (flat_map f (drop i xs))
items_here f p t xs i x d within at h = rw (drop_at xs i x d within at) (any_left (λ (edge : Edge). IsNearEdge p edge.from edge.to t) (f x) (flat_map f (drop (i + 1) xs)) h)

pub items_past : {X : Type 0} (f : X → List Edge) (p : Point) (t : ℕ) (xs : List X) (i : ℕ) (x d : X) → i < length xs → get_or xs i d ≡ x → ¬ IsNearSome p t (f x) → IsNearSome p t (flat_map f (drop (i + 1) xs)) ↔ IsNearSome p t (flat_map f (drop i xs))
items_past f p t xs i x d within at none = rw (drop_at xs i x d within at) (any_past_all (λ (edge : Edge). IsNearEdge p edge.from edge.to t) (f x) (flat_map f (drop (i + 1) xs)) none)
