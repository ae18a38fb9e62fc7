-- Points of a line that have a property, edges of a ring that cross, and holes that leave their border.
use Rattle.std.proofs.Common.{Bool, IsTrue, ◌≡◌, ℕ, ◌+◌, ◌<◌, inl, inr, List, ◌∷◌, ◌++◌, length, get_or, drop, Any, ◌↔◌, refl, sym, subst}
use Rattle.std.specs.Prelude.{Contains}
use Rattle.std.proofs.lemmas.List.Elements.{Contains-append_left, Contains-append_right, All-contains_itself}
use Rattle.std.proofs.lemmas.Option.{same_Some}
use Rattle.venue_types.proofs.Items.{Contains-cons_cases}
use Rattle.venue_types.specs.declared.point.Point.{Point}
use Rattle.plane_exact.specs.Figure.{edges, AllClose, HaveCrossing}
use Rattle.plane_exact.proofs.ListLemmas.{drop_at, any_here, any_past}
use Rattle.venue_types.specs.declared.point.Ring.{Ring}
use Rattle.ring_rules.specs.Rings.{as_hole, CrossesItself, LeavesBorder}
use Rattle.ring_rules.specs.Judged.{IsOutside}

-- ---- one of the points has a property

pub item_here : {X : Type 0} (P : X → Type 0) (xs : List X) (i : ℕ) (d : X) → i < length xs → P (get_or xs i d) → Any P (drop i xs)
item_here P xs i d within h = rw (drop_at xs i (get_or xs i d) d within refl) (any_here P (get_or xs i d) _ h)

pub item_past : {X : Type 0} (P : X → Type 0) (xs : List X) (i : ℕ) (d : X) → i < length xs → ¬ P (get_or xs i d) → Any P (drop (i + 1) xs) ↔ Any P (drop i xs)
item_past P xs i d within none = rw (drop_at xs i (get_or xs i d) d within refl) (any_past P (get_or xs i d) _ none)

-- ---- some of the points

pub contains_at : {X : Type 0} (xs : List X) (i : ℕ) (d : X) → i < length xs → Contains xs (get_or xs i d)
contains_at xs i d within = All-contains_itself xs i d within

pub fewer_close : (xs ys : List Point) → ((p : Point) → Contains xs p → Contains ys p) → AllClose ys → AllClose xs
fewer_close xs ys within h = record { close = λ a b p q. h.close a b (within a p) (within b q) }

-- ---- crossings

-- the same words of a ring as of its edges
pub crosses_by : (ring : Ring) (crosses : Bool) → IsTrue crosses ↔ HaveCrossing (edges ring.points) → IsTrue crosses ↔ CrossesItself ring
crosses_by ring crosses decides = (
  λ t. let h = decides.0 t in record { one = h.one; other = h.other; has_one = h.has_one; has_other = h.has_other; cross = h.cross },
  λ h. decides.1 (record { one = h.one; other = h.other; has_one = h.has_one; has_other = h.has_other; cross = h.cross }),
)

-- ---- one position of some, and others

pub one_and_others : (xs ys : List Point) (p : Point) → Contains xs p → AllClose (xs ++ ys) → AllClose (p ∷ ys)
one_and_others xs ys p has h = fewer_close (p ∷ ys) (xs ++ ys)
    (λ q w. elim (Contains-cons_cases p ys q w) [
      | inl e ↦ subst (λ (r : Point). Contains (xs ++ ys) r) e (Contains-append_left xs ys p has)
      | inr v ↦ Contains-append_right xs ys q v
    ])
    h

some_vertex : (hole border other : Ring) → border ≡ other → (p : Point) → Contains hole.points p → IsOutside other p → Any (IsOutside border) hole.points
some_vertex hole border other e p at h = (at.0, p, at.1, at.2, subst (λ (ring : Ring). IsOutside ring p) (sym e) h)

-- a hole leaves its border where one of its vertices is outside
pub leaves_by : (hole border : Ring) (test : Bool) → IsTrue test ↔ Any (IsOutside border) hole.points → IsTrue test ↔ LeavesBorder (as_hole border hole)
leaves_by hole border test decides = (
  λ t. let h = decides.0 t in record { border = border; hole = refl; vertex = h.1; has = (h.0, h.2, h.3); not_inside = h.4.0; not_on = h.4.1 },
  λ h. decides.1 (some_vertex hole border h.border (same_Some border h.border h.hole) h.vertex h.has (h.not_inside, h.not_on)),
)
