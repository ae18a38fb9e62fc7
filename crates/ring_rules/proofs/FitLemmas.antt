-- What holds of rings, of some of them, and of the rings of a folder.
use Rattle.std.proofs.Common.{List, [], ◌∷◌, ◌++◌, flat_map, inl, inr, subst}
use Rattle.std.specs.Prelude.{Contains}
use Rattle.std.proofs.lemmas.List.Elements.{Contains-append_cases}
use Rattle.venue_types.proofs.Items.{Contains-only, Contains-first, Contains-later, Contains-cons_cases, Contains-flat_map}
use Rattle.venue_types.specs.declared.point.Point.{Point}
use Rattle.venue_types.specs.declared.point.Ring.{Ring}
use Rattle.venue_types.specs.declared.point.Part.{Part}
use Rattle.plane_exact.specs.Figure.{AllClose, ring_points, rings_of}
use Rattle.ring_rules.specs.Judged.{AreFit}
use Rattle.ring_rules.proofs.EdgeLemmas.{fewer_close}

points_in : (list : List Ring) (ring : Ring) → Contains list ring → (p : Point) → Contains ring.points p → Contains (ring_points list) p
points_in list ring has p h = (Contains-flat_map (λ (r : Ring). r.points) list p).1 (ring, has, h)

points_of : (list : List Ring) (p : Point) → Contains (ring_points list) p → (ring : Ring) × Contains list ring × Contains ring.points p
points_of list p h = (Contains-flat_map (λ (r : Ring). r.points) list p).0 h

-- ---- one of them, and two

pub close_first : (ring : Ring) (rest : List Ring) → AreFit (ring ∷ rest) → AllClose ring.points
close_first ring rest fit = fewer_close ring.points (ring_points (ring ∷ rest)) (λ p h. points_in (ring ∷ rest) ring (Contains-first ring rest) p h) fit.close

pub close_two : (list : List Ring) (one other : Ring) → Contains list one → Contains list other → AreFit list → AllClose (one.points ++ other.points)
close_two list one other has_one has_other fit = fewer_close (one.points ++ other.points) (ring_points list)
    (λ p h. elim (Contains-append_cases one.points other.points p h) [ inl x ↦ points_in list one has_one p x | inr y ↦ points_in list other has_other p y ])
    fit.close

-- ---- fewer of them

pub fit_fewer : (some list : List Ring) → ((ring : Ring) → Contains some ring → Contains list ring) → AreFit list → AreFit some
fit_fewer some list within fit =
    let inside : (p : Point) → Contains (ring_points some) p → Contains (ring_points list) p =
    λ p h. let at = points_of some p h in points_in list at.0 (within at.0 at.1) p at.2 in
    record { close = fewer_close (ring_points some) (ring_points list) inside fit.close }

pub fit_first : (ring : Ring) (rest : List Ring) → AreFit (ring ∷ rest) → AreFit (ring ∷ [])
fit_first ring rest fit = fit_fewer (ring ∷ []) (ring ∷ rest) (λ r h. subst (λ (s : Ring). Contains (ring ∷ rest) s) (Contains-only ring r h) (Contains-first ring rest)) fit

pub fit_second : (ring other : Ring) → AreFit (ring ∷ other ∷ []) → AreFit (other ∷ [])
fit_second ring other fit = fit_fewer (other ∷ []) (ring ∷ other ∷ []) (λ r h. Contains-later ring (other ∷ []) r h) fit

pub fit_hole : (border : Ring) (holes : List Ring) (hole : Ring) → Contains holes hole → AreFit (border ∷ holes) → AreFit (border ∷ hole ∷ [])
fit_hole border holes hole has fit = fit_fewer (border ∷ hole ∷ []) (border ∷ holes)
    (λ r h. elim (Contains-cons_cases border (hole ∷ []) r h) [
      | inl e ↦ subst (λ (s : Ring). Contains (border ∷ holes) s) e (Contains-first border holes)
      | inr w ↦ subst (λ (s : Ring). Contains (border ∷ holes) s) (Contains-only hole r w) (Contains-later border holes hole has)
    ])
    fit

pub fit_part : (parts : List Part) (part : Part) → Contains parts part → AreFit (flat_map rings_of parts) → AreFit (rings_of part)
fit_part parts part has fit = fit_fewer (rings_of part) (flat_map rings_of parts) (λ r h. (Contains-flat_map rings_of parts r).1 (part, has, h)) fit
