-- What the test of touching means.
use Rattle.std.proofs.Common.{◌≡◌, ℕ, ◌*◌, pos, ◌*ℤ◌, ◌↔◌, Bool, true, false, cond, List, All, Any, IsTrue, refl}
use Rattle.std.specs.List.{list_any, list_all}
use Rattle.std.proofs.lemmas.Bool.{and_parts, and_from}
use Rattle.std.proofs.lemmas.Int.{by_lt_z}
use Rattle.std.proofs.lemmas.List.Folds.{Any-from_list_any, list_any-from_Any}
use Rattle.std.proofs.lemmas.List.Sums.{AllPass-from_list_all, list_all-from_AllPass}
use Rattle.std.proofs.lemmas.List.Elements.{All-weaker}
use lib.Signed.{le_z}
use Rattle.venue_types.specs.declared.features.OpeningRow.{OpeningRow}
use Rattle.venue_types.specs.declared.features.UnitRow.{UnitRow}
use Rattle.venue_types.specs.declared.point.Point.{Point}
use Rattle.venue_types.specs.declared.point.Shape.{Shape}
use Rattle.plane_exact.specs.Plane.{side, along, squared_distance, square}
use Rattle.plane_exact.specs.Segment.{IsNearEdge}
use Rattle.plane_exact.specs.Figure.{Edge, IsNear, all_edges}
use Rattle.plane_exact.specs.Opening.{Touches}
use Rattle.plane_exact.proofs.SegmentLemmas.{le_decides, near_before, near_beyond, near_beside, iff_along}
use Rattle.plane_exact.proofs.RayLemmas.{le_true, le_false}
use Rattle.venue_nodes.specs.Identity.{is_same}
use Rattle.venue_nodes.specs.Touching.{is_near_edge, is_near, does_touch}
use Rattle.venue_nodes.proofs.Identifiers.{same_id, id_same}

-- the test, by the two that choose
before_test : (a b : Bool) (x y z : Bool) → a ≡ true → cond a x (cond b y z) ≡ x
before_test a b x y z e = rw e refl

beyond_test : (a b : Bool) (x y z : Bool) → a ≡ false → b ≡ true → cond a x (cond b y z) ≡ y
beyond_test a b x y z e f = rw (e, f) refl

beside_test : (a b : Bool) (x y z : Bool) → a ≡ false → b ≡ false → cond a x (cond b y z) ≡ z
beside_test a b x y z e f = rw (e, f) refl

decides_as : (a b : Bool) (P : Type 0) → a ≡ b → IsTrue b ↔ P → IsTrue a ↔ P
decides_as a b P e h = rw e h

edge_decides : (p a b : Point) (t : ℕ) → IsTrue (is_near_edge p a b t) ↔ IsNearEdge p a b t
unfolding is_near_edge
edge_decides p a b t =
    let back = le_z (along a b p) (pos 0) in
    let past = le_z (squared_distance a b) (along a b p) in
    let x = le_z (squared_distance a p) (pos (t * t)) in
    let y = le_z (squared_distance b p) (pos (t * t)) in
    let z = le_z (square (side a b p)) (pos (t * t) *ℤ squared_distance a b) in
    by_lt_z (pos 0) (along a b p)
    (λ onward. by_lt_z (along a b p) (squared_distance a b)
    (λ within. decides_as _ z _ (beside_test back past x y z (le_false _ _ onward) (le_false _ _ within)) (iff_along (le_decides _ _) (near_beside p a b t onward within)))
    (λ beyond. decides_as _ y _ (beyond_test back past x y z (le_false _ _ onward) (le_true _ _ beyond)) (iff_along (le_decides _ _) (near_beyond p a b t onward beyond))))
    (λ behind. decides_as _ x _ (before_test back past x y z (le_true _ _ behind)) (iff_along (le_decides _ _) (near_before p a b t behind)))

-- ---- tests of lists

any_decides : {X : Type 0} (test : X → Bool) (P : X → Type 0) (xs : List X) → ((x : X) → IsTrue (test x) ↔ P x) → IsTrue (list_any test xs) ↔ Any P xs
any_decides test P xs decides = (
  (λ h. let some = Any-from_list_any test xs h in (some.0, some.1, some.2, some.3, (decides some.1).0 some.4)),
  (λ some. list_any-from_Any test xs (some.0, some.1, some.2, some.3, (decides some.1).1 some.4)),
)

all_decides : {X : Type 0} (test : X → Bool) (P : X → Type 0) (xs : List X) → ((x : X) → IsTrue (test x) ↔ P x) → IsTrue (list_all test xs) ↔ All P xs
all_decides test P xs decides = (
  (λ h. All-weaker (λ x. test x ≡ true) P (λ x. (decides x).0) xs (AllPass-from_list_all test xs h)),
  (λ all. list_all-from_AllPass test xs (All-weaker P (λ x. test x ≡ true) (λ x. (decides x).1) xs all)),
)

near_decides : (t : ℕ) (shape : Shape) (p : Point) → IsTrue (is_near t shape p) ↔ IsNear p shape t
unfolding is_near IsNear
near_decides t shape p = any_decides (λ (e : Edge). is_near_edge p e.from e.to t) (λ (e : Edge). IsNearEdge p e.from e.to t) (all_edges shape) (λ e. edge_decides p e.from e.to t)

pub touch_decides : (border_tol : ℕ) (o : OpeningRow) (u : UnitRow) → IsTrue (does_touch border_tol o u) ↔ Touches border_tol o u
unfolding does_touch
touch_decides t o u =
    let near = all_decides (is_near t u.shape) (λ p. IsNear p u.shape t) o.line.points (near_decides t u.shape) in (
      (λ h. let both = and_parts (is_same o.level u.level) _ h in record { level = same_id _ _ both.0; near = near.0 both.1 }),
      (λ touch. and_from (is_same o.level u.level) _ (id_same _ _ touch.level) (near.1 touch.near)),
    )
