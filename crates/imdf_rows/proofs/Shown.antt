-- Display points, from what is read of a Point.
use Rattle.std.proofs.Common.{◌≡◌, zero, suc, Bool, true, false, Option, Some, None, IfSome, IsSome, IsTrue, ◌↔◌, refl, sym, subst, arith}
use Rattle.exact_json.specs.Json.{Json}
use Rattle.venue_types.specs.declared.point.Point.{Point}
use Rattle.geo_shapes.specs.Position.{IsNoPosition, BreaksPositions}
use Rattle.geo_shapes.specs.Geometry.{HasPoint, coordinates, point_places}
use Rattle.imdf_rows.specs.Fields.{IsDisplay}

-- the one place of a position in a Point is none
no_position : (v : Json) → BreaksPositions (point_places v) → IsNoPosition (coordinates v)
no_position v (zero, x, below, is, none) = let P : Json → Type 0 = IsNoPosition in subst P (sym is) none
no_position v (suc k, x, below, is, none) = absurd (omega arith)

none_shown : (v : Json) (bad : Bool) → (((bad ≡ false) × (false ≡ false)) → ⊥) → (IsTrue bad → BreaksPositions (point_places v)) → (p : Point) → ¬ HasPoint v p
none_shown v true there breaks p has = no_position v (breaks refl) p has
none_shown v false there breaks p has = there (refl, refl)

no_some : IsSome {T = Point} None → ⊥
no_some e = cc

pub shown : (v : Json) (o : Option Point) (bad form : Bool) → form ≡ false → IfSome o (HasPoint v) → IsSome o ↔ ((bad ≡ false) × (form ≡ false)) → IsTrue bad ↔ BreaksPositions (point_places v) → IsDisplay v o
shown v (Some p) bad form good h there breaks = h
shown v None bad true good h there breaks = absurd (cc)
shown v None bad false good h there breaks = none_shown v bad (λ e. no_some (there.1 e)) breaks.0
