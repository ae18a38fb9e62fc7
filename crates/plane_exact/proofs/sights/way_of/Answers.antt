use Rattle.std.proofs.Common.{◌≡◌, ℕ, ◌*◌, ℤ, pos, to_z, of_z, w64, ap, ap₂, ◌∙◌, arith}
use Rattle.std.proofs.lemmas.Int.{ints}
use Rattle.venue_types.specs.declared.point.Point.{Point}
use Rattle.plane_exact.specs.declared.sights.Way.{Way}
use Rattle.plane_exact.specs.Plane.{IsWithin}
use Rattle.plane_exact.specs.Scaled.{times}
use Rattle.plane_exact.specs.Looks.{way_between}
use Rattle.plane_exact.proofs.sights.way_of.Goals as goal

abbrev way_with : ℕ → Point → Point → Point → Way
way_with t from to middle = record { from = from; to = to; middle = middle; tolerance = 4 * t }

same_way : {a b c d m n : Point} (t : ℕ) → a ≡ b → c ≡ d → m ≡ n → way_with t a c m ≡ way_with t b d n
same_way {b = b} {d = d} {m = m} t e f g = ap₂ (λ x y. way_with t x y m) e f ∙ ap (way_with t b d) g

-- a coordinate that is read back
read : (z : ℤ) → IsWithin 2000000000000000000 z (pos 0) → to_z w64 (of_z w64 z) ≡ z
read z h = omega (arith, ints)

abbrev doubled : ℤ → ℤ → Point
doubled x y = times 2 (record { x = x; y = y })

pub returns : goal.returns
unfolding way_between
returns c =
    same_way c.args.t
    (c.times.ensures ∙ ap₂ doubled (read c.args.a.x c.requires.start.x) (read c.args.a.y c.requires.start.y))
    (c.times-2.ensures ∙ ap₂ doubled (read c.args.b.x c.requires.end.x) (read c.args.b.y c.requires.end.y))
    c.middle_between.ensures
