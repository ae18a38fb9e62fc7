-- That two positions are close can be told, so it holds where it can't fail.
use Rattle.std.proofs.Common.{ℕ, ℤ, pos, ◌+ℤ◌, arith}
use Rattle.std.proofs.lemmas.Int.{ints}
use Rattle.venue_types.specs.declared.features.Features.{Features}
use Rattle.venue_types.specs.declared.point.Point.{Point}
use Rattle.plane_exact.specs.Plane.{IsWithin, IsClose}
use Rattle.plane_exact.specs.Figure.{AllClose}
use Rattle.feature_rows.specs.Figures.{judged_positions}
use Rattle.ring_rules.specs.Rules.{IsSpread}
use Rattle.ring_rules.proofs.BoundsLemmas.{not_above}

told_within : (n : ℕ) (a b : ℤ) → ¬ (¬ IsWithin n a b) → IsWithin n a b
told_within n a b told = record {
  above = not_above (b +ℤ pos n) a (λ over. told (λ w. omega (arith, ints, over, w.above)));
  below = not_above (a +ℤ pos n) b (λ over. told (λ w. omega (arith, ints, over, w.below)));
}

told_close : (p q : Point) → ¬ (¬ IsClose p q) → IsClose p q
told_close p q told = record {
  x = told_within 200000000 p.x q.x (λ far. told (λ close. far close.x));
  y = told_within 200000000 p.y q.y (λ far. told (λ close. far close.y));
}

pub no_spread : (features : Features) → ¬ IsSpread features → AllClose (judged_positions features)
no_spread features none = record {
  close = λ p q has_p has_q. told_close p q (λ far. none (record { one = p; other = q; has_one = has_p; has_other = has_q; apart = far }));
}
