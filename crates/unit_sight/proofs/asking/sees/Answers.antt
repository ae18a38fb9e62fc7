use Rattle.std.proofs.Common.{◌∷◌, sym, subst}
use Rattle.venue_types.specs.declared.point.Point.{Point}
use Rattle.plane_exact.specs.Figure.{AllNearby, vertices}
use Rattle.unit_sight.proofs.AskingLemmas.{with_middle, told_by_middle, told_by_walls}
use Rattle.unit_sight.proofs.asking.sees.Goals as goal

pub is_held-requires-clause-near : goal.is_held-requires-clause-near
is_held-requires-clause-near c = subst (λ (p : Point). AllNearby (p ∷ vertices c.args.bands.now)) (sym c.middle_between.ensures) (with_middle c.args.a c.args.b (vertices c.args.bands.now) c.requires.near)

pub returns-then-is_free-clause-told : goal.returns-then-is_free-clause-told
returns-then-is_free-clause-told c = λ shape is. told_by_middle c.args.a c.args.b c.args.bands.now shape c.args.t c.doubled.result c.doubled-2.result c.middle_between.result c.is_free.result c.is_held.result is c.doubled.ensures c.doubled-2.ensures c.middle_between.ensures c.if-is_free.true c.is_free.ensures.told c.is_held.ensures

pub returns-else-is_free-clause-told : goal.returns-else-is_free-clause-told
returns-else-is_free-clause-told c = λ shape is. told_by_walls c.args.a c.args.b c.args.bands.now shape c.args.t c.doubled.result c.doubled-2.result c.is_free.result is c.doubled.ensures c.doubled-2.ensures c.if-is_free.false c.is_free.ensures.told
