use Rattle.std.proofs.Common.{refl}
use Rattle.contain_rules.specs.Judging.{UnitHolds}
use Rattle.contain_rules.proofs.Lists.{found_before, found_here}
use Rattle.contain_rules.proofs.rows.one_holds.Goals as goal
use Rattle.contain_rules.proofs.rows.one_holds.Goals.{then-held, else-held}

pub loop-id-preserved : goal.loop-id-preserved
loop-id-preserved c = elim c.if-held.branch [
  | then-held w ↦ found_before (λ id. UnitHolds c.args.features.now c.args.tolerance c.args.amenity.now.point id) c.args.ids.now c.loop-id.id-index c.loop-id.held c.if-held.held
      w.if-held.true w.held-is c.loop-id.invariant
  | else-held w ↦ found_here (λ id. UnitHolds c.args.features.now c.args.tolerance c.args.amenity.now.point id) c.args.ids.now c.loop-id.id-index _ _ c.loop-id.held c.if-held.held
      w.unit_holds-held.result w.if-held.false w.held-is c.loop-id-test.true refl w.unit_holds-held.ensures c.loop-id.invariant
]
