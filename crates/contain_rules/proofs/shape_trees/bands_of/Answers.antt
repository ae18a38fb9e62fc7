use Rattle.plane_exact.proofs.NearbyLemmas.{all_nearby}
use Rattle.contain_rules.proofs.Bands.{row_close, banded_more}
use Rattle.contain_rules.proofs.shape_trees.bands_of.Goals as goal

pub of-requires : goal.of-requires
of-requires g c = all_nearby _ (row_close g.R.HasShape.shape_of c.args.rows.now c.loop-row.row-index c.row-item.result c.shape.result.now c.loop-row-test.true c.row-item.is c.shape.ensures c.requires)

pub loop-row-preserved : goal.loop-row-preserved
loop-row-preserved g c =
    banded_more g.R.HasShape.shape_of c.args.rows.now c.loop-row.row-index c.row-item.result c.loop-row.list.items c.push.new.self.items c.shape.result.now c.in_ok-of.field-0
    c.loop-row-test.true c.row-item.is c.shape.ensures c.in_ok-of.ensures c.in_ok-push.ensures.items c.loop-row.invariant
