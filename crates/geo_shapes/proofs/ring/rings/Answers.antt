use Rattle.std.proofs.Common.{◌∷◌, []}
use Rattle.exact_json.specs.Json.{Json}
use Rattle.exact_json.specs.View.{tree_view}
use Rattle.geo_shapes.specs.Values.{listed}
use Rattle.geo_shapes.specs.Figure.{IsRing, BreaksRing}
use Rattle.geo_shapes.proofs.Gatherings.{gathers_step}
use Rattle.geo_shapes.proofs.ring.rings.Goals as goal

pub loop-tree-preserved : goal.loop-tree-preserved
loop-tree-preserved c =
    gathers_step IsRing BreaksRing listed (λ (value : Json). value ∷ []) tree_view c.args.trees.now c.loop-tree.tree-index c.tree-item.result c.loop-tree.rings c.add.new.self c.in_ok-read.read
    c.loop-tree-test.true c.tree-item.is c.loop-tree.invariant c.in_ok-read.ensures c.in_ok-add.ensures
