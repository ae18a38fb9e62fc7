use Rattle.std.proofs.Common.{◌<◌, length, get_or, set, true, refl, arith}
use Rattle.nearest_place.proofs.FlagLemmas.{flags_more, flags_all}
use Rattle.nearest_place.proofs.flags.flags_of.Goals as goal

pub returns : goal.returns
returns c = flags_all c.args.targets.now c.loop-node.node-index c.loop-node.flags.items c.loop-node-test.false c.loop-node.invariant.0

pub loop-node-preserved : goal.loop-node-preserved
loop-node-preserved c =
    let n = get_or c.args.targets.now c.loop-node.node-index 0 in
    let low : n < c.args.nodes = c.requires c.loop-node.node-index 0 c.loop-node-test.true in
    let inside : n < length c.loop-node.flags.items = omega (arith, low, c.loop-node.invariant.1, c.loop-node.flags.ok) in (
      flags_more c.args.targets.now c.loop-node.node-index 0 n c.loop-node.flags.items (set c.loop-node.flags.items n true) c.loop-node-test.true refl inside c.loop-node.invariant.0 refl,
      c.loop-node.invariant.1,
    )
