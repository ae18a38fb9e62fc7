use Rattle.std.proofs.Common.{arith}
use Rattle.link_graph.specs.Graphs.{network}
use Rattle.route_search.specs.Scans.{CanPass, node_count}
use Rattle.route_search.proofs.Walked.{walked_stretch, walked_more, walked_steps}
use Rattle.route_search.proofs.node_scan.scan_stretches.Goals as goal

pub scan_stretch-requires-clause-stretch : goal.scan_stretch-requires-clause-stretch
scan_stretch-requires-clause-stretch g c =
    walked_stretch (network c.args.ways.now.graph.now) (CanPass c.args.ways.now) (node_count c.args.ways.now.graph.now) c.args.node c.loop-k.k c.args.steps.now c.loop-k.steps c.args.state.now c.loop-k.state
    c.stretch-stretch.result c.loop-k.invariant c.stretch-stretch.ensures c.requires.node

pub returns-in_err-scan_stretch-clause-steps : goal.returns-in_err-scan_stretch-clause-steps
returns-in_err-scan_stretch-clause-steps g c =
    omega (
      arith,
      walked_steps (network c.args.ways.now.graph.now) (CanPass c.args.ways.now) (node_count c.args.ways.now.graph.now) c.args.node c.loop-k.k c.args.steps.now c.loop-k.steps c.args.state.now c.loop-k.state
          c.stretch-stretch.result c.loop-k.invariant c.stretch-stretch.ensures,
      c.scan_stretch.ensures.steps,
    )

pub loop-k-preserved : goal.loop-k-preserved
loop-k-preserved g c =
    walked_more (network c.args.ways.now.graph.now) (CanPass c.args.ways.now) (node_count c.args.ways.now.graph.now) c.args.node c.loop-k.k c.args.steps.now c.loop-k.steps c.args.state.now c.loop-k.state
    c.stretch-stretch.result c.loop-k.invariant c.stretch-stretch.ensures c.scan_stretch.new.steps c.scan_stretch.new.state c.in_ok-scan_stretch.ensures.scanned c.scan_stretch.ensures.steps
