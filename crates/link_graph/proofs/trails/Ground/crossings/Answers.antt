use Rattle.std.proofs.Common.{◌≡◌, length, arith}
use Rattle.venue_nodes.specs.Rows.{row_list}
use Rattle.link_graph.specs.Making.{crossings_from}
use Rattle.link_graph.proofs.MadeUnits.{all_taken, rows_paired, taken_next}
use Rattle.link_graph.proofs.trails.Ground.crossings.Goals as goal

pub loop-w-preserved : goal.loop-w-preserved
loop-w-preserved c =
    let features = c.args.self.now.features.now in
    taken_next (crossings_from features c.args.self.now.settings.now c.args.first features.units) c.loop-w.crossings.items c.push.new.self.items c.loop-w.w c.in_ok-crossing.crossing
    c.loop-w.invariant c.in_ok-crossing.ensures c.in_ok-push.ensures.items

pub returns : goal.returns
returns c =
    let features = c.args.self.now.features.now in
    let settings = c.args.self.now.settings.now in
    let count : c.loop-w.w ≡ length (row_list c.args.rows.now) = omega arith in
    all_taken (crossings_from features settings c.args.first features.units) c.loop-w.crossings.items c.loop-w.w (length (row_list c.args.rows.now)) c.loop-w.invariant count
    (rows_paired features settings c.args.rows.now c.args.first c.requires.rows)
