use Rattle.std.proofs.Common.{◌<◌, length, sym, subst₂, arith, rules}
use Rattle.std.specs.Prelude.{List, ℕ}
use Rattle.venue_nodes.specs.Rows.{row_list}
use Rattle.link_graph.specs.declared.areas.Area.{Area}
use Rattle.link_graph.specs.declared.graph.Graph.{Graph}
use Rattle.link_graph.specs.Areas.{IsArea, areas}
use Rattle.link_graph.specs.Graphs.{network}
use Rattle.link_graph.proofs.AreaLinks.{areas_count, area_read, unit_read, is_area}
use Rattle.link_graph.proofs.AskingRanges.{crossing_there}
use Rattle.link_graph.proofs.graph.Graph.area.Goals as goal

unit_within : (graph : Graph) (w : ℕ) → w < length (areas graph) → w < length graph.core.crossings.items
unfolding areas
unit_within graph w h =
    let count = areas_count graph.core graph.core.crossings.items (row_list graph.core.rows) graph.sound.paired in
    let paired = graph.sound.paired in
    omega (arith, h, count, paired)

row_within : (graph : Graph) (w : ℕ) → w < length (areas graph) → w < length (row_list graph.core.rows)
unfolding areas
row_within graph w h =
    let count = areas_count graph.core graph.core.crossings.items (row_list graph.core.rows) graph.sound.paired in
    omega (arith, h, count)

pub index-crossing-requires : goal.index-crossing-requires
index-crossing-requires c = let within = unit_within c.args.self.now c.args.w c.requires in search rules

pub unit-requires-clause-within : goal.unit-requires-clause-within
unit-requires-clause-within c =
    let graph = c.args.self.now in
    (crossing_there graph.core c.args.w c.index-crossing.result.now graph.sound (unit_read graph.core.crossings.items c.args.w c.index-crossing.result.now (unit_within graph c.args.w c.requires) c.index-crossing.ensures)).within

pub row-requires : goal.row-requires
row-requires c = row_within c.args.self.now c.args.w c.requires

pub returns-clause-there : goal.returns-clause-there
unfolding areas
returns-clause-there c =
    let graph = c.args.self.now in
    area_read graph.core graph.core.crossings.items (row_list graph.core.rows) c.args.w c.index-crossing.result.now c.row.result.now c.unit.result c.walked.result.now
    (unit_within graph c.args.w c.requires) c.index-crossing.ensures c.row.ensures c.unit.ensures c.walked.ensures

pub returns-clause-area : goal.returns-clause-area
returns-clause-area c =
    let graph = c.args.self.now in
    subst₂ (λ (area : Area) (members : List ℕ). IsArea (network graph) area members c.index-crossing.result.now.sights) (sym c.unit.ensures) (sym c.walked.ensures)
    (is_area graph c.index-crossing.result.now c.row.result.now c.args.w (unit_read graph.core.crossings.items c.args.w c.index-crossing.result.now (unit_within graph c.args.w c.requires) c.index-crossing.ensures) c.row.ensures)
