use Rattle.std.proofs.Common.{◌∙◌}
use Rattle.venue_nodes.specs.Views.{node_list}
use Rattle.link_graph.proofs.MadeCore.{nodes_close, rows_roomy, rows_fit, passages_within, few_passages}
use Rattle.link_graph.proofs.graph_core.made_of.Goals as goal

pub crossings-requires-clause-roomy : goal.crossings-requires-clause-roomy
crossings-requires-clause-roomy c = rows_roomy c.args.features.now c.args.settings.now c.args.rows c.requires.rows c.requires.roomy

pub passages-requires-clause-ground : goal.passages-requires-clause-ground
passages-requires-clause-ground c = record {
  nodes = c.requires.nodes;
  close = nodes_close c.args.features.now c.args.settings.now c.args.nodes (λ a b. c.spot_law.ensures c.args.features.now c.args.settings.now a b c.requires.sound c.requires.close) c.requires.nodes;
}

pub leaving_of-requires-clause-few : goal.leaving_of-requires-clause-few
leaving_of-requires-clause-few c =
    few_passages c.args.features.now c.args.settings.now c.deref.result.now c.requires.sound (c.deref.ensures.value ∙ c.in_ok-passages.ensures)

pub leaving_of-requires-clause-within : goal.leaving_of-requires-clause-within
leaving_of-requires-clause-within c =
    passages_within c.args.features.now c.args.settings.now (node_list c.args.nodes) c.len-3.result c.deref.result.now (c.deref.ensures.value ∙ c.in_ok-passages.ensures) c.requires.nodes.list c.len-3.ensures.number

pub seats_of-requires-clause-tables : goal.seats_of-requires-clause-tables
seats_of-requires-clause-tables c =
    rows_fit c.args.features.now c.args.settings.now _ c.args.rows c.deref-2.result.now c.requires.rows (c.deref-2.ensures.value ∙ c.in_ok-crossings.ensures)

pub seats_of-requires-clause-roomy : goal.seats_of-requires-clause-roomy
seats_of-requires-clause-roomy c = rows_roomy c.args.features.now c.args.settings.now c.args.rows c.requires.rows c.requires.roomy
