use Rattle.std.proofs.Common.{List, length, subst}
use Rattle.std.specs.Prelude.{◌≤◌}
use Rattle.venue_types.specs.declared.link.Node.{Node}
use Rattle.route_answers.specs.Nodes.{nodes}
use Rattle.venue_commands.proofs.route_command.answered.Goals as goal

pub write_answer-requires : goal.write_answer-requires
write_answer-requires c =
    let features = c.args.venue.now.features in
    let right = c.in_ok-answer.ensures.answer features c.args.venue.now.settings c.graph-graph.ensures in
    let few = subst (λ (ns : List Node). length ns ≤ 400000) c.graph-graph.ensures.nodes_are c.range_law.ensures.nodes in
    c.answer_law.ensures.more_nodes (length (nodes features c.args.venue.now.settings)) 400000 c.in_ok-answer.answer few right.fits
