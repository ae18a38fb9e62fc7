use Rattle.std.proofs.Common.{◌∙◌}
use Rattle.link_graph.proofs.RoomTables.{straight_table}
use Rattle.link_graph.proofs.trails.Ground.sights.Goals as goal

pub returns-in-Straight : goal.returns-in-Straight
returns-in-Straight c =
    c.whole.ensures ∙ straight_table c.args.self.now.features.now c.args.self.now.settings.now c.args.unit.now c.args.row.now c.requires.row c.in-Straight.is
