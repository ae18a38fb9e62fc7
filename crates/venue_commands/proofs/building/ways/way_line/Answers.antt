use Rattle.std.proofs.Common.{string_bytes}
use Rattle.venue_commands.proofs.Costing.{line_of_cost}
use Rattle.venue_commands.proofs.building.ways.way_line.Goals as goal

pub returns-clause-line : goal.returns-clause-line
returns-clause-line c v stands =
    line_of_cost v c.args.name.now c.args.start c.args.finish c.in_ok-cost.cost (string_bytes c.in_ok-text.text) (c.in_ok-cost.ensures.cost v stands) c.in_ok-text.ensures
