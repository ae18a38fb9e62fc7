use Rattle.std.proofs.Common.{arith}
use Rattle.link_graph.specs.Cores.{network_in}
use Rattle.link_graph.specs.Graphs.{network}
use Rattle.link_graph.proofs.AskingRanges.{link_range}
use Rattle.link_graph.proofs.LeadingEnds.{links_few}
use Rattle.link_graph.proofs.graph.Graph.range_law.Goals as goal

pub returns-clause-from : goal.returns-clause-from
unfolding network network_in
returns-clause-from c = λ link h. (link_range c.args.self.now.core link c.args.self.now.sound h).from

pub returns-clause-to : goal.returns-clause-to
unfolding network network_in
returns-clause-to c = λ link h. (link_range c.args.self.now.core link c.args.self.now.sound h).to

pub returns-clause-via : goal.returns-clause-via
unfolding network network_in
returns-clause-via c = λ link h. (link_range c.args.self.now.core link c.args.self.now.sound h).via

pub returns-clause-cost : goal.returns-clause-cost
unfolding network network_in
returns-clause-cost c = λ link h. (link_range c.args.self.now.core link c.args.self.now.sound h).cost

pub returns-clause-apart : goal.returns-clause-apart
unfolding network network_in
returns-clause-apart c = λ link h. (link_range c.args.self.now.core link c.args.self.now.sound h).apart

pub returns-clause-links : goal.returns-clause-links
unfolding network network_in
returns-clause-links c = let bound = links_few c.args.self.now.core c.args.self.now.sound in omega (arith, bound)

pub returns-clause-once : goal.returns-clause-once
unfolding network network_in
returns-clause-once c = c.args.self.now.sound.once
