use Rattle.link_graph.specs.Graphs.{network}
use Rattle.link_graph.proofs.LeadingStretches.{are_stretches}
use Rattle.link_graph.proofs.graph.Graph.stretch_law.Goals as goal

pub returns : goal.returns
unfolding network
returns c = λ n within. are_stretches c.args.self.now.core n c.args.self.now.sound
