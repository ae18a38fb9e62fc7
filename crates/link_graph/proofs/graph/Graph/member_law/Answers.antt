use Rattle.link_graph.specs.Graphs.{network}
use Rattle.link_graph.proofs.LeadingEnds.{stands_out, out_stands}
use Rattle.link_graph.proofs.graph.Graph.member_law.Goals as goal

pub returns : goal.returns
unfolding network
returns c = λ link. (λ h. stands_out c.args.self.now.core link c.args.self.now.sound h, λ h. out_stands c.args.self.now.core link h.1 h.2)
