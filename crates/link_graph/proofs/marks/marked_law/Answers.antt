use Rattle.link_graph.proofs.AskingMarks.{marked_exact}
use Rattle.link_graph.proofs.marks.marked_law.Goals as goal

pub returns : goal.returns
returns c = marked_exact
