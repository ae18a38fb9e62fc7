use Rattle.link_graph.proofs.Insides.{unit_link, link_there}
use Rattle.link_graph.proofs.laws.inside_law.Goals as goal

pub returns : goal.returns
returns c = λ features settings link u by. (unit_link features settings link u by, link_there features settings link u by)
