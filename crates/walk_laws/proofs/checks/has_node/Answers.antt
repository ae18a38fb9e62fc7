use Rattle.std.proofs.Common.{rules}
use Rattle.walk_laws.proofs.Nodes.{found_exactly}
use Rattle.walk_laws.proofs.checks.has_node.Goals as goal

pub returns : goal.returns
returns c = search (rules, found_exactly)
