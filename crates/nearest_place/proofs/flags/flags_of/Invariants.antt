use Rattle.std.proofs.Common.{◌≡◌, take, vec_len}
use Rattle.nearest_place.specs.Entries.{AreFlags}
use Rattle.nearest_place.proofs.flags.flags_of.Given as goal

abbrev pub invariant-loop-node : goal.invariant-loop-node
invariant-loop-node l = AreFlags (take l.node-index l.targets) l.flags.items × (vec_len l.flags ≡ l.nodes)
