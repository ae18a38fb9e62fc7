use Rattle.std.proofs.Common.{◌≤◌, length, drop}
use Rattle.exact_json.specs.View.{members_view}
use Rattle.imdf_schema.proofs.Names.{AreSeen}
use Rattle.imdf_schema.proofs.texts.last_are_texts.Given as goal

-- the names from that place on were seen, and the last value of each is a text
abbrev pub invariant-loop-left : goal.invariant-loop-left
invariant-loop-left l = (l.left ≤ length l.pairs) × AreSeen l.names (members_view (drop l.left l.pairs))

abbrev pub decreases-loop-left : goal.decreases-loop-left
decreases-loop-left l = l.left
