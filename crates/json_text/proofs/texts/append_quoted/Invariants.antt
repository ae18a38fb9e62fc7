use Rattle.std.proofs.Common.{◌≡◌, length}
use Rattle.json_text.specs.Compact.{escaped}
use Rattle.json_text.specs.Drafts.{onto}
use Rattle.json_text.proofs.texts.append_quoted.Given as goal

abbrev pub invariant-loop-behind : goal.invariant-loop-behind
invariant-loop-behind l = onto l.out (escaped l.rest) ≡ onto l.initial.out (escaped l.bytes)

abbrev pub decreases-loop-behind : goal.decreases-loop-behind
decreases-loop-behind l = length l.rest
