use Rattle.std.proofs.Common.{flat_map}
use Rattle.wire_replies.specs.Tokens.{Adds, text_tokens}
use Rattle.wire_replies.proofs.labels.write_members.Given as goal

abbrev pub invariant-loop-tag : goal.invariant-loop-tag
invariant-loop-tag l = Adds (flat_map text_tokens l.yielded) l.initial.out l.out
