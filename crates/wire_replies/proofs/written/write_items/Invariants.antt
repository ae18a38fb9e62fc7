use Rattle.std.proofs.Common.{take, flat_map}
use Rattle.wire_replies.specs.Tokens.{Adds, data_tokens}
use Rattle.wire_replies.proofs.written.write_items.Given as goal

abbrev pub invariant-loop-item : goal.invariant-loop-item
invariant-loop-item g l =
    Adds (flat_map (λ x. data_tokens (g.T.Written.shown x)) (take l.item-index l.items)) l.initial.out l.out
