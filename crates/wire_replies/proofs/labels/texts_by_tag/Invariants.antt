use Rattle.std.proofs.Common.{◌≡◌, take}
use Rattle.wire_replies.specs.Bodies.{label_members}
use Rattle.wire_replies.specs.Tokens.{text_members}
use Rattle.wire_replies.proofs.labels.texts_by_tag.Given as goal

abbrev pub invariant-loop-label : goal.invariant-loop-label
invariant-loop-label l = text_members l.texts.entries ≡ label_members (take l.label-index l.labels)
