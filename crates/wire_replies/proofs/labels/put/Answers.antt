use Rattle.std.proofs.Common.{◌∙◌, ap}
use Rattle.wire_replies.specs.Tokens.{text_members}
use Rattle.wire_replies.proofs.Tags.{texts_put}
use Rattle.wire_replies.proofs.labels.put.Goals as goal

pub returns : goal.returns
returns c = ap text_members c.in_ok-insert.ensures.entries ∙ texts_put c.args.texts.now.entries c.args.tag c.args.text
