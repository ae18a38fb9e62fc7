use Rattle.std.proofs.Common.{◌∙◌}
use Rattle.serde_json.proofs.Texts.{print-outline}
use Rattle.wire_replies.proofs.Lists.{whole}
use Rattle.wire_replies.proofs.reply.body_text.Goals as goal

pub returns : goal.returns
returns g c =
    let written = c.in_ok-write_to.ensures in
    c.into_inner.ensures.items
    ∙ whole c.new-out.ensures.tokens (c.new-out.ensures.before ∙ c.in_ok-with_capacity.ensures.items) written
    ∙ print-outline (g.T.Written.shown c.args.body.now)
