use Rattle.std.proofs.Common.{◌||◌, length}
use Rattle.serde_json.specs.Written.{compact_text}
use Rattle.wire_replies.specs.Bodies.{refusal_body}
use Rattle.wire_replies.specs.Heads.{refusal_status, ends_session, allowed}
use Rattle.wire_replies.specs.Replies.{head_text}
use Rattle.wire_replies.proofs.Bare.{bare}
use Rattle.wire_replies.proofs.refusals.bare_bytes.Goals as goal

pub returns : goal.returns
returns c =
    let body = compact_text (refusal_body c.args.refusal) in
    bare c.refusal_bytes-text.result.now
    (head_text (refusal_status c.args.refusal) (allowed c.args.refusal) (c.args.close || ends_session c.args.refusal) (length body))
    body c.body_size.result c.saturating_sub.result c.refusal_bytes-text.ensures c.body_size.ensures c.saturating_sub.ensures
