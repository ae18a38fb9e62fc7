use Rattle.std.proofs.Common.{OnOk, sym, subst}
use Rattle.venue_types.specs.declared.reply.Reply.{Reply}
use Rattle.wire_replies.specs.Bodies.{body_of}
use Rattle.wire_replies.specs.Tokens.{Adds, data_tokens}
use Rattle.wire_replies.proofs.replies.ReplyWritten.write_to.Goals as goal

pub returns-in-JournalFault : goal.returns-in-JournalFault
returns-in-JournalFault c =
    let wrote = c.write_error-in-JournalFault in
    subst (λ (r : Reply). OnOk wrote.result (Adds (data_tokens (body_of r)) c.args.out.now wrote.new.out)) (sym c.in-JournalFault.is) wrote.ensures
