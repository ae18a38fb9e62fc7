use Rattle.venue_types.specs.declared.reply.Reply.TheVariants as reply
use Rattle.wire_replies.specs.declared.response.Response.TheVariants.{Of}
use Rattle.venue_session.proofs.Wanting.{step_wants}
use Rattle.venue_session.proofs.steps.step_without_memory.Goals as goal

pub returns-else-tells_change : goal.returns-else-tells_change
returns-else-tells_change c old new message step =
    (Of reply.OutOfMemory, step_wants old new message c.args.reply.now c.if-tells_change.ensures step, c.want_of_memory.ensures)
