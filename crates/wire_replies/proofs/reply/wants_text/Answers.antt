use Rattle.std.proofs.Common.{refl}
use Rattle.std.specs.Fmt.{digits}
use Rattle.json.specs.Print.{escape_byte}
use Rattle.wire_replies.proofs.reply.wants_text.Goals as goal

pub returns-then-close : goal.returns-then-close
unfolding digits escape_byte
returns-then-close c = rw c.if-close.true refl

pub returns-else-close : goal.returns-else-close
unfolding digits escape_byte
returns-else-close c = rw c.if-close.false refl
