use Rattle.std.proofs.Common.{refl}
use Rattle.std.specs.Fmt.{digits}
use Rattle.json.specs.Print.{escape_byte}
use Rattle.wire_replies.proofs.refusals.closing_method.Goals as goal

pub returns-in-Get : goal.returns-in-Get
unfolding digits escape_byte
returns-in-Get c = rw c.in-Get.is refl

pub returns-in-Post : goal.returns-in-Post
unfolding digits escape_byte
returns-in-Post c = rw c.in-Post.is refl

pub returns-in-Both : goal.returns-in-Both
unfolding digits escape_byte
returns-in-Both c = rw c.in-Both.is refl
