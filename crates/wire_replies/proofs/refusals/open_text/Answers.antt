use Rattle.std.proofs.Common.{refl}
use Rattle.std.specs.Fmt.{digits}
use Rattle.json.specs.Print.{escape_byte}
use Rattle.wire_replies.proofs.refusals.open_text.Goals as goal

pub returns-in-NoPath : goal.returns-in-NoPath
unfolding digits escape_byte
returns-in-NoPath c = rw c.in-NoPath.is refl

pub returns-in-NotStaff : goal.returns-in-NotStaff
unfolding digits escape_byte
returns-in-NotStaff c = rw c.in-NotStaff.is refl

pub returns-in-BadBody : goal.returns-in-BadBody
unfolding digits escape_byte
returns-in-BadBody c = rw c.in-BadBody.is refl

pub returns-in-BadQuery : goal.returns-in-BadQuery
unfolding digits escape_byte
returns-in-BadQuery c = rw c.in-BadQuery.is refl
