use Rattle.std.proofs.Common.{refl}
use Rattle.std.specs.Fmt.{digits}
use Rattle.wire_replies.proofs.heads.status_line.Goals as goal

pub returns-in-Ok : goal.returns-in-Ok
unfolding digits
returns-in-Ok c = rw c.in-Ok.is refl

pub returns-in-NotFound : goal.returns-in-NotFound
unfolding digits
returns-in-NotFound c = rw c.in-NotFound.is refl

pub returns-in-Conflict : goal.returns-in-Conflict
unfolding digits
returns-in-Conflict c = rw c.in-Conflict.is refl

pub returns-in-Unprocessable : goal.returns-in-Unprocessable
unfolding digits
returns-in-Unprocessable c = rw c.in-Unprocessable.is refl

pub returns-in-BadGateway : goal.returns-in-BadGateway
unfolding digits
returns-in-BadGateway c = rw c.in-BadGateway.is refl

pub returns-in-Unavailable : goal.returns-in-Unavailable
unfolding digits
returns-in-Unavailable c = rw c.in-Unavailable.is refl
