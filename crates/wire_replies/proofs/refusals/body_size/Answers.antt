use Rattle.std.proofs.Common.{refl}
use Rattle.std.specs.Fmt.{digits}
use Rattle.json.specs.Print.{escape_byte}
use Rattle.wire_replies.proofs.refusals.body_size.Goals as goal

pub returns-in-HeadTooLarge : goal.returns-in-HeadTooLarge
unfolding digits escape_byte
returns-in-HeadTooLarge c = rw c.in-HeadTooLarge.is refl

pub returns-in-BadHead : goal.returns-in-BadHead
unfolding digits escape_byte
returns-in-BadHead c = rw c.in-BadHead.is refl

pub returns-in-TransferCoding : goal.returns-in-TransferCoding
unfolding digits escape_byte
returns-in-TransferCoding c = rw c.in-TransferCoding.is refl

pub returns-in-BodyTooLarge : goal.returns-in-BodyTooLarge
unfolding digits escape_byte
returns-in-BodyTooLarge c = rw c.in-BodyTooLarge.is refl

pub returns-in-NoPath : goal.returns-in-NoPath
unfolding digits escape_byte
returns-in-NoPath c = rw c.in-NoPath.is refl

pub returns-in-Method : goal.returns-in-Method
unfolding digits escape_byte
returns-in-Method c = rw c.in-Method.is refl

pub returns-in-NotStaff : goal.returns-in-NotStaff
unfolding digits escape_byte
returns-in-NotStaff c = rw c.in-NotStaff.is refl

pub returns-in-BadBody : goal.returns-in-BadBody
unfolding digits escape_byte
returns-in-BadBody c = rw c.in-BadBody.is refl

pub returns-in-BadQuery : goal.returns-in-BadQuery
unfolding digits escape_byte
returns-in-BadQuery c = rw c.in-BadQuery.is refl
