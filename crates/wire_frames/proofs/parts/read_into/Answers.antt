-- A complete answer is the whole head's; an error would want more fields than there are lines.
use Rattle.std.proofs.Common.{◌≡◌, length, ap, arith}
use Rattle.httparse.specs.Borrowed.{HoldsSomeRequest}
use Rattle.httparse.proofs.HeadLemmas.{at_complete}
use Rattle.wire_frames.proofs.PartLemmas.{read_of, ok_of, err_of, overflow_bad}
use Rattle.wire_frames.proofs.parts.read_into.Goals as goal

pub returns-in-Ok-Complete-clause-ok : goal.returns-in-Ok-Complete-clause-ok
returns-in-Ok-Complete-clause-ok c =
    let holds = at_complete (HoldsSomeRequest c.args.head.now c.parse.new.self) c.in-Ok-Complete.is c.in-Ok-Complete.field-0-is c.parse.ensures.complete in
    ok_of c.args.head.now c.args.lines c.parse.new.self c.judge.result (omega arith)
    (read_of c.args.head.now c.args.lines c.in-Ok-Complete.field-0-0 c.parse.new.self c.requires.whole holds) c.judge.ensures.ok

pub returns-in-Ok-Complete-clause-err : goal.returns-in-Ok-Complete-clause-err
returns-in-Ok-Complete-clause-err c =
    let holds = at_complete (HoldsSomeRequest c.args.head.now c.parse.new.self) c.in-Ok-Complete.is c.in-Ok-Complete.field-0-is c.parse.ensures.complete in
    err_of c.args.head.now c.args.lines c.parse.new.self c.judge.result (omega arith)
    (read_of c.args.head.now c.args.lines c.in-Ok-Complete.field-0-0 c.parse.new.self c.requires.whole holds) c.judge.ensures.err

pub returns-in-Err-clause-err : goal.returns-in-Err-clause-err
returns-in-Err-clause-err c =
    let room : length c.new-request.result.headers.now ≡ length c.args.headers.now = ap (λ hs. length hs) c.new-request.ensures.room in (
      c.requires.few,
      overflow_bad c.args.head.now c.args.lines (length c.args.headers.now) c.requires.whole c.requires.room
          (λ more h rest reads. let over = c.in-Err.ensures.no_room more h rest reads in omega (arith, room, over)),
    )
