use Rattle.std.proofs.Common.{inr}
use Rattle.change_journal.proofs.Looking.{looks_of}
use Rattle.change_journal.proofs.window.Window.refill.Goals as goal

pub returns-in_err-read_front-clause-looks : goal.returns-in_err-read_front-clause-looks
returns-in_err-read_front-clause-looks g c =
    looks_of (g.K.Disk.moments c.args.disk.now) (g.K.Disk.moments c.read_front.new.disk) c.in_err-read_front.ensures.err

pub returns-clause-looks : goal.returns-clause-looks
returns-clause-looks g c =
    looks_of (g.K.Disk.moments c.args.disk.now) (g.K.Disk.moments c.read_front.new.disk) (inr c.in_ok-read_front.ensures.ok)
