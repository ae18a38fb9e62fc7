use Rattle.change_journal.proofs.Looking.{stays_either, stayed_only, synced_only, synced_settled, then_read}
use Rattle.change_journal.proofs.reader.settle.Goals as goal

pub returns-in_err-sync-clause-only : goal.returns-in_err-sync-clause-only
returns-in_err-sync-clause-only g c =
    stayed_only (g.K.Disk.moments c.args.disk.now) (g.K.Disk.moments c.sync.new.self) c.in_err-sync.ensures.err

pub returns-clause-only : goal.returns-clause-only
returns-clause-only g c =
    let old = g.K.Disk.moments c.args.disk.now in
    let mid = g.K.Disk.moments c.sync.new.self in
    let new = g.K.Disk.moments c.len.new.self in
    let goes = stays_either mid new c.len.result c.len.ensures.ok c.len.ensures.err in
    then_read old mid new (synced_only old mid c.in_ok-sync.ensures.ok) (synced_settled old mid c.in_ok-sync.ensures.ok) (stayed_only mid new goes)
