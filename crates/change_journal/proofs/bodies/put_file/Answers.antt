-- A file, of which the head waits.
use Rattle.std.proofs.Common.{◌∷◌, ◌++◌, length}
use Rattle.std.specs.Int.{bytes_high_first}
use Rattle.std.proofs.lemmas.Result.{IfOk-weaker, on_err_weaker}
use Rattle.change_journal.specs.Puts.{Puts, GivesUp}
use Rattle.change_journal.proofs.Putting.{holds_back, joined, given_up}
use Rattle.change_journal.proofs.bodies.put_file.Goals as goal

pub returns-else-is_empty-clause-ok : goal.returns-else-is_empty-clause-ok
returns-else-is_empty-clause-ok g c =
    let old = g.K.Disk.moments c.args.disk.now in
    let new = g.K.Disk.moments c.put_bytes.new.disk in
    let place = c.args.place in
    let waiting = c.args.waiting.now.items in
    let later = c.push_head.new.waiting.items in
    let bytes = c.args.bytes.now in
    let head = 1 ∷ bytes_high_first 8 (length bytes) in
    let last = c.put_bytes.new.waiting.items in
    let first = holds_back place waiting later head old c.push_head.ensures c.requires.within in
    IfOk-weaker _ (λ next. Puts place later next last bytes old new) (λ next. Puts place waiting next last (head ++ bytes) old new)
    (λ next then. joined place waiting place later head next last bytes old old new first then) c.put_bytes.ensures.ok

pub returns-else-is_empty-clause-err : goal.returns-else-is_empty-clause-err
returns-else-is_empty-clause-err g c =
    let old = g.K.Disk.moments c.args.disk.now in
    let new = g.K.Disk.moments c.put_bytes.new.disk in
    let place = c.args.place in
    let waiting = c.args.waiting.now.items in
    let later = c.push_head.new.waiting.items in
    let head = 1 ∷ bytes_high_first 8 (length c.args.bytes.now) in
    let first = holds_back place waiting later head old c.push_head.ensures c.requires.within in
    on_err_weaker {Q = GivesUp place waiting old new} _ (λ gives. given_up place waiting place later head old old new first gives) c.put_bytes.ensures.err
