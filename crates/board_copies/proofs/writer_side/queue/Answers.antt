use Rattle.std.proofs.Common.{rules, ◌≡◌, [], ◌∷◌, ◌++◌, drop, refl}
use Rattle.board_copies.proofs.writer_side.queue.Goals as goal

pub returns-clause-queued : goal.returns-clause-queued
returns-clause-queued c =
    let front = drop c.args.writer.behind c.args.writer.log.items in
    let added : drop c.append.new.self.behind c.append.new.self.log.items ≡ front ++ c.args.ready ∷ [] = search rules in
    record { before = front; last = c.args.ready; is = added; board = refl }
