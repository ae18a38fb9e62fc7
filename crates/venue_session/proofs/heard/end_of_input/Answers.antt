use Rattle.std.proofs.Common.{◌≡◌, ◌<◌, [], length, refl, arith}
use Rattle.std.proofs.lemmas.Grind.{common_steps}
use Rattle.venue_session.proofs.Endings.{ends_cut, ends_done}
use Rattle.venue_session.proofs.heard.end_of_input.Goals as goal

pub returns-then-is_empty : goal.returns-then-is_empty
returns-then-is_empty c = λ keys first facts left written starts faults taken going short over.
    let none : c.args.waiting.now ≡ [] = grind (arith, common_steps) in
    ends_done keys first facts left written starts faults taken c.args.waiting.now going none over

pub returns-else-is_empty : goal.returns-else-is_empty
returns-else-is_empty c = λ keys first facts left written starts faults taken going short over.
    let some : 0 < length c.args.waiting.now = grind (arith, common_steps) in
    ends_cut keys first facts left written starts faults taken c.args.waiting.now going (length c.args.waiting.now) short some refl over
