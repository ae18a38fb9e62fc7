use Rattle.std.proofs.Common.{◌≡◌, sym, ap, subst}
use Rattle.std.specs.Arc.{arc_value}
use mathlib.Core.List.{IsPrefix}
use Rattle.board_copies.specs.declared.held.Held.{Held}
use Rattle.board_copies.specs.Stamps.{entries_of}
use Rattle.board_copies.specs.Rules.{list_of}
use Rattle.board_copies.proofs.Fronts.{prefix_self}
use Rattle.board_copies.proofs.Queued.{stays}
use Rattle.board_copies.proofs.Steps.{publishes}
use Rattle.board_copies.proofs.writer_side.settle.Goals as goal

pub publish_as-writer-requires : goal.publish_as-writer-requires
publish_as-writer-requires g c next is =
    let was : Held = arc_value c.args.writer.desk.shown.value.held in
    let now : arc_value next.held ≡ was = stays _ was _ is c.requires.idle in
    publishes _ _ c.args.writer.desk.shown.value next
    (subst (λ (h : Held). IsPrefix (list_of c.args.writer.desk.shown.value) (entries_of h.stamp)) (sym now) (prefix_self (list_of c.args.writer.desk.shown.value)))
    (ap (λ (h : Held). h.stamp.seen.book) now)
