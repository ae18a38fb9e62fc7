use Rattle.std.proofs.Common.{rules, ◌≡◌, sym, subst}
use Rattle.std.specs.Arc.{arc_value}
use mathlib.Core.List.{IsPrefix}
use Rattle.board_copies.specs.declared.held.Held.{Held}
use Rattle.board_copies.specs.Rules.{list_of}
use Rattle.board_copies.specs.Stamps.{entries_of}
use Rattle.board_copies.proofs.Fronts.{prefix_self}
use Rattle.board_copies.proofs.writer_side.fall_back.Goals as goal

pub show_last-requires-clause-begins : goal.show_last-requires-clause-begins
show_last-requires-clause-begins g c =
    let shown = c.queue-writer.result.0.desk.shown.value in
    let same : arc_value c.in-Ok-try_clone.last ≡ arc_value shown.held = search rules in
    subst (λ (h : Held). IsPrefix (list_of shown) (entries_of h.stamp)) (sym same) (prefix_self (list_of shown))
