use Rattle.std.proofs.Common.{arith, ◌≡◌, List, length, ap, sym, subst, ◌∙◌}
use Rattle.std.specs.Arc.{arc_value}
use mathlib.Core.List.{IsPrefix}
use Rattle.venue_hall.specs.Entry.{Entry}
use Rattle.venue_hall.specs.Standing.{AreRecordsOf}
use Rattle.board_copies.proofs.Fronts.{prefix_self}
use Rattle.board_copies.specs.Rules.{list_of, book_of}
use Rattle.board_copies.specs.declared.held.Held.{Held}
use Rattle.board_copies.specs.declared.held.Side.{Side}
use Rattle.shared_hall.proofs.office.start.open_kept.Goals as goal

pub invariant_of-office : goal.invariant_of-office
invariant_of-office g c =
    let copies = c.args.copies in
    let side : Side = copies.keeper.writer.desk.shown.value in
    let shown : c.open_passes.new.writer.desk.shown.value ≡ side = c.open_passes.ensures.shown in
    let opened : list_of c.open_passes.new.writer.desk.shown.value ≡ g.N.HallName.opening = ap list_of shown ∙ c.requires.opening in
    let count : length (list_of c.open_passes.new.writer.desk.shown.value) ≡ length g.N.HallName.opening = ap (λ (h : List Entry). length h) opened in
    let number : (arc_value c.open_passes.new.writer.desk.shown.value.held).board.number ≡ length (list_of c.open_passes.new.writer.desk.shown.value) = c.number_law.ensures _ _ (arc_value c.open_passes.new.writer.desk.shown.value.held).stands in (
      c.requires.book,
      ap book_of shown ∙ (copies.book_is ∙ c.requires.book),
      copies.settings_are ∙ sym (ap (λ (s : Side). (arc_value s.held).board.settings) shown),
      c.number-start.ensures ∙ (ap (λ (h : Held). h.board.number) (c.deref.ensures ∙ ap (λ (s : Side). arc_value s.held) c.published.ensures) ∙ (number ∙ count)),
      omega (arith, c.open-book.ensures.total, count),
      subst (IsPrefix g.N.HallName.opening) (sym opened) (prefix_self g.N.HallName.opening),
      c.requires.count,
      c.requires.files,
      c.requires.length ∙ sym (ap (λ (s : Side). length (list_of s)) shown),
      subst (λ (s : Side). AreRecordsOf (g.J.Log.records c.args.log) (list_of s)) (sym shown) c.requires.records,
      c.requires.log_count,
    )
