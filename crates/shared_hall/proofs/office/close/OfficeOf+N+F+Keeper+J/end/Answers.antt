use Rattle.std.proofs.Common.{arith, ◌≡◌, length, ap, subst, ◌∙◌}
use Rattle.std.specs.Arc.{arc_value}
use mathlib.Core.List.{IsPrefix}
use Rattle.board_copies.specs.Rules.{list_of}
use Rattle.board_copies.specs.declared.held.Held.{Held}
use Rattle.board_copies.specs.declared.held.Side.{Side}
use Rattle.shared_hall.specs.Offices.{OfficeFacts}
use Rattle.shared_hall.proofs.office.close.OfficeOf+N+F+Keeper+J.end.Goals as goal

pub overflow_sub-result : goal.overflow_sub-result
overflow_sub-result g c =
    let side : Side = c.self.inside.keeper.writer.desk.shown.value in
    let read : c.deref.result.now ≡ arc_value side.held = c.deref.ensures ∙ ap (λ (s : Side). arc_value s.held) c.published.ensures in
    let number : c.number-number.result ≡ length (list_of side) = c.number-number.ensures ∙ (ap (λ (h : Held). h.board.number) read ∙ c.number_law.ensures _ _ (arc_value side.held).stands) in
    omega (arith, number, c.self.invariant.3, c.self.invariant.4)

pub returns-clause-number : goal.returns-clause-number
returns-clause-number g c =
    let side : Side = c.self.inside.keeper.writer.desk.shown.value in
    let read : c.deref.result.now ≡ arc_value side.held = c.deref.ensures ∙ ap (λ (s : Side). arc_value s.held) c.published.ensures in
    let number : c.number-number.result ≡ length (list_of side) = c.number-number.ensures ∙ (ap (λ (h : Held). h.board.number) read ∙ c.number_law.ensures _ _ (arc_value side.held).stands) in
    number ∙ ap (λ (o : OfficeFacts). length o.entries) c.self.view_is

pub returns-clause-told : goal.returns-clause-told
returns-clause-told g c =
    let side : Side = c.self.inside.keeper.writer.desk.shown.value in
    let read : c.deref.result.now ≡ arc_value side.held = c.deref.ensures ∙ ap (λ (s : Side). arc_value s.held) c.published.ensures in
    let number : c.number-number.result ≡ length (list_of side) = c.number-number.ensures ∙ (ap (λ (h : Held). h.board.number) read ∙ c.number_law.ensures _ _ (arc_value side.held).stands) in
    let all : c.args.all.amount ≡ c.self.inside.book.total = c.audit.ensures.whole c.requires in
    omega (arith, number, c.self.invariant.3, c.self.invariant.4, all)

pub returns-clause-counted : goal.returns-clause-counted
returns-clause-counted g c =
    let side : Side = c.self.inside.keeper.writer.desk.shown.value in
    let read : c.deref.result.now ≡ arc_value side.held = c.deref.ensures ∙ ap (λ (s : Side). arc_value s.held) c.published.ensures in
    let number : c.number-number.result ≡ length (list_of side) = c.number-number.ensures ∙ (ap (λ (h : Held). h.board.number) read ∙ c.number_law.ensures _ _ (arc_value side.held).stands) in
    omega (arith, number, c.self.invariant.3, c.self.invariant.4)

pub returns-clause-opened : goal.returns-clause-opened
returns-clause-opened g c = subst (λ (o : OfficeFacts). IsPrefix g.N.HallName.opening o.entries) c.self.view_is c.self.invariant.5
