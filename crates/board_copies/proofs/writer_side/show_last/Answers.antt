use Rattle.std.proofs.Common.{rules, ◌≡◌, drop, fold, sym, ap, ◌∙◌, subst}
use Rattle.std.specs.Arc.{arc_value}
use mathlib.Core.List.{IsPrefix}
use Rattle.board_copies.specs.declared.held.Held.{Held}
use Rattle.board_copies.specs.declared.held.Ready.{Ready}
use Rattle.board_copies.specs.Stamps.{entries_of}
use Rattle.board_copies.specs.Rules.{list_of}
use Rattle.board_copies.proofs.Steps.{publishes}
use Rattle.board_copies.proofs.Queued.{fold_ends}
use Rattle.board_copies.proofs.writer_side.show_last.Goals as goal

pub publish_as-writer-requires : goal.publish_as-writer-requires
publish_as-writer-requires g c next is =
    let now : arc_value next.held ≡ arc_value c.args.last = is ∙ fold_ends _ _ (arc_value c.args.last) c.requires.last in
    publishes _ _ c.args.writer.desk.shown.value next
    (subst (λ (h : Held). IsPrefix (list_of c.args.writer.desk.shown.value) (entries_of h.stamp)) (sym now) c.requires.begins)
    (ap (λ (h : Held). h.stamp.seen.book) now ∙ c.requires.book)

pub returns-clause-shown : goal.returns-clause-shown
returns-clause-shown g c =
    let values : arc_value c.publish_as-writer.result.0.desk.shown.value.held ≡ fold (λ (k : Held) (q : Ready). arc_value q.held) (arc_value c.args.writer.desk.shown.value.held) (drop c.args.writer.behind c.args.writer.log.items) = search rules in
    values ∙ fold_ends _ _ (arc_value c.args.last) c.requires.last
