use Rattle.std.proofs.Common.{rules, arith, ◌≡◌, ◌+◌, All, List, [], ◌∷◌, ◌++◌, ap, subst, sym, ◌∙◌, Global}
use Rattle.std.proofs.lemmas.List.Elements.{All-pop}
use Rattle.left_right.specs.Sides.{view}
use Rattle.left_right.specs.declared.reader.Reader.{Reader}
use Rattle.board_copies.specs.declared.held.Side.{Side}
use Rattle.board_copies.specs.declared.rule.Law.{Law}
use Rattle.board_copies.specs.declared.view.View.{View}
use Rattle.board_copies.specs.Rules.{whole}
use Rattle.board_copies.specs.Stamps.{entries_of}
use Rattle.venue_hall.specs.Facts.{Facts}
use Rattle.shared_hall.specs.Offices.{parts_of, AreNumbered}
use Rattle.shared_hall.proofs.Passes.{numbered_push, parts_push}
use Rattle.shared_hall.proofs.office.start.passes_of.Goals as goal

pub loop-reader-preserved : goal.loop-reader-preserved
loop-reader-preserved g c =
    let i = c.loop-reader.invariant in
    let xs : List Facts = c.loop-reader.passes.items in
    let p : Facts = c.pass_of.result in
    let grown : c.push.new.self.items ≡ xs ++ p ∷ [] = search rules in
    let numbered : AreNumbered 1 (xs ++ p ∷ []) = numbered_push 1 xs p i.4 (omega (arith, c.pass_of.ensures.worker, i.3)) in
    let parts : parts_of c.push.new.self.items ≡ parts_of xs + p.parts = ap parts_of grown ∙ parts_push xs p in
    let Fresh : Reader Side View Law Global → Type 0 = λ reader. view reader.place ≡ whole (entries_of c.args.held.now.stamp) g.N.HallName.book in
    let pop = c.pop-in-loop-reader in
    let left : All Fresh pop.new.self.items = (All-pop Fresh c.loop-reader.readers.items pop.new.self.items pop.result pop.ensures.items i.0).0 in
    (left, search rules, search rules, search rules, subst (AreNumbered 1) (sym grown) numbered, search (rules, arith), search rules, search rules)

pub returns-clause-numbered : goal.returns-clause-numbered
returns-clause-numbered g c =
    let i = c.loop-reader.invariant in
    let xs : List Facts = c.loop-reader.passes.items in
    let p : Facts = c.pass_of-2.result in
    let grown : c.push-2.new.self.items ≡ xs ++ p ∷ [] = search rules in
    subst (AreNumbered 1) (sym grown) (numbered_push 1 xs p i.4 (omega (arith, c.pass_of-2.ensures.worker, i.3)))
