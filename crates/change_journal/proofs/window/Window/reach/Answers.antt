use Rattle.std.proofs.lemmas.Result.{on_ok_weaker}
use Rattle.change_journal.specs.Looks.{IsHere}
use Rattle.change_journal.proofs.window.Window.reach.Goals as goal

pub returns-clause-here : goal.returns-clause-here
returns-clause-here g c =
    on_ok_weaker {Q = IsHere c.refill.new.self.start c.refill.new.self.held c.args.place c.args.count} _
    (λ here. here c.args.count c.requires.few c.requires.within) c.refill.ensures.here
