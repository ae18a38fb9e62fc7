-- Where nothing more was seen, what was seen still leads to a version.
use Rattle.std.proofs.Common.{sym, subst}
use Rattle.board_copies.specs.declared.view.View.{View}
use Rattle.venue_hall.specs.Histories.{IsLegal}
use Rattle.shared_hall.proofs.office.PassOf+N+SideReader.ask.Goals as goal

pub returns-in-None-clause-reply : goal.returns-in-None-clause-reply
returns-in-None-clause-reply g c =
    let legal = subst (λ (v : View). IsLegal v.seen) (sym c.in-None.ensures.gone) c.self.invariant.3 in
    let at = c.legal_law.ensures _ legal in
    (at.0, at.1, tt)
