use Rattle.std.proofs.Common.{rules, ◌≡◌, sym, subst}
use Rattle.venue_build.specs.Report.{AreValid}
use Rattle.venue_build.specs.Venues.{SeenVenue as Venue}
use Rattle.venue_history.specs.Histories.{IsLegal}
use Rattle.venue_history.specs.Openings.{opening_history}
use Rattle.venue_history.proofs.Publishing.{opening_legal}
use Rattle.venue_history.proofs.opening.opening_entries.Goals as goal

pub returns-clause-legal : goal.returns-clause-legal
returns-clause-legal c =
    let seen : AreValid c.deref.result.now.features c.deref.result.now.settings = record { sound = c.every_venue.ensures.sound; unbroken = c.every_venue.ensures.silent } in
    let valid = subst (λ (v : Venue). AreValid v.features v.settings) c.deref.ensures seen in
    let grown : c.push.new.self.items ≡ opening_history c.args.venue = search rules in
    subst IsLegal (sym grown) (opening_legal c.args.venue valid)
