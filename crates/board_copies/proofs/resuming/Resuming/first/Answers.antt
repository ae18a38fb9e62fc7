use Rattle.std.proofs.Common.{rules, ◌≡◌, ◌∷◌, [], ◌∙◌, ap, subst}
use Rattle.std.specs.Arc.{arc_value}
use Rattle.venue_state.specs.Venues.{SeenVenue as Venue}
use Rattle.venue_state.specs.Report.{AreValid}
use Rattle.venue_state.specs.Versions.{opening}
use Rattle.venue_state.specs.Act.TheVariants.{Published}
use Rattle.board_copies.specs.Stamps.{entries_of}
use Rattle.board_copies.proofs.Standing.{begins}
use Rattle.board_copies.proofs.resuming.Resuming.first.Goals as goal

pub invariant_of-result : goal.invariant_of-result
invariant_of-result c =
    let seen : AreValid c.deref.result.now.features c.deref.result.now.settings = record { sound = c.every_venue.ensures.sound; unbroken = c.every_venue.ensures.silent } in
    let valid = subst (λ (v : Venue). AreValid v.features v.settings) c.deref.ensures seen in
    let at : c.in_ok-version.version ≡ opening (arc_value c.args.venue).features (arc_value c.args.settings) =
    c.in_ok-version.ensures ∙ ap (λ (v : Venue). opening v.features (arc_value c.args.settings)) c.in_ok-try_clone.ensures in
    let one : entries_of c.in_ok-stamp.stamp ≡ record { worker = 0; act = Published c.args.venue } ∷ [] = search rules in
    record { stands = begins c.args.venue (arc_value c.args.settings) c.in_ok-version.version (entries_of c.in_ok-stamp.stamp) valid c.requires at one; book = search rules }
