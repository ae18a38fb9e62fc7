-- The handles are to the venue and to the settings of what was left.
use Rattle.std.proofs.Common.{◌∙◌, ◌+◌, ◌<◌, ◌≤◌, ap, sym, refl, subst, arith}
use Rattle.std.specs.Arc.{arc_value}
use Rattle.venue_types.specs.declared.settings.Settings.{Settings}
use Rattle.route_search.specs.Nodes.{closables}
use Rattle.venue_history.specs.Venues.{SeenVenue as Venue}
use Rattle.venue_state.specs.Boards.{version_of}
use Rattle.venue_state.proofs.Stands.{stands_over}
use Rattle.venue_state.proofs.outgoing.Outgoing.next_stand.Goals as goal

pub returns-clause-stands : goal.returns-clause-stands
returns-clause-stands c =
    let left = c.args.self.now in
    let room : left.number < (arc_value left.settings).last_version = c.requires.room in
    let next : left.number + 1 ≤ (arc_value left.settings).last_version = omega (arith, room) in
    stands_over _ (closables (arc_value c.args.venue.now).features) (ap (λ (v : Venue). closables v.features) c.in_ok-venue.ensures) c.requires.tallied
    (ap (λ (v : Venue). v.settings) c.in_ok-venue.ensures ∙ c.requires.settings ∙ sym c.in_ok-settings.ensures)
    (subst (λ (s : Settings). left.number + 1 ≤ s.last_version) (sym c.in_ok-settings.ensures) next)

pub returns-clause-next : goal.returns-clause-next
unfolding version_of
returns-clause-next c = rw (c.in_ok-venue.ensures, c.in_ok-settings.ensures) refl
