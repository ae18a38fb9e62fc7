-- Equal parts make an equal version.
use Rattle.std.proofs.Common.{◌∙◌, ◌≤◌, List, length, ap, sym, refl, subst}
use Rattle.std.specs.Arc.{arc_value}
use Rattle.venue_types.specs.declared.profile_set.ProfileSet.{ProfileSet}
use Rattle.venue_types.specs.declared.settings.Settings.{Settings}
use Rattle.route_search.specs.Nodes.{closables}
use Rattle.venue_history.specs.Venues.{SeenVenue as Venue}
use Rattle.venue_state.specs.Boards.{closed_by, version_of}
use Rattle.venue_state.proofs.Stands.{stands_over}
use Rattle.venue_state.proofs.stand.Stand.copy.Goals as goal

pub returns-clause-stands : goal.returns-clause-stands
returns-clause-stands c =
    let old = c.args.self.now in
    let ids = closables (arc_value old.venue).features in
    stands_over _ ids (ap (λ (v : Venue). closables v.features) c.in_ok-venue.ensures)
    (record {
      whole = ap length c.in_ok-marks.ensures ∙ c.requires.marks_are;
      counted = c.requires.count_is ∙ ap (λ (ms : List ProfileSet). length (closed_by ms ids)) (sym c.in_ok-marks.ensures);
    })
    (ap (λ (v : Venue). v.settings) c.in_ok-venue.ensures ∙ c.requires.settings_are ∙ sym c.in_ok-settings.ensures)
    (subst (λ (s : Settings). old.number ≤ s.last_version) (sym c.in_ok-settings.ensures) c.requires.number_is)

pub returns-clause-same : goal.returns-clause-same
unfolding version_of
returns-clause-same c = rw (c.in_ok-venue.ensures, c.in_ok-settings.ensures, c.in_ok-marks.ensures) refl
