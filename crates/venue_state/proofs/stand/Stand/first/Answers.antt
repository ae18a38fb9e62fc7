-- The marks of a new graph mark nothing for anybody, and they are those of the venue.
use Rattle.std.proofs.Common.{◌∙◌, length, ap, sym, refl}
use Rattle.std.specs.Arc.{arc_value}
use Rattle.route_search.specs.Nodes.{closables}
use Rattle.venue_state.proofs.Marking.{none_closed}
use Rattle.venue_state.proofs.Stands.{version_so}
use Rattle.venue_state.proofs.stand.Stand.first.Goals as goal

pub returns-clause-stands : goal.returns-clause-stands
returns-clause-stands c =
    let same = c.graph.ensures.closables_are ∙ ap (λ v. closables v.features) c.deref.ensures in
    let none = none_closed c.in_ok-marks.marks (closables (arc_value c.args.venue).features) c.in_ok-marks.ensures.nobody in
    record {
      marks_are = c.in_ok-marks.ensures.marks ∙ ap length same;
      count_is = sym (ap length none);
      settings_are = c.requires;
      number_is = (arc_value c.args.settings).version_some;
    }

pub returns-clause-opens : goal.returns-clause-opens
returns-clause-opens c =
    version_so _ _ refl refl refl (none_closed c.in_ok-marks.marks (closables (arc_value c.args.venue).features) c.in_ok-marks.ensures.nobody)
