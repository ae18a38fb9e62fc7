use Rattle.std.proofs.Common.{ap, sym, ◌∙◌}
use Rattle.venue_settings.specs.Faults.{items_in}
use Rattle.venue_settings.proofs.Lists.{list_of-items_view}
use Rattle.venue_settings.proofs.values.items_of.Goals as goal

pub returns-in-Some : goal.returns-in-Some
returns-in-Some c = rw c.deref.ensures.value (sym (list_of-items_view c.in-Some.values.now.items) ∙ ap items_in c.in-Some.ensures)
