use Rattle.std.proofs.Common.{rules, ◌≡◌}
use Rattle.std.specs.Arc.{arc_value}
use Rattle.shared_hall.proofs.FirstEntries.{published_settings}
use Rattle.shared_hall.proofs.entries.opened.Goals as goal

pub first-requires : goal.first-requires
first-requires c =
    let under : (arc_value c.in-Published.venue).settings ≡ arc_value c.args.settings.now =
    published_settings c.args.entry.act c.in-Published.venue (arc_value c.args.settings.now) c.in-Published.is c.requires.settings in
    search rules
