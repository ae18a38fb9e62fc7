use Rattle.std.proofs.Common.{rules, ◌≡◌, ◌∙◌}
use Rattle.std.specs.Arc.{arc_value}
use Rattle.venue_history.specs.Closed.{Version}
use Rattle.test_journal.proofs.shared.three_entries.Goals as goal

pub returns-clause-settings : goal.returns-clause-settings
returns-clause-settings c e venue has is =
    let first : c.in_ok-first.first.settings ≡ arc_value c.args.settings.now = search rules in
    let second = c.in_ok-second.ensures in
    let third = c.in_ok-_third.ensures in
    c.version_law.ensures.all_settings _ _ e venue third.stands has is ∙ (third.settings ∙ (second.settings ∙ first))
