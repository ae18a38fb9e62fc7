use Rattle.std.proofs.Common.{◌≡◌, Some, ap, ◌∙◌}
use Rattle.venue_types.specs.declared.settings.Settings.{Settings}
use Rattle.venue_commands.specs.Linked.{profile_named}
use Rattle.venue_commands.proofs.RouteJudging.{routed_named}
use Rattle.venue_commands.proofs.route_command.routed.Goals as goal

pub returns-clause-told : goal.returns-clause-told
returns-clause-told c =
    let named : Some c.in-Some.profile.now ≡ profile_named c.args.venue.now.settings c.args.name.now =
    c.in-Some.ensures ∙ ap (λ (settings : Settings). profile_named settings c.args.name.now) c.settings.ensures in
    routed_named c.args.venue.now c.args.name.now c.args.from c.args.to c.in-Some.profile.now c.answered_between.result named c.answered_between.ensures.told
