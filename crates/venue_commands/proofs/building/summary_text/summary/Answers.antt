use Rattle.std.proofs.Common.{◌∙◌, ◌<◌, sym, ap, subst, string_bytes}
use Rattle.std.specs.Arc.{arc_value}
use Rattle.venue_types.specs.declared.settings.Settings.{Settings}
use Rattle.version_board.specs.Histories.{opening_of}
use Rattle.version_board.specs.Halls.{facts_of}
use Rattle.venue_commands.specs.Costs.{size_lines}
use Rattle.venue_commands.proofs.Seeing.{opens}
use Rattle.venue_commands.proofs.Summing.{summed}
use Rattle.venue_commands.proofs.building.summary_text.summary.Goals as goal

pub returns : goal.returns
returns c =
    let venue = arc_value c.args.venue in
    let hall = c.in_ok-hall.hall in
    let stands = opens (facts_of hall).seen c.args.venue hall.held.board c.in_ok-hall.ensures hall.held.stands in
    let room = subst (λ (s : Settings). 1 < s.last_version) (sym c.requires.settings) c.requires.room in
    let acts = c.in_ok-acts.ensures (opening_of venue) room stands in
    summed c.args.levels venue (string_bytes c.in_ok-size.size) (string_bytes c.in_ok-acts.acts) (string_bytes c.in_ok-text.text)
    (c.in_ok-size.ensures ∙ ap size_lines c.deref.ensures) acts c.in_ok-text.ensures.ok
