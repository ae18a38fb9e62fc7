use Rattle.std.proofs.Common.{◌∙◌, sym, false, arith}
use Rattle.std.proofs.lemmas.List.{get_or_read}
use Rattle.std.proofs.lemmas.Option.{slice_get_read}
use Rattle.std.proofs.lemmas.List.Elements.{All-contains}
use Rattle.venue_nodes.proofs.Items.{member_at}
use Rattle.std.proofs.Common.{refl}
use Rattle.link_graph.specs.Cores.{IsCrossing, barred_in}
use Rattle.link_graph.proofs.LeadingStretches.{stretch_parts, stretch_known}
use Rattle.link_graph.proofs.outlook.seat_stretch.Goals as goal

pub returns : goal.returns
unfolding barred_in
returns c =
    let core = c.args.core.now in
    let seat = c.args.seat.now in
    let crossing = c.index-crossing.result.now in
    let here = slice_get_read core.crossings.items _ seat.row crossing refl c.requires.row c.index-crossing.ensures in
    let kept = All-contains (IsCrossing core) core.crossings.items crossing c.requires.sound.crossings (member_at core.crossings.items seat.row crossing here) in
    let within = kept.within in
    let barred = c.requires.sound.barred in
    let read = get_or_read core.barred.items crossing.via c.index.result.now (omega (arith, within, barred)) c.index.ensures false in
    stretch_parts core seat crossing c.index.result.now c.others.result read c.others.ensures ∙ sym (stretch_known core seat crossing here)
