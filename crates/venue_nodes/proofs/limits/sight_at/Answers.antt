use Rattle.std.proofs.Common.{◌≤◌, length, sym, ap, ◌∙◌}
use Rattle.std.specs.Option.{option_copied}
use Rattle.std.proofs.lemmas.List.Elements.{All-contains}
use Rattle.venue_types.proofs.Items.{member_at}
use Rattle.venue_types.specs.declared.features.UnitRow.{UnitRow}
use Rattle.plane_exact.specs.Figure.{vertices}
use Rattle.venue_nodes.proofs.CornerTotals.{few_points}
use Rattle.venue_nodes.proofs.limits.sight_at.Goals as goal

pub sight_of-requires-clause-few_points : goal.sight_of-requires-clause-few_points
sight_of-requires-clause-few_points c =
    let features = c.args.features.now in
    All-contains (λ (row : UnitRow). length (vertices row.shape) ≤ 1000000) features.units c.in-Some.unit.now (few_points features c.requires.sound)
    (member_at features.units c.args.k c.in-Some.unit.now (sym c.get.ensures ∙ ap option_copied c.in-Some.is))
