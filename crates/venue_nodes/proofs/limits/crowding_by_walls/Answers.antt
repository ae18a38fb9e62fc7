use Rattle.std.proofs.Common.{ℕ, ◌<◌, refl, subst, ◌∙◌}
use Rattle.venue_nodes.proofs.Limiting.{few_nodes, roomy_venue, straight_is_none}
use Rattle.venue_nodes.proofs.limits.crowding_by_walls.Goals as goal

pub returns-in-Straight : goal.returns-in-Straight
returns-in-Straight c =
    let features = c.args.features.now in
    let settings = c.args.settings.now in
    let straight = straight_is_none features settings c.in-Straight.is in
    (roomy_venue features settings c.args.rows.now c.requires.rows c.requires.roomy c.requires.squares, straight.0, straight.1)

pub returns-in-Clear : goal.returns-in-Clear
returns-in-Clear c =
    let features = c.args.features.now in
    let settings = c.args.settings.now in (
      roomy_venue features settings c.args.rows.now c.requires.rows c.requires.roomy c.requires.squares,
      (c.in-Clear.is, subst (λ (n : ℕ). 400000 < n) (c.nodes.ensures ∙ c.requires.rows.nodes_are) c.if-nodes-gt-MOST_NODES.true),
    )

pub returns-in-Clear-2 : goal.returns-in-Clear-2
returns-in-Clear-2 c =
    let features = c.args.features.now in
    let settings = c.args.settings.now in (
      roomy_venue features settings c.args.rows.now c.requires.rows c.requires.roomy c.requires.squares,
      few_nodes features settings c.args.rows.now c.nodes.result c.requires.rows c.nodes.ensures c.if-nodes-gt-MOST_NODES.false,
      (c.in-Clear-2.is, (c.if-sight_passes.ensures settings c.requires.rows).0 refl),
    )

pub returns-in-Clear-3 : goal.returns-in-Clear-3
returns-in-Clear-3 c =
    let features = c.args.features.now in
    let settings = c.args.settings.now in (
      roomy_venue features settings c.args.rows.now c.requires.rows c.requires.roomy c.requires.squares,
      few_nodes features settings c.args.rows.now c.nodes.result c.requires.rows c.nodes.ensures c.if-nodes-gt-MOST_NODES.false,
      λ much. absurd (let e = (c.if-sight_passes.ensures settings c.requires.rows).1 much.1 in cc),
    )
